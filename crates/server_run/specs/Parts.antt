-- Parts of configurations.
use Rattle.std.specs.Prelude.{ℕ, if◌then◌else◌, List, map, bytes_eq}
use Rattle.spec_model.specs.declared.config.Pair.{Pair}
use Rattle.spec_model.specs.declared.config.Table.{Table}

-- the tables with these pairs in that one
abbrev pub tables_with : List Table → List ℕ → List Pair → List Table
tables_with tables name pairs = map (λ (t : Table). if bytes_eq t.name name then record t { pairs = pairs } else t) tables
