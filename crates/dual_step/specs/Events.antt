-- What look-ups pass.
use Rattle.std.specs.Prelude.{ℕ, ◌+◌, nat_lt, length, slice_get, Option, Some}
use Rattle.spec_model.specs.Value.{◌>>=◌, only_if}
use Rattle.itree_data.specs.Standing.{Standing}

-- the number of pairs compared once the next pair of a table is passed, where there is one
abbrev pub pairs_passed : Standing → ℕ → Option ℕ
pairs_passed t table = do
  pairs ← slice_get t.tables table
  only_if (nat_lt t.compared (length pairs)) (Some (t.compared + 1))
