-- Look-ups in tables.
use Rattle.std.specs.Prelude.{ℕ, Bool, if◌then◌else◌, List, [], ◌∷◌, map, take, remove, slice_get, slice_set, find, Option, Some, None, option_map, bytes_eq}
use Rattle.spec_model.specs.declared.config.Value.TheVariants.{Text}
use Rattle.spec_model.specs.declared.config.Pair.{Pair}
use Rattle.spec_model.specs.declared.config.Table.{Table}
use Rattle.spec_model.specs.declared.config.Task.{Task}
use Rattle.spec_model.specs.declared.config.Config.{Config}
use Rattle.spec_model.specs.declared.tree.Expr.{Expr}
use Rattle.spec_model.specs.declared.tree.Kind.TheOpen.{Put, Lookup, Delete}
use Rattle.spec_model.specs.Config.{StmtKind, after_entering}
use Rattle.spec_model.specs.Value.{◌>>=◌, text_of}

-- a table's pairs, the newest first
abbrev pub pairs_in : Config → List ℕ → Option (List Pair)
pairs_in c name = option_map (λ (t : Table). t.pairs) (find (λ (t : Table). bytes_eq t.name name) c.tables)

-- the configuration with these pairs in that table
abbrev pub with_pairs : Config → List ℕ → List Pair → Config
with_pairs c name pairs =
    record c { tables = map (λ (t : Table). if bytes_eq t.name name then record t { pairs = pairs } else t) c.tables }

-- the most pairs that a table holds
abbrev pub most_pairs : ℕ
most_pairs = 256

-- the table in which a statement looks a key up, and the key
abbrev pub looked_up : StmtKind → Option (List ℕ × Expr)
looked_up (Put table key value) = Some (table, key)
looked_up (Lookup table key name block missing) = Some (table, key)
looked_up (Delete table key) = Some (table, key)
looked_up _ = None

-- whether a look-up's key is that of the pair at this place
abbrev pub key_is_at : Config → List ℕ → Expr → ℕ → Option Bool
key_is_at c table key place = do
  pairs ← pairs_in c table
  pair ← slice_get pairs place
  wanted ← text_of c key
  Some (bytes_eq pair.key wanted)

-- The key is that of the pair at this place: its value is renewed; or bound in the first block; or the pair is removed.
abbrev pub after_hit : Config → List Task → ℕ → StmtKind → Option Config
after_hit c rest place (Put table key value) = do
  pairs ← pairs_in c table
  pair ← slice_get pairs place
  new ← text_of c value
  Some (with_pairs (record c { todo = rest }) table (slice_set pairs place (record pair { value = new })))
after_hit c rest place (Lookup table key name block missing) = do
  pairs ← pairs_in c table
  pair ← slice_get pairs place
  Some (after_entering c rest block (record { name = name; value = Text pair.value } ∷ []))
after_hit c rest place (Delete table key) = do
  pairs ← pairs_in c table
  Some (with_pairs (record c { todo = rest }) table (remove pairs place))
after_hit c rest place _ = None

-- No pair has the key: a new pair goes to the front, and one past the most is dropped at the end; or the second block is
-- entered; or nothing is removed.
abbrev pub after_miss : Config → List Task → StmtKind → Option Config
after_miss c rest (Put table key value) = do
  pairs ← pairs_in c table
  new_key ← text_of c key
  new ← text_of c value
  Some (with_pairs (record c { todo = rest }) table (take most_pairs (record { key = new_key; value = new } ∷ pairs)))
after_miss c rest (Lookup table key name block missing) = Some (after_entering c rest missing [])
after_miss c rest (Delete table key) = Some (record c { todo = rest })
after_miss c rest _ = None
