-- What a tree stores.
use Rattle.std.specs.Prelude.{ℕ, Bool, List, ◌∷◌, take, remove, slice_get, slice_set, Option, Some, option_map, bytes_eq}
use Rattle.spec_model.specs.declared.config.Value.TheVariants.{Text}
use Rattle.spec_model.specs.declared.config.Pair.{Pair}
use Rattle.spec_model.specs.Table.{most_pairs}
use Rattle.spec_model.specs.Value.{◌>>=◌}
use Rattle.itree_data.specs.declared.node.Change.{Change}
use Rattle.itree_data.specs.declared.node.Change.TheVariants.{Assign, Bind, Renew, Add, Remove}
use Rattle.itree_data.specs.declared.node.Val.{Val}
use Rattle.itree_data.specs.Standing.{Standing, with_local}
use Rattle.itree_data.specs.Value.{text_at, value_assigned}

abbrev pub with_table : Standing → ℕ → List Pair → Standing
with_table t table pairs = record t { tables = slice_set t.tables table pairs }

-- whether the key is that of the next pair
abbrev pub next_has_key : Standing → ℕ → Val → Option Bool
next_has_key t table key = do
  pairs ← slice_get t.tables table
  pair ← slice_get pairs t.compared
  wanted ← text_at t key
  Some (bytes_eq pair.key wanted)

-- What a change leaves. The pair that was found is the next one that was to be compared.
abbrev pub after_change : Standing → Change → Option Standing
after_change t (Assign register left tail) =
    option_map (λ value. record t { registers = slice_set t.registers register value }) (value_assigned t left tail)
after_change t (Bind slot table) = do
  pairs ← slice_get t.tables table
  pair ← slice_get pairs t.compared
  Some (record t { locals = with_local t.locals slot (Text pair.value) })
after_change t (Renew table value) = do
  pairs ← slice_get t.tables table
  pair ← slice_get pairs t.compared
  new ← text_at t value
  Some (with_table t table (slice_set pairs t.compared (record pair { value = new })))
after_change t (Add table key value) = do
  pairs ← slice_get t.tables table
  new_key ← text_at t key
  new ← text_at t value
  Some (with_table t table (take most_pairs (record { key = new_key; value = new } ∷ pairs)))
after_change t (Remove table) = option_map (λ pairs. with_table t table (remove pairs t.compared)) (slice_get t.tables table)
