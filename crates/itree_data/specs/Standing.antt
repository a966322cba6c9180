-- Where a tree stands.
use Rattle.std.specs.Prelude.{ℕ, List, [], ◌∷◌, ◌++◌, take, replicate, filter_map, slice_get, Option, Some, None}
use Rattle.spec_model.specs.declared.config.Value.{Value}
use Rattle.spec_model.specs.declared.config.Pair.{Pair}
use Rattle.spec_model.specs.Config.{first_value}
use Rattle.itree_data.specs.Fields.{Fields}

-- A configuration of a tree: a place, what is stored, and what passed on each connection. The place is the number of a node
-- and, at a look-up, the number of pairs compared, otherwise 0. Registers and tables stand by their numbers, and locals by
-- their slots. Of each message sent, the pieces are kept.
pub record Standing : Type 0 where
  pub node : ℕ
  pub compared : ℕ
  pub registers : List Value
  pub tables : List (List Pair)
  pub locals : List Value
  pub taken : List (List (List ℕ))
  pub sent : List (List (List (List ℕ)))

abbrev pub place_of : Standing → ℕ × ℕ
place_of t = (t.node, t.compared)

-- standing at another node, where nothing is compared yet
abbrev pub at_node : Standing → ℕ → Standing
at_node t node = record t { node = node; compared = 0 }

-- The locals with a slot bound to a value. Slots are given as on a stack: those from this one on are bound no more.
abbrev pub with_local : List Value → ℕ → Value → List Value
with_local locals slot value = take slot locals ++ value ∷ []

-- the number of slots in scope at a node
abbrev pub scope_at : Fields → ℕ → ℕ
scope_at tree node = or_none (slice_get tree.scopes node)
  where
    or_none : Option ℕ → ℕ
    or_none (Some scope) = scope
    or_none None = 0

-- the locals that are not in scope at the place are forgotten
abbrev pub within_scope : Fields → Standing → Standing
within_scope tree t = record t { locals = take (scope_at tree t.node) t.locals }

-- The configuration from which a tree begins: it stands at the root, registers have their first values, and all else is empty.
abbrev pub first_standing : Fields → Standing
first_standing tree = record {
  node = tree.root;
  compared = 0;
  registers = filter_map first_value tree.registers;
  tables = replicate tree.tables [];
  locals = [];
  taken = replicate tree.shape.conns [];
  sent = replicate tree.shape.conns [];
}
