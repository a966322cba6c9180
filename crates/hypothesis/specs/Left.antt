-- What is left of where a run ends, in the tree.
use Rattle.std.specs.Prelude.{◌≡◌, ℕ, List, length, map}
use Rattle.spec_model.specs.declared.config.Pair.{Pair}
use Rattle.spec_model.specs.declared.config.Value.{Value}
use Rattle.spec_model.specs.declared.event.ClientEvent.{ClientEvent}
use Rattle.spec_model.specs.Remainder.{unreceived}
use Rattle.itree_data.specs.Standing.{Standing}
use Rattle.hypothesis.specs.declared.hypothesis.Hypothesis.{Hypothesis}

-- The place and what is stored there; for each connection how many messages were taken, and those that were sent and not received,
-- as their pieces. In the specification this is the remainder of a configuration: the place stands for what is to do.
pub record Left : Type 0 where
  pub node : ℕ
  pub compared : ℕ
  pub registers : List Value
  pub tables : List (List Pair)
  pub locals : List Value
  pub taken : List ℕ
  pub pending : List (List (List (List ℕ)))

-- what is left of where a tree stands, once clients received what the exchange says
abbrev pub left_of : List ClientEvent → Standing → Left
left_of exchange t = record {
  node = t.node;
  compared = t.compared;
  registers = t.registers;
  tables = t.tables;
  locals = t.locals;
  taken = map length t.taken;
  pending = unreceived exchange 0 t.sent;
}

-- What a hypothesis shows with these texts for its symbols. No value of it is a symbol yet, so the texts play no part.
abbrev pub shown_by : Hypothesis → List (List ℕ) → Left
shown_by h texts = record {
  node = h.state.node;
  compared = h.state.compared;
  registers = h.state.registers;
  tables = h.state.tables;
  locals = h.state.locals;
  taken = h.taken;
  pending = h.state.pending;
}

-- Two hypotheses show the same.
pub record IsAlike (h other : Hypothesis) : Type 0 where
  pub state : h.state ≡ other.state
  pub taken : h.taken ≡ other.taken
