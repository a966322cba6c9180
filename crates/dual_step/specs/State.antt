-- What a state stands for.
use Rattle.std.specs.Prelude.{[]}
use Rattle.itree_data.specs.Standing.{Standing}
use Rattle.dual_step.specs.declared.state.State.{State}

-- A configuration of the tree, in which of the messages that passed only those stand that were sent and not received yet.
abbrev pub standing_of : State → Standing
standing_of state = record {
  node = state.node;
  compared = state.compared;
  registers = state.registers;
  tables = state.tables;
  locals = state.locals;
  taken = [];
  sent = state.pending;
}
