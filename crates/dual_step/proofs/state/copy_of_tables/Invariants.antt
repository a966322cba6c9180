use Rattle.std.proofs.Common.{◌≡◌, take}
use Rattle.dual_step.proofs.state.copy_of_tables.Given as goal

abbrev pub invariant-loop-pairs : goal.invariant-loop-pairs
invariant-loop-pairs l = l.copy ≡ take l.pairs-index l.tables
