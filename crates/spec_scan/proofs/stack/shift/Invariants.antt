use Rattle.std.proofs.Common.{◌≡◌, reverse, vec_len}
use Rattle.spec_scan.specs.Table.{shift}
use Rattle.spec_scan.proofs.stack.shift.Given as goal

abbrev pub invariant-loop-goal : goal.invariant-loop-goal
invariant-loop-goal l = shift (reverse l.fn.goals.items) l.class ≡ shift (reverse l.goals.items) l.class

abbrev pub decreases-loop-goal : goal.decreases-loop-goal
decreases-loop-goal l = vec_len l.goals
