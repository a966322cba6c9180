use Rattle.std.proofs.Common.{◌≡◌, ◌≤◌, ◌++◌, length, reverse, drop}
use Rattle.spec_scan.proofs.stack.push_all.Given as goal

abbrev pub invariant-loop-left : goal.invariant-loop-left
invariant-loop-left l = record { within : l.left ≤ length l.more; pushed : reverse l.goals.items ≡ drop l.left l.more ++ reverse l.fn.goals.items }

abbrev pub decreases-loop-left : goal.decreases-loop-left
decreases-loop-left l = l.left
