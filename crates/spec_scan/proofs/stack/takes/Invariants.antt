use Rattle.std.proofs.Common.{◌≡◌, ◌≤◌, length, reverse, take}
use Rattle.spec_scan.specs.Table.{takes}
use Rattle.spec_scan.proofs.stack.takes.Given as goal

abbrev pub invariant-loop-left : goal.invariant-loop-left
invariant-loop-left l = record { within : l.left ≤ length l.goals; same : takes (reverse l.goals) l.class ≡ takes (reverse (take l.left l.goals)) l.class }

abbrev pub decreases-loop-left : goal.decreases-loop-left
decreases-loop-left l = l.left
