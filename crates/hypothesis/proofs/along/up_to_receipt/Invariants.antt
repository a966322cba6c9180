use Rattle.std.proofs.Common.{◌-◌, ◌≤◌, length}
use Rattle.hypothesis.proofs.FollowedMarks.{IsOnTheWay}
use Rattle.hypothesis.proofs.along.up_to_receipt.Given as goal

-- the marks that are left
abbrev pub decreases-loop-end : goal.decreases-loop-end
decreases-loop-end l = length l.marks - l.count

abbrev pub invariant-loop-end : goal.invariant-loop-end
invariant-loop-end l = record {
  within : l.count ≤ length l.marks;
  way : IsOnTheWay l.dual l.inbox l.fn.hypothesis l.marks l.conn l.message l.count l.end;
}
