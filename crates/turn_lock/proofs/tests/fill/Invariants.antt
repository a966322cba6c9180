use Rattle.turn_lock.specs.Seats.{IsIdleSeatOf}
use Rattle.turn_lock.proofs.tests.fill.Given as goal

abbrev pub invariant-loop-k : goal.invariant-loop-k
invariant-loop-k g l = IsIdleSeatOf l.lock l.seat
