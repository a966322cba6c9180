use Rattle.hypothesis.proofs.Allowed.{TakesListed}
use Rattle.hypothesis.proofs.expand.takes.Given as goal

-- the takes from the connections so far
abbrev pub invariant-loop-conn : goal.invariant-loop-conn
invariant-loop-conn l = TakesListed l.inbox l.taken l.conn l.events
