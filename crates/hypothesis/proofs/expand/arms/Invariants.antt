use Rattle.hypothesis.proofs.Allowed.{ArmsListed}
use Rattle.hypothesis.proofs.expand.arms.Given as goal

-- the arms so far
abbrev pub invariant-loop-arm : goal.invariant-loop-arm
invariant-loop-arm l = ArmsListed l.arm l.events.items
