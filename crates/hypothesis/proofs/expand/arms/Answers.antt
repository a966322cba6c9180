use Rattle.std.proofs.Common.{arith}
use Rattle.hypothesis.proofs.Allowed.{arms_allowed, arms_more}
use Rattle.hypothesis.proofs.expand.arms.Goals as goal

pub loop-arm-preserved : goal.loop-arm-preserved
loop-arm-preserved c = rw c.in_ok-push.ensures.items (arms_more c.loop-arm.arm c.loop-arm.events.items c.loop-arm.invariant)

pub returns : goal.returns
returns c = arms_allowed c.args.count c.loop-arm.arm c.loop-arm.events.items (λ k below small. omega arith) c.loop-arm.invariant
