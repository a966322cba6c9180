use Rattle.dual_step.proofs.FirstValues.{values_next}
use Rattle.dual_step.proofs.start.first_values.Goals as goal

pub loop-first-preserved : goal.loop-first-preserved
loop-first-preserved c =
    values_next c.args.firsts.now c.loop-first.first-index c.first-item.result c.in_ok-first_value.field-0 c.loop-first.values c.push_some.new.self
    c.loop-first-test.true c.first-item.is c.in_ok-first_value.ensures c.loop-first.invariant c.in_ok-push_some.ensures.ok
