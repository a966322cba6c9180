use Rattle.std.proofs.Common.{slice_index, arith}
use Rattle.std.proofs.lemmas.List.{get_or_default}
use Rattle.std.proofs.lemmas.List.Edits.{map_over_more}
use Rattle.trail_store.proofs.keep.renumber.Goals as goal

pub loop-step-preserved : goal.loop-step-preserved
loop-step-preserved c =
    map_over_more (slice_index c.args.numbers.now) c.args.steps.now c.loop-step.steps c.loop-step.step-index _ c.loop-step-test.true c.loop-step.invariant
    (get_or_default c.loop-step.steps c.loop-step.step-index 0 _ (omega arith))
