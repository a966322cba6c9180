use Rattle.std.proofs.Common.{get_or}
use Rattle.std.proofs.lemmas.List.{take_more}
use Rattle.trail_store.proofs.Keeping.{AreReached-more}
use Rattle.trail_store.proofs.keep.keep_given.Goals as goal

pub loop-number-preserved : goal.loop-number-preserved
loop-number-preserved c =
    let given = c.args.given.now in
    let index = c.loop-number.number-index in
    rw (take_more given index 0 c.loop-number-test.true) (AreReached-more c.args.steps.now _ c.loop-number.kept (get_or given index 0) _ c.loop-number.invariant c.keep_whole.ensures)
