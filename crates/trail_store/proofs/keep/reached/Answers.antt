use Rattle.std.proofs.Common.{ap, ◌∙◌, set, true}
use Rattle.trail_store.proofs.Keeping.{AreReached-none}
use Rattle.trail_store.proofs.keep.reached.Goals as goal

pub keep_given-requires-clause-none : goal.keep_given-requires-clause-none
keep_given-requires-clause-none c =
    let flags = c.deref_mut.ensures.value ∙ ap (λ kept. set kept 0 true) (c.in_ok-kept.ensures.items_if_clones_equal (λ kept same. same)) in
    rw flags (AreReached-none c.args.steps.now)
