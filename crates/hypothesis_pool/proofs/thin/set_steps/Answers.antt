use Rattle.std.proofs.Common.{◌≡◌, ◌++◌, add-one, ap, drop, sym, take}
use Rattle.hypothesis_pool.specs.Thinning.{with_steps}
use Rattle.hypothesis_pool.proofs.Renumbered.{next_with_step, with_no_steps}
use Rattle.hypothesis_pool.proofs.thin.set_steps.Goals as goal

pub loop-place-init : goal.loop-place-init
loop-place-init c = ap (λ rest. rest ++ c.args.hypotheses.now) (sym (with_no_steps c.args.hypotheses.now))

pub loop-place-preserved : goal.loop-place-preserved
loop-place-preserved c =
    let hs = c.args.hypotheses.now in
    let steps = c.args.steps.now in
    let place = c.loop-place.place in
    let so_far : c.loop-place.hypotheses ≡ with_steps hs (take place steps) ++ drop place hs = c.loop-place.invariant in
    let next = next_with_step hs steps place c.index-hypotheses-place.result c.loop-place-test.true c.requires in
    rw (c.set_step.ensures, so_far, add-one place) next
