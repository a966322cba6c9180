use Rattle.std.proofs.Common.{option_map, ap, subst, sym, ◌∙◌}
use Rattle.dual_tree.specs.Dual.{tree_of}
use Rattle.itree_data.specs.Run.{TreeSettles, settled}
use Rattle.dual_step.specs.State.{standing_of}
use Rattle.dual_step.proofs.SilentWork.{continues_more}
use Rattle.dual_step.proofs.silent.settled.Goals as goal

pub loop-now-preserved : goal.loop-now-preserved
loop-now-preserved c =
    continues_more (tree_of c.args.dual.now) (standing_of c.args.state) (standing_of c.loop-now.now) (standing_of c.in-Some.next) c.loop-now.invariant
    (sym c.in_ok-next.ensures.value ∙ ap (option_map standing_of) c.in-Some.is)

pub returns : goal.returns
returns c =
    let ends = settled (sym c.in_ok-next.ensures.value ∙ ap (option_map standing_of) c.in_default.is) in
    c.loop-now.invariant (standing_of c.within_scope.result)
    (subst (λ to. TreeSettles (tree_of c.args.dual.now) (standing_of c.loop-now.now) to) (sym c.within_scope.ensures) ends)
