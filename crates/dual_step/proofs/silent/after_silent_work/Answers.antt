use Rattle.std.proofs.Common.{◌≡◌, Some, option_map, ◌∙◌, ap, subst}
use Rattle.std.specs.Prelude.{IfOk, map, slice_get}
use Rattle.dual_tree.specs.Dual.{mirrored, tree_of}
use Rattle.itree_data.specs.Step.{after_silent_node, after_silent_work}
use Rattle.spec_model.specs.Value.{◌>>=◌}
use Rattle.dual_step.specs.State.{standing_of}
use Rattle.dual_step.proofs.SilentWork.{state_falls}
use Rattle.dual_step.proofs.silent.after_silent_work.Goals as goal

pub returns-in-Some-clause-falls : goal.returns-in-Some-clause-falls
returns-in-Some-clause-falls c =
    let tree = tree_of c.args.dual.now in
    let t = standing_of c.args.state.now in
    let there : Some (mirrored c.in-Some.node.now) ≡ slice_get tree.nodes t.node
    = c.in-Some.ensures ∙ ap (λ nodes. slice_get (map mirrored nodes) t.node) (c.as_slice.ensures ∙ c.nodes.ensures.same) in
    let is : after_silent_node tree t (mirrored c.in-Some.node.now) ≡ after_silent_work tree t = ap (λ node. node >>= after_silent_node tree t) there in
    state_falls tree t c.nodes.ensures.tree c.nodes.ensures.accepted c.after_silent_node.result
    (subst (λ work. IfOk c.after_silent_node.result (λ after. option_map standing_of after ≡ work)) is c.after_silent_node.ensures)
