use Rattle.std.proofs.Common.{sym, ◌∙◌}
use Rattle.dual_step.specs.State.{standing_of}
use Rattle.dual_tree.specs.Dual.{mirrored, tree_of}
use Rattle.dual_step.proofs.Coming.{next_allows}
use Rattle.dual_step.proofs.next.next_of.Goals as goal

pub returns-in-Some-clause-next : goal.returns-in-Some-clause-next
returns-in-Some-clause-next c =
    let nodes_are = c.as_slice.ensures ∙ c.nodes.ensures.same in
    let there = rw nodes_are at c.in-Some.ensures in
    rw (sym there) c.next_at.ensures

pub returns-in-Some-clause-only : goal.returns-in-Some-clause-only
returns-in-Some-clause-only c =
    let nodes_are = c.as_slice.ensures ∙ c.nodes.ensures.same in
    let there = rw nodes_are at c.in-Some.ensures in
    next_allows (tree_of c.args.dual.now) (standing_of c.args.state.now) (mirrored c.in-Some.node.now) c.next_at.result (sym there) c.next_at.ensures
