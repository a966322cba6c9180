use Rattle.std.proofs.Common.{◌≡◌, [], ◌∷◌, replicate, ◌∙◌, ap, rules}
use Rattle.spec_model.specs.declared.event.Shape.{Shape}
use Rattle.hypothesis_pool.proofs.Pools.{begins}
use Rattle.hypothesis_pool.proofs.pool.Pool.new.Goals as goal

pub invariant_of-result : goal.invariant_of-result
invariant_of-result c =
    let dual = c.args.dual in
    let first = c.in_ok-hypothesis.hypothesis in
    let known = c.in_ok-hypothesis.ensures in
    let inbox_is : c.in_ok-inbox.inbox ≡ replicate dual.shape.conns []
    = c.in_ok-inbox.ensures ∙ ap (λ (shape : Shape). replicate shape.conns []) c.shape.ensures in
    let one : c.push.new.self.items ≡ first ∷ [] = search rules in
    rw c.new-events.ensures.items
    (begins dual first c.in_ok-inbox.inbox c.in_ok-trail.trail c.push.new.self.items c.nodes.ensures.tree c.requires known.stands known.step known.mark inbox_is c.in_ok-trail.ensures one)
