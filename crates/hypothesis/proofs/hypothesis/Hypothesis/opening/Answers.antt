use Rattle.std.proofs.Common.{◌≡◌, [], replicate, ◌∙◌, ap, subst}
use Rattle.spec_model.specs.declared.event.Shape.{Shape}
use Rattle.hypothesis.proofs.Opening.{stands_at_opening}
use Rattle.hypothesis.proofs.hypothesis.Hypothesis.opening.Goals as goal

pub returns-clause-stands : goal.returns-clause-stands
returns-clause-stands c =
    let conns : c.from.result ≡ c.args.dual.now.shape.conns = c.from.ensures ∙ ap (λ (shape : Shape). shape.conns) c.shape.ensures in
    let zeros : c.from_vec.result ≡ replicate c.args.dual.now.shape.conns 0
    = c.from_vec.ensures ∙ c.in_ok-none_taken.ensures.items_if_clones_equal (λ zero same. same) ∙ ap (λ count. replicate count 0) conns in
    let known : c.in_ok-new.field-0 ≡ record { framing = c.args.dual.now.shape.framing; room = 15732480; asked = 0; symbols = []; differences = [] }
    = subst (λ (shape : Shape). c.in_ok-new.field-0 ≡ record { framing = shape.framing; room = 15732480; asked = 0; symbols = []; differences = [] }) c.shape-2.ensures
    c.in_ok-new.ensures in
    stands_at_opening c.args.dual.now _ _ c.nodes.ensures.tree c.in_ok-opening.ensures zeros known
