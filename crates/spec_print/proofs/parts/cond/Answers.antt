use Rattle.std.proofs.Common.{◌∷◌, ◌∙◌}
use Rattle.spec_model.specs.Grammar as gr
use Rattle.spec_print.proofs.parts.cond.Goals as goal

pub returns : goal.returns
returns c = λ next.
    let right = gr.atom c.args.cond.now.right ∷ next in
    c.in_ok-page.ensures (gr.comparison c.args.cond.now.op ∷ right) ∙ (c.in_ok-page-2.ensures right ∙ c.in_ok-page-3.ensures next)
