use Rattle.std.proofs.Common.{◌∷◌, ◌∙◌}
use Rattle.spec_model.specs.Grammar as gr
use Rattle.spec_print.proofs.statements.pair.Goals as goal

pub returns : goal.returns
returns c = λ next. c.in_ok-page.ensures (gr.atom c.args.value.now ∷ next) ∙ c.in_ok-page-2.ensures next
