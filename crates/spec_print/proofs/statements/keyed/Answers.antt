use Rattle.std.proofs.Common.{◌∷◌, ap, sym, ◌∙◌}
use Rattle.spec_model.specs.declared.token.Token.TheVariants as tokens
use Rattle.spec_model.specs.Grammar as gr
use Rattle.spec_print.specs.Page.{put, puts}
use Rattle.spec_print.proofs.Chains.{if_ok}
use Rattle.spec_print.proofs.statements.keyed.Goals as goal

pub returns : goal.returns
returns c = if_ok c.name.result (λ after last. λ next.
    c.in_ok-atom.ensures (gr.name c.args.name.now ∷ next)
    ∙ ap (λ p. puts p next) (sym (last ∙ ap (λ v. put c.in_ok-atom.field-0 (tokens.Name v)) c.as_slice.ensures))) c.name.ensures
