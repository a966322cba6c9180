use Rattle.std.proofs.Common.{ap, ◌∙◌}
use Rattle.spec_model.specs.declared.token.Token.TheVariants as tokens
use Rattle.spec_print.specs.Page.{put}
use Rattle.spec_print.proofs.ListedPieces.{header_puts}
use Rattle.spec_print.proofs.print.header.Goals as goal

pub returns : goal.returns
returns c =
    header_puts c.args.page c.in_ok-word.field-0 c.in_ok-page.page c.in_ok-page-2.page c.in_ok-page-3.page c.in_ok-page-4.page c.args.shape.now
    c.in_ok-word.ensures c.in_ok-page.ensures
    (c.in_ok-page-2.ensures ∙ ap (λ n. put c.in_ok-page.page (tokens.Number n)) c.from.ensures) c.in_ok-page-3.ensures
    (c.in_ok-page-4.ensures ∙ ap (λ n. put c.in_ok-page-3.page (tokens.Number n)) c.from-2.ensures)
