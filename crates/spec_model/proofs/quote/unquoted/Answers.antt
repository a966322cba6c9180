use Rattle.std.proofs.Common.{◌≡◌, sym, ◌∙◌, ap}
use Rattle.std.proofs.lemmas.Slice.Eq.{bytes_eq-Decides}
use Rattle.spec_model.specs.declared.quote.Progress.TheVariants.{Between}
use Rattle.spec_model.specs.Reading.{read_on}
use Rattle.spec_model.proofs.Unquoted.{read_on-quoted}
use Rattle.spec_model.proofs.quote.unquoted.Goals as goal

-- were it the inside of a quotation, its text would have been read, and quoted again it would be the same
pub returns-else-eq-clause-none : goal.returns-else-eq-clause-none
returns-else-eq-clause-none c text bytes is =
    let read : c.in_ok-text.text.items ≡ text = c.in_ok-text.ensures ∙ ap (read_on Between) is ∙ read_on-quoted text bytes in
    let again = rw (c.new-again.ensures.items, c.deref.ensures.value, read) at c.in_ok-put_quoted.ensures.ok in
    let same : c.as_slice.result.now ≡ c.args.inside.now = c.as_slice.ensures.value ∙ again ∙ sym is in
    let passes = (bytes_eq-Decides c.as_slice.result.now c.args.inside.now).1 same in
    cc (passes, c.if-eq.ensures)
