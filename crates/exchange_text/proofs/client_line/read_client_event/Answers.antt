-- The event that was read is the only one that can have the line: so none has it where that one is not of the shape, or has
-- another line.
use Rattle.std.proofs.Common.{◌≡◌, true, sym, ◌∙◌, arith}
use Rattle.std.proofs.lemmas.Bool.Decides.{Decides-eqb}
use Rattle.std.proofs.lemmas.Slice.Eq.{slice_eq-Decides}
use Rattle.spec_model.specs.World.{IsOfShape}
use Rattle.exchange_text.specs.EventLine.{client_line}
use Rattle.exchange_text.specs.LooseReading.{client_event_of}
use Rattle.exchange_text.proofs.ClientLines.{read_back}
use Rattle.exchange_text.proofs.ReadBack.{none_unread, not_right, other_line}
use Rattle.exchange_text.proofs.client_line.read_client_event.Goals as goal

pub returns-in_default-clause-none : goal.returns-in_default-clause-none
returns-in_default-clause-none c =
    none_unread client_line (IsOfShape c.args.shape) client_event_of (read_back c.args.shape (omega arith)) c.args.line.now (sym c.in_ok-event.ensures ∙ c.in_default.is)

pub returns-then-not-is_of_shape-clause-none : goal.returns-then-not-is_of_shape-clause-none
returns-then-not-is_of_shape-clause-none c =
    not_right client_line (IsOfShape c.args.shape) client_event_of (read_back c.args.shape (omega arith)) c.args.line.now _ (sym c.in_ok-event.ensures ∙ c.in-Some.is)
    (λ of_shape. let right = c.if-not-is_of_shape.ensures.1 of_shape in absurd (cc))

pub returns-else-eq-clause-none : goal.returns-else-eq-clause-none
returns-else-eq-clause-none c =
    other_line client_line (IsOfShape c.args.shape) client_event_of (read_back c.args.shape (omega arith)) c.args.line.now _ (sym c.in_ok-event.ensures ∙ c.in-Some.is)
    (λ same.
    let written = rw c.in_ok-spelled.ensures.items at c.in_ok-put_client_event.ensures in
    let spelled : c.as_slice.result.now ≡ c.args.line.now = c.as_slice.ensures.value ∙ (written ∙ same) in
    let equal : c.eq.result ≡ true = (slice_eq-Decides Decides-eqb _ _ _ c.eq.ensures).1 spelled in
    absurd (cc))
