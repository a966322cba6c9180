-- Lines of client events, read back.
use Rattle.std.proofs.Common.{◌≡◌, ℕ, ◌^◌, ◌<◌, List, ◌∷◌, ◌++◌, Some, option_and_then, refl, ◌∙◌, ap, arith, codes}
use Rattle.std.specs.Fmt.{decimal}
use Rattle.spec_model.specs.declared.event.ClientEvent.{ClientEvent}
use Rattle.spec_model.specs.declared.event.ClientEvent.TheVariants.{Sends, Receives, Garbles}
use Rattle.spec_model.specs.declared.event.Shape.{Shape}
use Rattle.spec_model.specs.Message.{line_feed}
use Rattle.spec_model.specs.Quote.{quotation_of}
use Rattle.spec_model.specs.World.{IsOfShape}
use Rattle.exchange_text.specs.EventLine.{client_line}
use Rattle.exchange_text.specs.LooseReading.{client_event_of, client_event_behind, number_of}
use Rattle.exchange_text.specs.Text.{IsLine, last_line}
use Rattle.exchange_text.proofs.Numbers.{number_of-decimal, Lacks-decimal}
use Rattle.exchange_text.proofs.Outcomes.{IsInnerLine}
use Rattle.exchange_text.proofs.Quotations.{message_is_text, unquoted-quotation_of, IsLine-quotation_of}
use Rattle.exchange_text.proofs.ReadBack.{none_unread, one_read}
use Rattle.exchange_text.proofs.Separators.{Lacks-append, split_once_at}

-- what stands behind a number and a space is read behind it
behind_number : (conn : ℕ) (behind : List ℕ) → conn < 2 ^ 16 → client_event_of (decimal conn ++ 32 ∷ behind) ≡ client_event_behind conn behind
behind_number conn behind small =
    ap (option_and_then (λ parts. client_event_behind (number_of parts.0) parts.1)) (split_once_at 32 (decimal conn) behind (Lacks-decimal 32 conn (omega arith) small))
    ∙ ap (λ number. client_event_behind number behind) (number_of-decimal conn small)

-- the line of an event is read as that event
pub read_back : (shape : Shape) → shape.conns < 2 ^ 16 → (event : ClientEvent) → IsOfShape shape event → client_event_of (client_line event) ≡ Some event
read_back shape small (Sends conn message) of_shape =
    behind_number conn (62 ∷ 32 ∷ quotation_of message) (omega (arith, of_shape.0))
    ∙ ap (λ text. Some (Sends conn text)) (unquoted-quotation_of message (message_is_text shape message of_shape.1))
read_back shape small (Receives conn message) of_shape =
    behind_number conn (60 ∷ 32 ∷ quotation_of message) (omega (arith, of_shape.0))
    ∙ ap (λ text. Some (Receives conn text)) (unquoted-quotation_of message (message_is_text shape message of_shape.1))
read_back shape small (Garbles conn) of_shape = behind_number conn (codes "garbles") (omega (arith, of_shape))

behind_digits : (conn : ℕ) (behind : List ℕ) → conn < 2 ^ 16 → IsLine behind → IsLine (decimal conn ++ behind)
behind_digits conn behind small is_line = Lacks-append line_feed (decimal conn) behind (Lacks-decimal line_feed conn (omega arith) small) is_line

-- no LF stands in the line of an event
IsLine-client_line : (shape : Shape) → shape.conns < 2 ^ 16 → (event : ClientEvent) → IsOfShape shape event → IsLine (client_line event)
IsLine-client_line shape small (Sends conn message) of_shape =
    behind_digits conn (codes " > " ++ quotation_of message) (omega (arith, of_shape.0)) (IsLine-quotation_of message)
IsLine-client_line shape small (Receives conn message) of_shape =
    behind_digits conn (codes " < " ++ quotation_of message) (omega (arith, of_shape.0)) (IsLine-quotation_of message)
IsLine-client_line shape small (Garbles conn) of_shape = behind_digits conn (codes " garbles") (omega (arith, of_shape)) refl

-- and it is not the last line of a text
pub client_line_inner : (shape : Shape) → shape.conns < 2 ^ 16 → (event : ClientEvent) → IsOfShape shape event → IsInnerLine (client_line event)
client_line_inner shape small event of_shape =
    (IsLine-client_line shape small event of_shape, none_unread client_line (IsOfShape shape) client_event_of (read_back shape small) last_line refl event of_shape)

-- Lines of two events are two lines.
pub one_client_event : (shape shape' : Shape) → shape.conns < 2 ^ 16 → shape'.conns < 2 ^ 16 → (event other : ClientEvent) → IsOfShape shape event → IsOfShape shape' other
    → client_line event ≡ client_line other → event ≡ other
one_client_event shape shape' small small' event other of_shape of_shape' =
    one_read client_line (IsOfShape shape) client_event_of (read_back shape small) (client_line other) other (read_back shape' small' other of_shape') event of_shape
