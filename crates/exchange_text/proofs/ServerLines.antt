-- Lines of server events, read back.
use Rattle.std.proofs.Common.{◌≡◌, ℕ, ◌^◌, ◌<◌, true, false, List, ◌∷◌, ◌++◌, Some, option_and_then, option_map, refl, ◌∙◌, ap, arith, codes}
use Rattle.std.specs.Fmt.{decimal}
use Rattle.spec_model.specs.declared.event.ServerEvent.{ServerEvent}
use Rattle.spec_model.specs.declared.event.ServerEvent.TheVariants.{Take, Arm, Test, Pick, Send}
use Rattle.spec_model.specs.declared.event.Shape.{Shape}
use Rattle.spec_model.specs.Message.{line_feed}
use Rattle.spec_model.specs.Quote.{IsText, quotation_of}
use Rattle.exchange_text.specs.EventLine.{server_line}
use Rattle.exchange_text.specs.LooseReading.{number_of, passed, server_event_behind, server_event_of, unquoted}
use Rattle.exchange_text.specs.Text.{IsLine, Lacks, last_line}
use Rattle.exchange_text.specs.WorldText.{IsServerEvent}
use Rattle.exchange_text.proofs.Numbers.{number_of-decimal, Lacks-decimal}
use Rattle.exchange_text.proofs.Outcomes.{IsInnerLine}
use Rattle.exchange_text.proofs.Quotations.{message_is_text, unquoted-quotation_of, IsLine-quotation_of}
use Rattle.exchange_text.proofs.ReadBack.{none_unread, one_read}
use Rattle.exchange_text.proofs.Separators.{Lacks-append, split_once_at}

-- what stands behind a word and a space is read behind it
behind_word : (word behind : List ℕ) → Lacks 32 word → server_event_of (word ++ 32 ∷ behind) ≡ server_event_behind word behind
behind_word word behind lacks = ap (option_and_then (λ parts. server_event_behind parts.0 parts.1)) (split_once_at 32 word behind lacks)

-- a connection and a message are read as they are
passed_back : (conn : ℕ) (message : List ℕ) → conn < 2 ^ 16 → IsText message → passed (decimal conn ++ (codes " " ++ quotation_of message)) ≡ Some (conn, message)
passed_back conn message small text =
    ap (option_map (λ parts. (number_of parts.0, unquoted parts.1))) (split_once_at 32 (decimal conn) (quotation_of message) (Lacks-decimal 32 conn (omega arith) small))
    ∙ rw (number_of-decimal conn small, unquoted-quotation_of message text) refl

-- the line of an event is read as that event
pub server_read_back : (shape : Shape) → shape.conns < 2 ^ 16 → (event : ServerEvent) → IsServerEvent shape event → server_event_of (server_line event) ≡ Some event
server_read_back shape small (Take conn message) right =
    behind_word (codes "take") (decimal conn ++ (codes " " ++ quotation_of message)) refl
    ∙ ap (option_map (λ parts. Take parts.0 parts.1)) (passed_back conn message (omega (arith, right.0)) (message_is_text shape message right.1))
server_read_back shape small (Arm arm) right =
    behind_word (codes "arm") (decimal arm) refl ∙ ap (λ number. Some (Arm number)) (number_of-decimal arm (omega (arith, right)))
server_read_back shape small (Test true) right = behind_word (codes "test") (codes "yes") refl
server_read_back shape small (Test false) right = behind_word (codes "test") (codes "no") refl
server_read_back shape small (Pick text) right =
    behind_word (codes "pick") (quotation_of text) refl ∙ ap (λ text. Some (Pick text)) (unquoted-quotation_of text right.0)
server_read_back shape small (Send conn message) right =
    behind_word (codes "send") (decimal conn ++ (codes " " ++ quotation_of message)) refl
    ∙ ap (option_map (λ parts. Send parts.0 parts.1)) (passed_back conn message (omega (arith, right.0)) (message_is_text shape message right.1))

IsLine-passed : (conn : ℕ) (message : List ℕ) → conn < 2 ^ 16 → IsLine (decimal conn ++ (codes " " ++ quotation_of message))
IsLine-passed conn message small =
    Lacks-append line_feed (decimal conn) (codes " " ++ quotation_of message) (Lacks-decimal line_feed conn (omega arith) small) (IsLine-quotation_of message)

-- no LF stands in the line of an event
IsLine-server_line : (shape : Shape) → shape.conns < 2 ^ 16 → (event : ServerEvent) → IsServerEvent shape event → IsLine (server_line event)
IsLine-server_line shape small (Take conn message) right = IsLine-passed conn message (omega (arith, right.0))
IsLine-server_line shape small (Arm arm) right = Lacks-decimal line_feed arm (omega arith) (omega (arith, right))
IsLine-server_line shape small (Test true) right = refl
IsLine-server_line shape small (Test false) right = refl
IsLine-server_line shape small (Pick text) right = IsLine-quotation_of text
IsLine-server_line shape small (Send conn message) right = IsLine-passed conn message (omega (arith, right.0))

-- and it is not the last line of a text
pub server_line_inner : (shape : Shape) → shape.conns < 2 ^ 16 → (event : ServerEvent) → IsServerEvent shape event → IsInnerLine (server_line event)
server_line_inner shape small event right =
    (IsLine-server_line shape small event right, none_unread server_line (IsServerEvent shape) server_event_of (server_read_back shape small) last_line refl event right)

-- Lines of two events are two lines.
pub one_server_event : (shape shape' : Shape) → shape.conns < 2 ^ 16 → shape'.conns < 2 ^ 16 → (event other : ServerEvent) → IsServerEvent shape event → IsServerEvent shape' other
    → server_line event ≡ server_line other → event ≡ other
one_server_event shape shape' small small' event other right right' =
    one_read server_line (IsServerEvent shape) server_event_of (server_read_back shape small) (server_line other) other (server_read_back shape' small' other right') event right
