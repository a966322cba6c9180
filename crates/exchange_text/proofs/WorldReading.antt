-- Reading the text of a world.
use Rattle.std.proofs.Common.{◌≡◌, ◌≢◌, ℕ, ◌^◌, ◌<◌, true, false, List, ◌++◌, Result, Ok, refl, sym, ◌∙◌, ap, arith, codes}
use Rattle.std.specs.List.{AllByRecursion}
use Rattle.std.specs.Result.{IfOk, IfErr, IsErrAnd, MatchResult}
use Rattle.spec_model.specs.declared.event.ClientEvent.{ClientEvent}
use Rattle.spec_model.specs.declared.event.ClientEvent.TheVariants as clients
use Rattle.spec_model.specs.declared.event.ServerEvent.{ServerEvent}
use Rattle.spec_model.specs.declared.event.ServerEvent.TheVariants as servers
use Rattle.spec_model.specs.declared.event.Shape.{Shape}
use Rattle.spec_model.specs.declared.event.WorldEvent.{WorldEvent}
use Rattle.spec_model.specs.declared.event.WorldEvent.TheVariants.{Client, Server}
use Rattle.spec_model.specs.Quote.{quotation_of}
use Rattle.spec_model.specs.World.{IsOfShape}
use Rattle.exchange_text.specs.declared.refusal.TextRefusal.{TextRefusal}
use Rattle.exchange_text.specs.declared.refusal.TextRefusal.TheVariants.{Memory}
use Rattle.exchange_text.specs.declared.world.TheConstants.{MAX_WORLD_EVENTS}
use Rattle.exchange_text.specs.EventLine.{client_line, server_line, world_line}
use Rattle.exchange_text.specs.Text.{AreRead, HasEventForm, UnlessMemory}
use Rattle.exchange_text.specs.WorldText.{FitsWorld, IsWorldEvent, IsWorldRefused, world_lines, world_text}
use Rattle.exchange_text.proofs.ClientLines.{client_line_inner, one_client_event}
use Rattle.exchange_text.proofs.EventTexts.{same_events, form_inner, events_read, lines_inner}
use Rattle.exchange_text.proofs.Numbers.{begins_with_letter, number_first}
use Rattle.exchange_text.proofs.Outcomes.{IsInnerLine, IsOutcomeOf, one_outcome, only_value, only_refusal, one_list_of_lines}
use Rattle.exchange_text.proofs.ServerLines.{one_server_event, server_line_inner}

client_first : (shape : Shape) → shape.conns < 2 ^ 16 → (event : ClientEvent) → IsOfShape shape event → begins_with_letter (client_line event) ≡ false
client_first shape small (clients.Sends conn message) of_shape = number_first conn (codes " > " ++ quotation_of message) (omega (arith, of_shape.0))
client_first shape small (clients.Receives conn message) of_shape = number_first conn (codes " < " ++ quotation_of message) (omega (arith, of_shape.0))
client_first shape small (clients.Garbles conn) of_shape = number_first conn (codes " garbles") (omega (arith, of_shape))

server_first : (event : ServerEvent) → begins_with_letter (server_line event) ≡ true
server_first (servers.Take conn message) = refl
server_first (servers.Arm arm) = refl
server_first (servers.Test true) = refl
server_first (servers.Test false) = refl
server_first (servers.Pick text) = refl
server_first (servers.Send conn message) = refl

-- No client's line is a server's.
two_lines : (shape : Shape) → shape.conns < 2 ^ 16 → (event : ClientEvent) (other : ServerEvent) → IsOfShape shape event → client_line event ≢ server_line other
two_lines shape small event other of_shape same =
    let both : false ≡ true = sym (client_first shape small event of_shape) ∙ (ap begins_with_letter same ∙ server_first other) in
    absurd (cc)

-- Lines of two events are two lines.
one_world_event : (shape shape' : Shape) → shape.conns < 2 ^ 16 → shape'.conns < 2 ^ 16 → (event other : WorldEvent) → IsWorldEvent shape event → IsWorldEvent shape' other
    → world_line event ≡ world_line other → event ≡ other
one_world_event shape shape' small small' (Client event) (Client other) right right' same = ap Client (one_client_event shape shape' small small' event other right right' same)
one_world_event shape shape' small small' (Client event) (Server other) right right' same = absurd (two_lines shape small event other right same)
one_world_event shape shape' small small' (Server event) (Client other) right right' same = absurd (two_lines shape' small' other event right' (sym same))
one_world_event shape shape' small small' (Server event) (Server other) right right' same = ap Server (one_server_event shape shape' small small' event other right right' same)

event_inner : (shape : Shape) → shape.conns < 2 ^ 16 → (event : WorldEvent) → IsWorldEvent shape event → IsInnerLine (world_line event)
event_inner shape small (Client event) right = client_line_inner shape small event right
event_inner shape small (Server event) right = server_line_inner shape small event right

first_inner : IsInnerLine (codes "world 1")
first_inner = (refl, λ same. absurd (cc))

-- a text is that of one world
pub one_world : (shape shape' : Shape) → shape.conns < 2 ^ 16 → shape'.conns < 2 ^ 16 → (world other : List WorldEvent)
    → AllByRecursion (IsWorldEvent shape) world → AllByRecursion (IsWorldEvent shape') other → world_text world ≡ world_text other → world ≡ other
one_world shape shape' small small' world other right right' same =
    let inner = lines_inner (codes "world 1") world_line (IsWorldEvent shape) first_inner (event_inner shape small) world right in
    let inner' = lines_inner (codes "world 1") world_line (IsWorldEvent shape') first_inner (event_inner shape' small') other right' in
    let lines = one_list_of_lines (world_lines world) (world_lines other) inner inner' same in
    same_events world_line (IsWorldEvent shape) (IsWorldEvent shape') (one_world_event shape shape' small small') world other right right' (cc)

abbrev pub HasWorldForm : Shape → List (List ℕ) → List ℕ → Type 0
HasWorldForm shape before line = HasEventForm (codes "world 1") world_line (IsWorldEvent shape) before line

abbrev pub IsWorldOutcome : Shape → List ℕ → Result (List WorldEvent) TextRefusal → Type 0
IsWorldOutcome shape text outcome = IsOutcomeOf 1 MAX_WORLD_EVENTS (HasWorldForm shape) world_lines (FitsWorld shape) text outcome

module _ (shape : Shape) (small : shape.conns < 2 ^ 16) where
  inner : (before : List (List ℕ)) (line : List ℕ) → HasWorldForm shape before line → IsInnerLine line
  inner = form_inner (codes "world 1") world_line (IsWorldEvent shape) first_inner (event_inner shape small)

  are_read : (world : List WorldEvent) → FitsWorld shape world → AreRead 1 MAX_WORLD_EVENTS (HasWorldForm shape) (world_lines world)
  are_read world fits = events_read (codes "world 1") world_line (IsWorldEvent shape) MAX_WORLD_EVENTS world fits.0 fits.1

  same_world : (world other : List WorldEvent) → FitsWorld shape world → FitsWorld shape other → world_lines world ≡ world_lines other → world ≡ other
  same_world world other fits fits' same =
      same_events world_line (IsWorldEvent shape) (IsWorldEvent shape) (one_world_event shape shape small small) world other fits.0 fits'.0 (cc)

  -- a text has one outcome as that of a world which fits the shape
  pub one_world_outcome : (text : List ℕ) (one other : Result (List WorldEvent) TextRefusal) → IsWorldOutcome shape text one → IsWorldOutcome shape text other → one ≡ other
  one_world_outcome = one_outcome 1 MAX_WORLD_EVENTS (HasWorldForm shape) world_lines (FitsWorld shape) inner are_read (λ world. omega arith) same_world

  -- What a reading gives is the one outcome, where it gives an outcome or wants memory.
  pub only_world : {A : Type 0} (world_of : A → List WorldEvent) (text : List ℕ) (given : Result A TextRefusal)
      → IfOk given (λ read. IsWorldOutcome shape text (Ok (world_of read))) → IfErr given (λ error. UnlessMemory error (IsWorldRefused shape text error))
      → (world : List WorldEvent) → FitsWorld shape world → text ≡ world_text world → MatchResult given (λ read. world_of read ≡ world) (λ error. error ≡ Memory)
  only_world = only_value 1 MAX_WORLD_EVENTS (HasWorldForm shape) world_lines (FitsWorld shape) inner are_read (λ world. omega arith) same_world

  pub only_world_refusal : {A : Type 0} (world_of : A → List WorldEvent) (text : List ℕ) (given : Result A TextRefusal)
      → IfOk given (λ read. IsWorldOutcome shape text (Ok (world_of read))) → IfErr given (λ error. UnlessMemory error (IsWorldRefused shape text error))
      → (refusal : TextRefusal) → IsWorldRefused shape text refusal → IsErrAnd given (λ error. UnlessMemory error (error ≡ refusal))
  only_world_refusal = only_refusal 1 MAX_WORLD_EVENTS (HasWorldForm shape) world_lines (FitsWorld shape) inner are_read (λ world. omega arith) same_world
