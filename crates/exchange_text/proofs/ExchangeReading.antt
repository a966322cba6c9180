-- Reading the text of an exchange.
use Rattle.std.proofs.Common.{◌≡◌, ℕ, ◌^◌, ◌<◌, List, Result, Ok, refl, arith, codes}
use Rattle.std.specs.Result.{IfOk, IfErr, IsErrAnd, MatchResult}
use Rattle.spec_model.specs.declared.event.ClientEvent.{ClientEvent}
use Rattle.spec_model.specs.declared.event.Shape.{Shape}
use Rattle.spec_model.specs.World.{IsExchange, IsOfShape}
use Rattle.exchange_text.specs.declared.exchange.TheConstants.{MAX_EXCHANGE_EVENTS}
use Rattle.exchange_text.specs.declared.refusal.TextRefusal.{TextRefusal}
use Rattle.exchange_text.specs.declared.refusal.TextRefusal.TheVariants.{Memory}
use Rattle.exchange_text.specs.EventLine.{client_line}
use Rattle.exchange_text.specs.ExchangeText.{exchange_lines, exchange_text, FitsShape, IsExchangeRefused}
use Rattle.exchange_text.specs.Text.{AreRead, HasEventForm, UnlessMemory}
use Rattle.exchange_text.proofs.ClientLines.{client_line_inner, one_client_event}
use Rattle.exchange_text.proofs.EventTexts.{same_events, form_inner, events_read, lines_inner}
use Rattle.exchange_text.proofs.Outcomes.{IsInnerLine, IsOutcomeOf, one_outcome, only_value, only_refusal, one_list_of_lines}

pub first_inner : IsInnerLine (codes "exchange 1")
first_inner = (refl, λ same. absurd (cc))

-- a text is that of one exchange
pub one_exchange : (shape shape' : Shape) → shape.conns < 2 ^ 16 → shape'.conns < 2 ^ 16 → (exchange other : List ClientEvent) → IsExchange shape exchange → IsExchange shape' other
    → exchange_text exchange ≡ exchange_text other → exchange ≡ other
one_exchange shape shape' small small' exchange other of_shape of_shape' same =
    let inner = lines_inner (codes "exchange 1") client_line (IsOfShape shape) first_inner (client_line_inner shape small) exchange of_shape in
    let inner' = lines_inner (codes "exchange 1") client_line (IsOfShape shape') first_inner (client_line_inner shape' small') other of_shape' in
    let lines = one_list_of_lines (exchange_lines exchange) (exchange_lines other) inner inner' same in
    same_events client_line (IsOfShape shape) (IsOfShape shape') (one_client_event shape shape' small small') exchange other of_shape of_shape' (cc)

abbrev pub HasExchangeForm : Shape → List (List ℕ) → List ℕ → Type 0
HasExchangeForm shape before line = HasEventForm (codes "exchange 1") client_line (IsOfShape shape) before line

abbrev pub IsExchangeOutcome : Shape → List ℕ → Result (List ClientEvent) TextRefusal → Type 0
IsExchangeOutcome shape text outcome = IsOutcomeOf 1 MAX_EXCHANGE_EVENTS (HasExchangeForm shape) exchange_lines (FitsShape shape) text outcome

module _ (shape : Shape) (small : shape.conns < 2 ^ 16) where
  inner : (before : List (List ℕ)) (line : List ℕ) → HasExchangeForm shape before line → IsInnerLine line
  inner = form_inner (codes "exchange 1") client_line (IsOfShape shape) first_inner (client_line_inner shape small)

  are_read : (exchange : List ClientEvent) → FitsShape shape exchange → AreRead 1 MAX_EXCHANGE_EVENTS (HasExchangeForm shape) (exchange_lines exchange)
  are_read exchange fits = events_read (codes "exchange 1") client_line (IsOfShape shape) MAX_EXCHANGE_EVENTS exchange fits.0 fits.1

  same_exchange : (exchange other : List ClientEvent) → FitsShape shape exchange → FitsShape shape other → exchange_lines exchange ≡ exchange_lines other → exchange ≡ other
  same_exchange exchange other fits fits' same =
      same_events client_line (IsOfShape shape) (IsOfShape shape) (one_client_event shape shape small small) exchange other fits.0 fits'.0 (cc)

  -- a text has one outcome as that of an exchange which fits the shape
  pub one_exchange_outcome : (text : List ℕ) (one other : Result (List ClientEvent) TextRefusal) → IsExchangeOutcome shape text one → IsExchangeOutcome shape text other → one ≡ other
  one_exchange_outcome =
      one_outcome 1 MAX_EXCHANGE_EVENTS (HasExchangeForm shape) exchange_lines (FitsShape shape) inner are_read (λ exchange. omega arith) same_exchange

  -- What a reading gives is the one outcome, where it gives an outcome or wants memory.
  pub only_exchange : {A : Type 0} (exchange_of : A → List ClientEvent) (text : List ℕ) (given : Result A TextRefusal)
      → IfOk given (λ read. IsExchangeOutcome shape text (Ok (exchange_of read))) → IfErr given (λ error. UnlessMemory error (IsExchangeRefused shape text error))
      → (exchange : List ClientEvent) → FitsShape shape exchange → text ≡ exchange_text exchange → MatchResult given (λ read. exchange_of read ≡ exchange) (λ error. error ≡ Memory)
  only_exchange =
      only_value 1 MAX_EXCHANGE_EVENTS (HasExchangeForm shape) exchange_lines (FitsShape shape) inner are_read (λ exchange. omega arith) same_exchange

  pub only_exchange_refusal : {A : Type 0} (exchange_of : A → List ClientEvent) (text : List ℕ) (given : Result A TextRefusal)
      → IfOk given (λ read. IsExchangeOutcome shape text (Ok (exchange_of read))) → IfErr given (λ error. UnlessMemory error (IsExchangeRefused shape text error))
      → (refusal : TextRefusal) → IsExchangeRefused shape text refusal → IsErrAnd given (λ error. UnlessMemory error (error ≡ refusal))
  only_exchange_refusal =
      only_refusal 1 MAX_EXCHANGE_EVENTS (HasExchangeForm shape) exchange_lines (FitsShape shape) inner are_read (λ exchange. omega arith) same_exchange
