-- The text of an exchange.
use Rattle.std.specs.Prelude.{◌≡◌, ℕ, ◌≤◌, List, ◌∷◌, length, map, codes}
use Rattle.spec_model.specs.declared.event.ClientEvent.{ClientEvent}
use Rattle.spec_model.specs.declared.event.Shape.{Shape}
use Rattle.spec_model.specs.World.{IsExchange, IsOfShape}
use Rattle.exchange_text.specs.declared.refusal.TextRefusal.{TextRefusal}
use Rattle.exchange_text.specs.declared.exchange.TheConstants.{MAX_EXCHANGE_EVENTS}
use Rattle.exchange_text.specs.EventLine.{client_line}
use Rattle.exchange_text.specs.Text.{text_of, HasEventForm, IsRefused}

-- the lines before the last one
abbrev pub exchange_lines : List ClientEvent → List (List ℕ)
exchange_lines exchange = codes "exchange 1" ∷ map client_line exchange

abbrev pub exchange_text : List ClientEvent → List ℕ
exchange_text exchange = text_of (exchange_lines exchange)

-- the text spells the exchange
abbrev pub Spells : List ℕ → List ClientEvent → Type 0
Spells text exchange = text ≡ exchange_text exchange

-- An exchange fits a shape where it is one of the shape, and has no more events than the greatest number.
abbrev pub FitsShape : Shape → List ClientEvent → Type 0
FitsShape shape exchange = IsExchange shape exchange × (length exchange ≤ MAX_EXCHANGE_EVENTS)

-- the refusal of a text as that of an exchange of the shape
abbrev pub IsExchangeRefused : Shape → List ℕ → TextRefusal → Type 0
IsExchangeRefused shape text refusal =
    IsRefused 1 MAX_EXCHANGE_EVENTS (HasEventForm (codes "exchange 1") client_line (IsOfShape shape)) text refusal
