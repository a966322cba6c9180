-- When a connection's events follow actions. Definition: own.
use Rattle.std.specs.Prelude.{◌≡◌, ℕ, ◌+◌, ◌-◌, ◌==◌, nat_lt, if◌then◌else◌, List, [], ◌∷◌, ◌++◌, length, filter_map, Option, Some, None, option_map}
use Rattle.std.specs.List.{slice_get}
use Rattle.spec_model.specs.declared.event.ClientEvent.{ClientEvent}
use Rattle.spec_model.specs.declared.event.ClientEvent.TheVariants.{Sends, Receives, Garbles}
use Rattle.spec_model.specs.World.{client_receipts, client_sends}
use Rattle.exchange_text.specs.declared.action.Action.{Action}
use Rattle.exchange_text.specs.declared.action.Action.TheVariants.{Send, Await}
use Rattle.exchange_text.specs.declared.action.Part.{Part}
use Rattle.exchange_text.specs.Resolved.{resolved}

abbrev pub parts_of : Action → Option (List Part)
parts_of (Send parts) = Some parts
parts_of (Await count) = None

-- the sends among actions, in order, each by its parts
abbrev pub sends_of : List Action → List (List Part)
sends_of actions = filter_map parts_of actions

-- Each message that is sent on the connection is what the send of its number makes of the messages received there before it. Events of
-- other connections play no part.
abbrev pub Follows : ℕ → List Action → List ClientEvent → Type 0
Follows conn actions events =
    (before after : List ClientEvent) (message : List ℕ) → events ≡ before ++ Sends conn message ∷ after →
    option_map (λ parts. resolved parts (client_receipts conn before)) (slice_get (sends_of actions) (length (client_sends conn before))) ≡ Some message

-- how many messages are received on the connection before the message of this number, counted from 0, is sent there; in all, where
-- none of this number is sent
abbrev pub received_before : ℕ → ℕ → List ClientEvent → ℕ
received_before conn number [] = 0
received_before conn number (Sends other message ∷ events) =
    if other == conn then (if number == 0 then 0 else received_before conn (number - 1) events)
    else received_before conn number events
received_before conn number (Receives other message ∷ events) =
    if other == conn then 1 + received_before conn number events else received_before conn number events
received_before conn number (Garbles other ∷ events) = received_before conn number events

-- How many awaits are unmet, among actions that stand behind so many sends. An await is unmet where it asks for more messages than are
-- received before the next message is sent, or in all where none is sent any more.
abbrev pub unmet_behind : ℕ → ℕ → List Action → List ClientEvent → ℕ
unmet_behind conn sends [] events = 0
unmet_behind conn sends (Send parts ∷ actions) events = unmet_behind conn (sends + 1) actions events
unmet_behind conn sends (Await count ∷ actions) events =
    (if nat_lt (received_before conn sends events) count then 1 else 0) + unmet_behind conn sends actions events

-- how many awaits among actions are unmet
abbrev pub unmet_awaits : ℕ → List Action → List ClientEvent → ℕ
unmet_awaits conn actions events = unmet_behind conn 0 actions events
