-- Events that follow actions, with one event more, and awaits that are unmet.
use Rattle.std.proofs.Common.{◌≡◌, ℕ, ◌+◌, ◌-◌, ◌≤◌, Bool, true, false, cond, eqb, ltb, List, [], ◌∷◌, ◌++◌, length, Option, Some, None, option_map, refl, ◌∙◌, ap, subst, inl, inr, arith, zero-add, add-zero}
use Rattle.std.specs.List.{cons_option, slice_get}
use Rattle.std.proofs.lemmas.Bool.{ne_eqb, le-ltb, lt-ltb, cases_lt}
use Rattle.spec_model.specs.declared.event.ClientEvent.{ClientEvent}
use Rattle.spec_model.specs.declared.event.ClientEvent.TheVariants.{Sends, Receives, Garbles}
use Rattle.spec_model.specs.World.{client_receipts, client_sends}
use Rattle.exchange_text.specs.declared.action.Action.{Action}
use Rattle.exchange_text.specs.declared.action.Action.TheVariants.{Send, Await}
use Rattle.exchange_text.specs.Follows.{Follows, sends_of, received_before, unmet_behind}
use Rattle.exchange_text.specs.Resolved.{resolved}
use Rattle.exchange_text.proofs.Reading.{last_or_before, not_empty}

-- what the send of the next number makes of what was received
abbrev pub next_message : ℕ → List Action → List ClientEvent → Option (List ℕ)
next_message conn actions events =
    option_map (λ parts. resolved parts (client_receipts conn events)) (slice_get (sends_of actions) (length (client_sends conn events)))

-- No events follow any actions.
pub follows_nothing : (conn : ℕ) (actions : List Action) → Follows conn actions []
follows_nothing conn actions before after message same = absurd (not_empty before after (Sends conn message) same)

-- One event more follows them where it is no message that is sent on the connection, or the one that is due.
follows_more : (conn : ℕ) (actions : List Action) (events : List ClientEvent) (event : ClientEvent) → Follows conn actions events
    → ((message : List ℕ) → event ≡ Sends conn message → next_message conn actions events ≡ Some message)
    → Follows conn actions (events ++ event ∷ [])
follows_more conn actions events event follows due before after message same =
    elim (last_or_before events before after event (Sends conn message) same) [
      | inl (last, front) ↦ subst (λ front. next_message conn actions front ≡ Some message) front (due message last)
      | inr (more, front) ↦ follows before more message front
    ]

pub follows_sent : (conn : ℕ) (actions : List Action) (events : List ClientEvent) (message : List ℕ) → Follows conn actions events
    → next_message conn actions events ≡ Some message → Follows conn actions (events ++ Sends conn message ∷ [])
follows_sent conn actions events message follows due =
    follows_more conn actions events (Sends conn message) follows (λ other same. let text : message ≡ other = cc in due ∙ ap Some text)

pub follows_received : (conn : ℕ) (actions : List Action) (events : List ClientEvent) (other : ℕ) (message : List ℕ) → Follows conn actions events
    → Follows conn actions (events ++ Receives other message ∷ [])
follows_received conn actions events other message follows = follows_more conn actions events (Receives other message) follows (λ text same. absurd (cc))

pub follows_garbled : (conn : ℕ) (actions : List Action) (events : List ClientEvent) (other : ℕ) → Follows conn actions events
    → Follows conn actions (events ++ Garbles other ∷ [])
follows_garbled conn actions events other follows = follows_more conn actions events (Garbles other) follows (λ text same. absurd (cc))

-- Behind the sends that were made all that was received counts.
pub received_in_all : (conn number : ℕ) (events : List ClientEvent) → length (client_sends conn events) ≤ number
    → received_before conn number events ≡ length (client_receipts conn events)
received_in_all conn number [] few = refl
received_in_all conn number (Sends other message ∷ events) few = go (eqb other conn) few (λ number few. received_in_all conn number events few)
  where
    go : (same : Bool) → length (cons_option (cond same (Some message) None) (client_sends conn events)) ≤ number
        → ((n : ℕ) → length (client_sends conn events) ≤ n → received_before conn n events ≡ length (client_receipts conn events))
        → cond same (cond (eqb number 0) 0 (received_before conn (number - 1) events)) (received_before conn number events)
        ≡ length (client_receipts conn events)
    go false few all = all number few
    go true few all = rw (ne_eqb number 0 (λ none. absurd (omega arith))) (all (number - 1) (omega arith))
received_in_all conn number (Receives other message ∷ events) few = go (eqb other conn) (received_in_all conn number events few)
  where
    go : (same : Bool) → received_before conn number events ≡ length (client_receipts conn events)
        → cond same (1 + received_before conn number events) (received_before conn number events)
        ≡ length (cons_option (cond same (Some message) None) (client_receipts conn events))
    go false all = all
    go true all = rw all (omega arith)
received_in_all conn number (Garbles other ∷ events) few = received_in_all conn number events few

-- No fewer are received with one event more.
pub received_no_fewer : (conn number : ℕ) (events : List ClientEvent) (event : ClientEvent)
    → received_before conn number events ≤ received_before conn number (events ++ event ∷ [])
received_no_fewer conn number [] event = omega arith
received_no_fewer conn number (Sends other message ∷ events) event =
    go (eqb other conn) (eqb number 0) (received_no_fewer conn number events event) (received_no_fewer conn (number - 1) events event)
  where
    go : (same none : Bool) → received_before conn number events ≤ received_before conn number (events ++ event ∷ [])
        → received_before conn (number - 1) events ≤ received_before conn (number - 1) (events ++ event ∷ [])
        → cond same (cond none 0 (received_before conn (number - 1) events)) (received_before conn number events)
        ≤ cond same (cond none 0 (received_before conn (number - 1) (events ++ event ∷ []))) (received_before conn number (events ++ event ∷ []))
    go false none here before = here
    go true false here before = before
    go true true here before = omega arith
received_no_fewer conn number (Receives other message ∷ events) event = go (eqb other conn) (received_no_fewer conn number events event)
  where
    go : (same : Bool) → received_before conn number events ≤ received_before conn number (events ++ event ∷ [])
        → cond same (1 + received_before conn number events) (received_before conn number events)
        ≤ cond same (1 + received_before conn number (events ++ event ∷ [])) (received_before conn number (events ++ event ∷ []))
    go false here = here
    go true here = omega arith
received_no_fewer conn number (Garbles other ∷ events) event = received_no_fewer conn number events event

-- What is enough for one stays enough for what is no less.
fewer_unmet : (received more count : ℕ) → received ≤ more → cond (ltb more count) 1 0 ≤ cond (ltb received count) 1 0
fewer_unmet received more count no_less = elim (cases_lt received count) [
  | inl below ↦ rw (lt-ltb received count below) (at_most_one (ltb more count))
  | inr enough ↦ rw (le-ltb more count (omega arith)) (omega arith)
]
  where
    at_most_one : (unmet : Bool) → cond unmet 1 0 ≤ 1
    at_most_one true = omega arith
    at_most_one false = omega arith

-- No more awaits are unmet with one event more.
pub no_more_unmet : (conn sends : ℕ) (actions : List Action) (events : List ClientEvent) (event : ClientEvent)
    → unmet_behind conn sends actions (events ++ event ∷ []) ≤ unmet_behind conn sends actions events
no_more_unmet conn sends [] events event = omega arith
no_more_unmet conn sends (Send parts ∷ actions) events event = no_more_unmet conn (sends + 1) actions events event
no_more_unmet conn sends (Await count ∷ actions) events event =
    let here = fewer_unmet (received_before conn sends events) (received_before conn sends (events ++ event ∷ [])) count (received_no_fewer conn sends events event) in
    let later = no_more_unmet conn sends actions events event in
    omega arith

-- The unmet awaits of actions are those of the first ones and those of the others behind them.
pub unmet_behind-append : (conn sends : ℕ) (actions more : List Action) (events : List ClientEvent)
    → unmet_behind conn sends (actions ++ more) events ≡ unmet_behind conn sends actions events + unmet_behind conn (sends + length (sends_of actions)) more events
unmet_behind-append conn sends [] more events = simp (zero-add, add-zero) refl
unmet_behind-append conn sends (Send parts ∷ actions) more events =
    unmet_behind-append conn (sends + 1) actions more events
    ∙ ap (λ n. unmet_behind conn (sends + 1) actions events + unmet_behind conn n more events) (omega arith)
unmet_behind-append conn sends (Await count ∷ actions) more events =
    let later = unmet_behind-append conn sends actions more events in
    omega arith
