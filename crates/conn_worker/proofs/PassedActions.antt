-- Actions of which one more is passed.
use Rattle.std.proofs.Common.{◌≡◌, ℕ, zero, suc, ◌+◌, ◌≤◌, cond, ltb, List, [], ◌∷◌, ◌++◌, length, take, Some, ap, ◌∙◌, arith, length-append, append-nil, add-zero}
use Rattle.std.specs.List.{slice_get}
use Rattle.std.proofs.lemmas.List.Elements.{filter_map-append}
use Rattle.conn_worker.proofs.Lists.{take_next}
use Rattle.exchange_text.proofs.FollowedActions.{received_in_all, unmet_behind-append}
use Rattle.exchange_text.specs.Follows.{parts_of, sends_of, unmet_awaits, unmet_behind}
use Rattle.exchange_text.specs.declared.action.Action.{Action}
use Rattle.exchange_text.specs.declared.action.Action.TheVariants.{Send, Await}
use Rattle.exchange_text.specs.declared.action.Part.{Part}
use Rattle.spec_model.specs.World.{client_receipts, client_sends}
use Rattle.spec_model.specs.declared.event.ClientEvent.{ClientEvent}

-- the sends among the first actions, and one more
sends_more : (actions : List Action) (place : ℕ) (action : Action) → slice_get actions place ≡ Some action
    → sends_of (take (place + 1) actions) ≡ sends_of (take place actions) ++ sends_of (action ∷ [])
sends_more actions place action at = ap sends_of (take_next actions place action at) ∙ filter_map-append parts_of (take place actions) (action ∷ [])

pub sends_with_send : (actions : List Action) (place : ℕ) (parts : List Part) → slice_get actions place ≡ Some (Send parts)
    → length (sends_of (take (place + 1) actions)) ≡ length (sends_of (take place actions)) + 1
sends_with_send actions place parts at =
    ap length (sends_more actions place (Send parts) at) ∙ length-append (sends_of (take place actions)) (parts ∷ [])

pub sends_with_await : (actions : List Action) (place count : ℕ) → slice_get actions place ≡ Some (Await count)
    → length (sends_of (take (place + 1) actions)) ≡ length (sends_of (take place actions))
sends_with_await actions place count at =
    ap length (sends_more actions place (Await count) at ∙ append-nil (sends_of (take place actions)))

-- The send that stands behind the first actions has as its number how many sends stand before it.
pub send_numbered : (actions : List Action) (place : ℕ) (parts : List Part) → slice_get actions place ≡ Some (Send parts)
    → slice_get (sends_of actions) (length (sends_of (take place actions))) ≡ Some parts
send_numbered [] place parts at = absurd (cc)
send_numbered (Send first ∷ actions) zero parts at = let same : first ≡ parts = cc in ap Some same
send_numbered (Await count ∷ actions) zero parts at = absurd (cc)
send_numbered (Send first ∷ actions) (suc place) parts at = send_numbered actions place parts at
send_numbered (Await count ∷ actions) (suc place) parts at = send_numbered actions place parts at

unmet_more : (conn : ℕ) (actions : List Action) (place : ℕ) (action : Action) (events : List ClientEvent) → slice_get actions place ≡ Some action
    → unmet_awaits conn (take (place + 1) actions) events
    ≡ unmet_awaits conn (take place actions) events + unmet_behind conn (0 + length (sends_of (take place actions))) (action ∷ []) events
unmet_more conn actions place action events at =
    ap (λ first. unmet_awaits conn first events) (take_next actions place action at)
    ∙ unmet_behind-append conn 0 (take place actions) (action ∷ []) events

-- No more awaits are unmet with one send more.
pub unmet_with_send : (conn : ℕ) (actions : List Action) (place : ℕ) (parts : List Part) (events : List ClientEvent) → slice_get actions place ≡ Some (Send parts)
    → unmet_awaits conn (take (place + 1) actions) events ≡ unmet_awaits conn (take place actions) events
unmet_with_send conn actions place parts events at = unmet_more conn actions place (Send parts) events at ∙ add-zero _

-- One await more is unmet where it asks for more than was received in all.
pub unmet_with_await : (conn : ℕ) (actions : List Action) (place count : ℕ) (events : List ClientEvent) → slice_get actions place ≡ Some (Await count)
    → length (client_sends conn events) ≤ length (sends_of (take place actions))
    → unmet_awaits conn (take (place + 1) actions) events
    ≡ unmet_awaits conn (take place actions) events + cond (ltb (length (client_receipts conn events)) count) 1 0
unmet_with_await conn actions place count events at few =
    let all = received_in_all conn (0 + length (sends_of (take place actions))) events (omega arith) in
    unmet_more conn actions place (Await count) events at
    ∙ ap (λ n. unmet_awaits conn (take place actions) events + n) (add-zero _ ∙ ap (λ received. cond (ltb received count) 1 0) all)
