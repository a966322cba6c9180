-- What is under way to the server.
use Rattle.std.proofs.Common.{◌≡◌, ◌≢◌, ℕ, zero, suc, ◌+◌, ◌<◌, ◌≤◌, ◌⊎◌, inl, inr, List, [], ◌∷◌, ◌++◌, drop, get_or, length, replicate, take, refl, sym, ◌∙◌, ap, subst, arith}
use Rattle.std.specs.List.{AllByRecursion}
use Rattle.std.proofs.lemmas.Bool.{cases_eq, cases_lt}
use Rattle.std.proofs.lemmas.List.{get_or-replicate, get_or-set_other, get_or-set_same, get_or_past, length-replicate, length-set, set_past, take_more}
use Rattle.spec_model.specs.declared.event.ClientEvent.{ClientEvent}
use Rattle.spec_model.specs.declared.event.ClientEvent.TheVariants as clients
use Rattle.spec_model.specs.declared.event.Shape.{Shape}
use Rattle.spec_model.specs.World.{IsExchange, IsOfShape, client_sends, sent_by_client}
use Rattle.spec_model.proofs.PassedMessages.{client_sends-push_other, client_sends-push_same, filter_map-push_none}
use Rattle.net_world.specs.declared.way.Way.TheVariants.{Up}
use Rattle.net_world.specs.Net.{UnderWay, nothing, queue, with_queue}

abbrev up_of : UnderWay → List (List ℕ)
up_of under = under.up

-- on a new network nothing is
pub queue-new : (count conn : ℕ) → queue Up conn (replicate count nothing) ≡ []
queue-new count conn = by_place (cases_lt conn count)
  where
    by_place : (conn < count) ⊎ (count ≤ conn) → queue Up conn (replicate count nothing) ≡ []
    by_place (inl within) = ap up_of (get_or-replicate count conn nothing nothing within)
    by_place (inr past) = ap up_of (get_or_past (replicate count nothing) conn nothing (omega (arith, length-replicate count nothing)))

-- where a queue is changed, the others stay
pub queue-other : (net : List UnderWay) (conn other : ℕ) (messages : List (List ℕ)) → other ≢ conn → queue Up other (with_queue Up conn messages net) ≡ queue Up other net
queue-other net conn other messages apart = ap up_of (get_or-set_other net conn other (record (get_or net conn nothing) { up = messages }) nothing apart)

pub queue-same : (net : List UnderWay) (conn : ℕ) (messages : List (List ℕ)) → conn < length net → queue Up conn (with_queue Up conn messages net) ≡ messages
queue-same net conn messages within = ap up_of (get_or-set_same net conn (record (get_or net conn nothing) { up = messages }) nothing within)

-- the oldest message is taken out of a queue, also where the network has no such connection
pub queue-taken : (net : List UnderWay) (conn : ℕ) → queue Up conn (with_queue Up conn (drop 1 (queue Up conn net)) net) ≡ drop 1 (queue Up conn net)
queue-taken net conn = by_place (cases_lt conn (length net))
  where
    by_place : (conn < length net) ⊎ (length net ≤ conn) → queue Up conn (with_queue Up conn (drop 1 (queue Up conn net)) net) ≡ drop 1 (queue Up conn net)
    by_place (inl within) = queue-same net conn (drop 1 (queue Up conn net)) within
    by_place (inr past) =
        let empty : queue Up conn net ≡ [] = ap up_of (get_or_past net conn nothing past) in
        ap (queue Up conn) (set_past net conn (record (get_or net conn nothing) { up = drop 1 (queue Up conn net) }) past) ∙ empty ∙ sym (ap (drop 1) empty)

-- where what clients sent so far is under way, it is so with a message that is put in as it is sent
pub sent_with : (net : List UnderWay) (exchange : List ClientEvent) (conn : ℕ) (message : List ℕ) → conn < length net → ((other : ℕ) → queue Up other net ≡ client_sends other exchange)
    → (other : ℕ) → queue Up other (with_queue Up conn (queue Up conn net ++ message ∷ []) net) ≡ client_sends other (exchange ++ clients.Sends conn message ∷ [])
sent_with net exchange conn message within sent other = by_conn (cases_eq other conn)
  where
    by_conn : (other ≡ conn) ⊎ (other ≢ conn) → queue Up other (with_queue Up conn (queue Up conn net ++ message ∷ []) net) ≡ client_sends other (exchange ++ clients.Sends conn message ∷ [])
    by_conn (inl same) =
        rw same (queue-same net conn (queue Up conn net ++ message ∷ []) within
        ∙ ap (λ messages. messages ++ message ∷ []) (sent conn) ∙ sym (client_sends-push_same conn exchange message))
    by_conn (inr apart) =
        queue-other net conn other (queue Up conn net ++ message ∷ []) apart ∙ sent other
        ∙ sym (client_sends-push_other other conn exchange message (λ same. apart (sym same)))

-- an event that is no send adds none
pub sends_no_more : (exchange : List ClientEvent) (event : ClientEvent) (conn : ℕ) → ((other : ℕ) (message : List ℕ) → event ≡ clients.Sends other message → ⊥)
    → client_sends conn (exchange ++ event ∷ []) ≡ client_sends conn exchange
sends_no_more exchange (clients.Sends other message) conn not_send = absurd (not_send other message refl)
sends_no_more exchange (clients.Receives other message) conn not_send = filter_map-push_none (sent_by_client conn) exchange (clients.Receives other message) refl
sends_no_more exchange (clients.Garbles other) conn not_send = filter_map-push_none (sent_by_client conn) exchange (clients.Garbles other) refl

-- one event more of an exchange
pub take_event : (exchange : List ClientEvent) (number : ℕ) (event : ClientEvent) → number < length exchange → event ≡ get_or exchange number event
    → take (number + 1) exchange ≡ take number exchange ++ event ∷ []
take_event exchange number event within is = take_more exchange number event within ∙ ap (λ last. take number exchange ++ last ∷ []) (sym is)

-- what holds of each item holds of that at a place
all_at : {A : Type 0} (P : A → Type 0) (list : List A) (place : ℕ) (default : A) → AllByRecursion P list → place < length list → P (get_or list place default)
all_at P [] place default all within = absurd (omega (arith, within))
all_at P (item ∷ list) zero default all within = all.0
all_at P (item ∷ list) (suc place) default all within = all_at P list place default all.1 (omega (arith, within))

-- the connection of a send of the exchange is one of the shape's
pub sends_within : (shape : Shape) (exchange : List ClientEvent) (number : ℕ) (event : ClientEvent) (conn : ℕ) (message : List ℕ) → IsExchange shape exchange
    → number < length exchange → event ≡ get_or exchange number event → event ≡ clients.Sends conn message → conn < shape.conns
sends_within shape exchange number event conn message of_shape within is sends =
    let here : IsOfShape shape event = subst (IsOfShape shape) (sym is) (all_at (IsOfShape shape) exchange number event of_shape within) in
    (subst (IsOfShape shape) sends here).0

pub length-with_queue : (net : List UnderWay) (conn : ℕ) (messages : List (List ℕ)) → length (with_queue Up conn messages net) ≡ length net
length-with_queue net conn messages = length-set net conn (record (get_or net conn nothing) { up = messages })
