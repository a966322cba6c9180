-- The messages that pass on a connection, as exchanges and the server's events go on.
use Rattle.std.proofs.Common.{◌≡◌, ℕ, ◌+◌, List, [], ◌∷◌, ◌++◌, length, Option, Some, None, filter_map, nat_eq, refl, ap, ◌∙◌, append-nil}
use Rattle.std.proofs.lemmas.Bool.{eq-eqb, eqb-true, ne_eqb}
use Rattle.std.proofs.lemmas.Option.{cond_some}
use Rattle.std.proofs.lemmas.List.{length_push}
use Rattle.std.proofs.lemmas.List.Elements.{filter_map-append}
use Rattle.spec_model.specs.declared.event.ClientEvent.{ClientEvent}
use Rattle.spec_model.specs.declared.event.ClientEvent.TheVariants as clients
use Rattle.spec_model.specs.declared.event.ServerEvent.{ServerEvent}
use Rattle.spec_model.specs.declared.event.ServerEvent.TheVariants as servers
use Rattle.spec_model.specs.World.{on_conn, sent_by_client, received_by_client, taken_by_server, sent_by_server, client_sends, client_receipts, server_takes, server_sends}

-- what is picked out of a list with one item more: what is picked for the item, at the end
pub filter_map-push_some : {A B : Type 0} (f : A → Option B) (list : List A) (item : A) (value : B) → f item ≡ Some value
    → filter_map f (list ++ item ∷ []) ≡ filter_map f list ++ value ∷ []
filter_map-push_some f list item value is = filter_map-append f list (item ∷ []) ∙ rw is refl

pub filter_map-push_none : {A B : Type 0} (f : A → Option B) (list : List A) (item : A) → f item ≡ None → filter_map f (list ++ item ∷ []) ≡ filter_map f list
filter_map-push_none f list item is = filter_map-append f list (item ∷ []) ∙ rw is (append-nil (filter_map f list))

pub on_conn_same : (conn : ℕ) (message : List ℕ) → on_conn conn conn message ≡ Some message
on_conn_same conn message = rw (eq-eqb conn conn refl) refl

pub on_conn_other : (conn other : ℕ) (message : List ℕ) → (other ≡ conn → ⊥) → on_conn conn other message ≡ None
on_conn_other conn other message apart = rw (ne_eqb other conn apart) refl

-- the messages on a connection behind one that passes on it, or on another
pub client_sends-push_same : (conn : ℕ) (exchange : List ClientEvent) (message : List ℕ)
    → client_sends conn (exchange ++ clients.Sends conn message ∷ []) ≡ client_sends conn exchange ++ message ∷ []
client_sends-push_same conn exchange message = filter_map-push_some (sent_by_client conn) exchange (clients.Sends conn message) message (on_conn_same conn message)

pub client_sends-push_other : (conn other : ℕ) (exchange : List ClientEvent) (message : List ℕ) → (other ≡ conn → ⊥)
    → client_sends conn (exchange ++ clients.Sends other message ∷ []) ≡ client_sends conn exchange
client_sends-push_other conn other exchange message apart =
    filter_map-push_none (sent_by_client conn) exchange (clients.Sends other message) (on_conn_other conn other message apart)

pub client_receipts-push_same : (conn : ℕ) (exchange : List ClientEvent) (message : List ℕ)
    → client_receipts conn (exchange ++ clients.Receives conn message ∷ []) ≡ client_receipts conn exchange ++ message ∷ []
client_receipts-push_same conn exchange message = filter_map-push_some (received_by_client conn) exchange (clients.Receives conn message) message (on_conn_same conn message)

pub client_receipts-push_other : (conn other : ℕ) (exchange : List ClientEvent) (message : List ℕ) → (other ≡ conn → ⊥)
    → client_receipts conn (exchange ++ clients.Receives other message ∷ []) ≡ client_receipts conn exchange
client_receipts-push_other conn other exchange message apart =
    filter_map-push_none (received_by_client conn) exchange (clients.Receives other message) (on_conn_other conn other message apart)

pub server_takes-push_same : (conn : ℕ) (events : List ServerEvent) (message : List ℕ)
    → server_takes conn (events ++ servers.Take conn message ∷ []) ≡ server_takes conn events ++ message ∷ []
server_takes-push_same conn events message = filter_map-push_some (taken_by_server conn) events (servers.Take conn message) message (on_conn_same conn message)

pub server_takes-push_other : (conn other : ℕ) (events : List ServerEvent) (message : List ℕ) → (other ≡ conn → ⊥)
    → server_takes conn (events ++ servers.Take other message ∷ []) ≡ server_takes conn events
server_takes-push_other conn other events message apart =
    filter_map-push_none (taken_by_server conn) events (servers.Take other message) (on_conn_other conn other message apart)

pub server_sends-push_same : (conn : ℕ) (events : List ServerEvent) (message : List ℕ)
    → server_sends conn (events ++ servers.Send conn message ∷ []) ≡ server_sends conn events ++ message ∷ []
server_sends-push_same conn events message = filter_map-push_some (sent_by_server conn) events (servers.Send conn message) message (on_conn_same conn message)

pub length-server_sends-push : (conn : ℕ) (events : List ServerEvent) (message : List ℕ)
    → length (server_sends conn (events ++ servers.Send conn message ∷ [])) ≡ length (server_sends conn events) + 1
length-server_sends-push conn events message = ap length (server_sends-push_same conn events message) ∙ length_push (server_sends conn events) message

pub server_sends-push_other : (conn other : ℕ) (events : List ServerEvent) (message : List ℕ) → (other ≡ conn → ⊥)
    → server_sends conn (events ++ servers.Send other message ∷ []) ≡ server_sends conn events
server_sends-push_other conn other events message apart =
    filter_map-push_none (sent_by_server conn) events (servers.Send other message) (on_conn_other conn other message apart)

-- a send of a client adds no receipt, and a receipt no send
pub client_receipts-push_send : (conn other : ℕ) (exchange : List ClientEvent) (message : List ℕ)
    → client_receipts conn (exchange ++ clients.Sends other message ∷ []) ≡ client_receipts conn exchange
client_receipts-push_send conn other exchange message = filter_map-push_none (received_by_client conn) exchange (clients.Sends other message) refl

pub client_sends-push_receipt : (conn other : ℕ) (exchange : List ClientEvent) (message : List ℕ)
    → client_sends conn (exchange ++ clients.Receives other message ∷ []) ≡ client_sends conn exchange
client_sends-push_receipt conn other exchange message = filter_map-push_none (sent_by_client conn) exchange (clients.Receives other message) refl

-- The first item of a list for which something is picked, which is this value.
pub record FirstGiven {A B : Type 0} (f : A → Option B) (list : List A) (value : B) : Type 0 where
  pub before : List A
  pub item : A
  pub after : List A
  pub whole : list ≡ before ++ item ∷ after
  pub none_before : filter_map f before ≡ []
  pub given : f item ≡ Some value

first_by : {A B : Type 0} (f : A → Option B) (first : A) (list : List A) (value : B) (more : List B) (picked : Option B) → f first ≡ picked
    → filter_map f (first ∷ list) ≡ value ∷ more → (filter_map f list ≡ value ∷ more → FirstGiven f list value) → FirstGiven f (first ∷ list) value
first_by f first list value more (Some given) picks is later =
    let shown : given ∷ filter_map f list ≡ value ∷ more = rw picks at is in
    record { before = []; item = first; after = list; whole = refl; none_before = refl; given = cc }
first_by f first list value more None picks is later =
    let rest = later (rw picks at is) in
    record {
      before = first ∷ rest.before;
      item = rest.item;
      after = rest.after;
      whole = ap (λ items. first ∷ items) rest.whole;
      none_before = rw picks rest.none_before;
      given = rest.given;
    }

pub first_given : {A B : Type 0} (f : A → Option B) (list : List A) (value : B) (more : List B) → filter_map f list ≡ value ∷ more → FirstGiven f list value
first_given f [] value more is = absurd cc
first_given f (first ∷ list) value more is = first_by f first list value more (f first) refl is (first_given f list value more)

on_conn_tells : (conn other : ℕ) (sent message : List ℕ) → on_conn conn other sent ≡ Some message → (other ≡ conn) × (sent ≡ message)
on_conn_tells conn other sent message is =
    let (tested, same) = cond_some (nat_eq other conn) sent message is in
    (eqb-true other conn tested, same)

-- an event of the server by which a message is sent on a connection is a send
pub send_from_sent : (conn : ℕ) (event : ServerEvent) (message : List ℕ) → sent_by_server conn event ≡ Some message → event ≡ servers.Send conn message
send_from_sent conn (servers.Send other sent) message is =
    let (same_conn, same_message) = on_conn_tells conn other sent message is in
    cc
send_from_sent conn (servers.Take other taken) message is = absurd cc
send_from_sent conn (servers.Pick text) message is = absurd cc
send_from_sent conn (servers.Arm arm) message is = absurd cc
send_from_sent conn (servers.Test outcome) message is = absurd cc
