-- Worlds: what clients and server did, in one order. That each connection delivers in order, each way, is RFC 9293's.
use Rattle.std.specs.Prelude.{◌≡◌, ℕ, ◌<◌, Bool, true, false, nat_eq, if◌then◌else◌, List, ◌++◌, take, filter_map, Option, Some, None}
use Rattle.std.specs.List.{AllByRecursion, list_any}
use Rattle.spec_model.specs.declared.event.ClientEvent.{ClientEvent}
use Rattle.spec_model.specs.declared.event.ClientEvent.TheVariants as clients
use Rattle.spec_model.specs.declared.event.ServerEvent.{ServerEvent}
use Rattle.spec_model.specs.declared.event.ServerEvent.TheVariants as servers
use Rattle.spec_model.specs.declared.event.Shape.{Shape}
use Rattle.spec_model.specs.declared.event.WorldEvent.{WorldEvent}
use Rattle.spec_model.specs.declared.event.WorldEvent.TheVariants.{Client, Server}
use Rattle.spec_model.specs.declared.tree.Spec.{Spec}
use Rattle.spec_model.specs.Message.{IsMessage}
use Rattle.spec_model.specs.Run.{IsRun}

-- A client event is of a shape where its connection is one of the shape's, and its message, where it has one, is a message.
abbrev pub IsOfShape : Shape → ClientEvent → Type 0
IsOfShape shape (clients.Sends conn message) = (conn < shape.conns) × IsMessage shape message
IsOfShape shape (clients.Receives conn message) = (conn < shape.conns) × IsMessage shape message
IsOfShape shape (clients.Garbles conn) = conn < shape.conns

-- an exchange is a list of client events; of a shape it is where each event is
abbrev pub IsExchange : Shape → List ClientEvent → Type 0
IsExchange shape exchange = AllByRecursion (IsOfShape shape) exchange

abbrev pub client_event : WorldEvent → Option ClientEvent
client_event (Client event) = Some event
client_event (Server event) = None

abbrev pub server_event : WorldEvent → Option ServerEvent
server_event (Client event) = None
server_event (Server event) = Some event

-- a world's client events, and its server events
abbrev pub clients_of : List WorldEvent → List ClientEvent
clients_of world = filter_map client_event world

abbrev pub server_of : List WorldEvent → List ServerEvent
server_of world = filter_map server_event world

-- the message, where it passed on this connection
abbrev pub on_conn : ℕ → ℕ → List ℕ → Option (List ℕ)
on_conn conn other message = if nat_eq other conn then Some message else None

abbrev pub sent_by_client : ℕ → ClientEvent → Option (List ℕ)
sent_by_client conn (clients.Sends other message) = on_conn conn other message
sent_by_client conn _ = None

abbrev pub received_by_client : ℕ → ClientEvent → Option (List ℕ)
received_by_client conn (clients.Receives other message) = on_conn conn other message
received_by_client conn _ = None

abbrev pub taken_by_server : ℕ → ServerEvent → Option (List ℕ)
taken_by_server conn (servers.Take other message) = on_conn conn other message
taken_by_server conn _ = None

abbrev pub sent_by_server : ℕ → ServerEvent → Option (List ℕ)
sent_by_server conn (servers.Send other message) = on_conn conn other message
sent_by_server conn _ = None

-- the messages that clients sent and received on a connection, and those that the server took and sent, in order
abbrev pub client_sends : ℕ → List ClientEvent → List (List ℕ)
client_sends conn events = filter_map (sent_by_client conn) events

abbrev pub client_receipts : ℕ → List ClientEvent → List (List ℕ)
client_receipts conn events = filter_map (received_by_client conn) events

abbrev pub server_takes : ℕ → List ServerEvent → List (List ℕ)
server_takes conn events = filter_map (taken_by_server conn) events

abbrev pub server_sends : ℕ → List ServerEvent → List (List ℕ)
server_sends conn events = filter_map (sent_by_server conn) events

-- the second list begins with the first
abbrev pub IsPrefixOf : {A : Type 0} → List A → List A → Type 0
IsPrefixOf {A} front whole = (rest : List A) × (whole ≡ front ++ rest)

-- On this connection the messages taken are the first that the client sent, and the messages received are the first
-- that the server sent.
pub record InOrder (conn : ℕ) (world : List WorldEvent) : Type 0 where
  pub up : IsPrefixOf (server_takes conn (server_of world)) (client_sends conn (clients_of world))
  pub down : IsPrefixOf (client_receipts conn (clients_of world)) (server_sends conn (server_of world))

-- whether bytes came that begin no message
abbrev pub is_garbled : ClientEvent → Bool
is_garbled (clients.Garbles conn) = true
is_garbled _ = false

-- A world is legal where each prefix of it is in order on each connection, and nothing garbled came.
pub record IsLegal (world : List WorldEvent) : Type 0 where
  pub in_order : (count conn : ℕ) → InOrder conn (take count world)
  pub none_garbled : list_any is_garbled (clients_of world) ≡ false

-- A legal world explains an exchange where its client events are the exchange and its server events are a run.
pub record Explains (spec : Spec) (world : List WorldEvent) (exchange : List ClientEvent) : Type 0 where
  pub legal : IsLegal world
  pub clients : clients_of world ≡ exchange
  pub run : IsRun spec (server_of world)

-- some world explains the exchange
abbrev pub IsExplained : Spec → List ClientEvent → Type 0
IsExplained spec exchange = (world : List WorldEvent) × Explains spec world exchange
