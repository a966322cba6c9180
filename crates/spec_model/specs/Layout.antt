-- Short runs, and the layout of a world in which the server moves as late as it can.
use Rattle.std.specs.Prelude.{◌≡◌, ℕ, ◌⊎◌, List, [], ◌∷◌, ◌++◌, drop, length, map, slice_get, sum, take, Some}
use Rattle.spec_model.specs.declared.event.ClientEvent.{ClientEvent}
use Rattle.spec_model.specs.declared.event.ClientEvent.TheVariants as clients
use Rattle.spec_model.specs.declared.event.ServerEvent.{ServerEvent}
use Rattle.spec_model.specs.declared.event.ServerEvent.TheVariants as servers
use Rattle.spec_model.specs.declared.event.WorldEvent.{WorldEvent}
use Rattle.spec_model.specs.declared.event.WorldEvent.TheVariants.{Client, Server}
use Rattle.spec_model.specs.declared.tree.Spec.{Spec}
use Rattle.spec_model.specs.Run.{IsRun}
use Rattle.spec_model.specs.World.{client_sends, client_receipts, server_takes, server_sends, clients_of, server_of, IsPrefixOf, IsLegal}

-- The events end in a send on a connection on which the server has sent as many messages as the client received.
pub record EndsInReceived (exchange : List ClientEvent) (events : List ServerEvent) : Type 0 where
  pub before : List ServerEvent
  pub conn : ℕ
  pub message : List ℕ
  pub ends : events ≡ before ++ servers.Send conn message ∷ []
  pub received : length (server_sends conn events) ≡ length (client_receipts conn exchange)

-- Server events are short for an exchange where there are none, or they end in such a send.
abbrev pub IsShort : List ClientEvent → List ServerEvent → Type 0
IsShort exchange events = (events ≡ []) ⊎ EndsInReceived exchange events

-- A world is late where each block of server events stands directly before the receipt whose send ends the block. It is
-- read from its end: before a client event stands no server event, or a block that ends in the send which this receipt
-- receives, all earlier messages on its connection being received.
pub data IsLate : List WorldEvent → Type 0 where
  empty : IsLate []
  waits : (world : List WorldEvent) (event : ClientEvent) → IsLate world → IsLate (world ++ Client event ∷ [])
  moves : (world : List WorldEvent) (block : List ServerEvent) (conn : ℕ) (message : List ℕ) → IsLate world
      → length (server_sends conn (server_of world ++ block)) ≡ length (client_receipts conn (clients_of world))
      → IsLate ((world ++ map Server (block ++ servers.Send conn message ∷ [])) ++ Client (clients.Receives conn message) ∷ [])

-- The world is a legal order of the exchange and these server events.
pub record Arranges (world : List WorldEvent) (exchange : List ClientEvent) (events : List ServerEvent) : Type 0 where
  pub legal : IsLegal world
  pub clients : clients_of world ≡ exchange
  pub server : server_of world ≡ events

-- The world in which, before each event of an exchange, the server does as many of its events as these counts say, and the others behind
-- the last one.
abbrev pub laid_out : List ClientEvent → List ℕ → List ServerEvent → List WorldEvent
laid_out (event ∷ exchange) (count ∷ counts) events = map Server (take count events) ++ Client event ∷ laid_out exchange counts (drop count events)
laid_out exchange counts events = map Client exchange ++ map Server events

-- Counts lay server events out late, one before each event of the exchange and all of them together: the world is a legal order of the
-- exchange and the events, and in it the server moves as late as it can.
pub record LaysOutLate (exchange : List ClientEvent) (counts : List ℕ) (events : List ServerEvent) : Type 0 where
  pub one_each : length counts ≡ length exchange
  pub all : sum counts ≡ length events
  pub arranged : Arranges (laid_out exchange counts events) exchange events
  pub late : IsLate (laid_out exchange counts events)

-- A run explains an exchange where some legal order of both is a world.
pub record RunExplains (spec : Spec) (exchange : List ClientEvent) (events : List ServerEvent) : Type 0 where
  pub run : IsRun spec events
  pub world : List WorldEvent
  pub arranged : Arranges world exchange events

-- The server events are short for the exchange, and there is some legal order of both.
pub record IsKept (exchange : List ClientEvent) (events : List ServerEvent) : Type 0 where
  pub short : IsShort exchange events
  pub world : List WorldEvent
  pub arranged : Arranges world exchange events

-- Of a kept run: the server sent this message already, and it is the next that the client receives on the connection.
pub record IsPending (exchange : List ClientEvent) (events : List ServerEvent) (conn : ℕ) (message : List ℕ) : Type 0 where
  pub kept : IsKept exchange events
  pub next : slice_get (server_sends conn events) (length (client_receipts conn exchange)) ≡ Some message

-- The run begins with a kept run, of which all that was sent on the connection was received. From there the server goes on by a
-- block of events, in which it takes what the clients sent, up to its first send on the connection, of this message.
pub record MovesUpTo (exchange : List ClientEvent) (events : List ServerEvent) (conn : ℕ) (message : List ℕ) : Type 0 where
  pub before : List ServerEvent
  pub block : List ServerEvent
  pub kept : IsKept exchange before
  pub whole : events ≡ before ++ (block ++ servers.Send conn message ∷ [])
  pub all_received : length (server_sends conn before) ≡ length (client_receipts conn exchange)
  pub no_other_send : server_sends conn block ≡ []
  pub taken : (other : ℕ) → IsPrefixOf (server_takes other events) (client_sends other exchange)
