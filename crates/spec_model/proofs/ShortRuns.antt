-- Short runs, and how the server moves up to a send.
use Rattle.std.proofs.Common.{◌≡◌, ℕ, ◌<◌, ◌⊎◌, inl, inr, List, [], ◌∷◌, ◌++◌, length, map, refl, sym, ap, ◌∙◌, append_assoc, arith, length-append}
use Rattle.std.proofs.lemmas.Bool.{cases_eq}
use Rattle.std.proofs.lemmas.List.Elements.{filter_map-append}
use Rattle.spec_model.specs.declared.event.ClientEvent.{ClientEvent}
use Rattle.spec_model.specs.declared.event.ClientEvent.TheVariants as clients
use Rattle.spec_model.specs.declared.event.ServerEvent.{ServerEvent}
use Rattle.spec_model.specs.declared.event.ServerEvent.TheVariants as servers
use Rattle.spec_model.specs.declared.event.WorldEvent.{WorldEvent}
use Rattle.spec_model.specs.declared.event.WorldEvent.TheVariants.{Client, Server}
use Rattle.spec_model.specs.World.{clients_of, server_of, client_sends, client_receipts, server_takes, server_sends, sent_by_server, IsPrefixOf, IsLegal}
use Rattle.spec_model.specs.Layout.{IsShort}
use Rattle.spec_model.proofs.LegalWorlds.{IsLegal-in_order, IsLegal-block, IsLegal-receipt}
use Rattle.spec_model.proofs.PassedMessages.{client_receipts-push_same, client_receipts-push_other, server_sends-push_same}
use Rattle.spec_model.proofs.Prefix.{same_from_IsPrefixOf, IsPrefixOf-self}
use Rattle.spec_model.proofs.WorldEvents.{clients_of-push_client, server_of-push_client, clients_of-block, server_of-block}

-- whether events are short hangs on the receipts alone
pub IsShort-same_receipts : {exchange : List ClientEvent} (other : List ClientEvent) {events : List ServerEvent}
    → ((conn : ℕ) → client_receipts conn exchange ≡ client_receipts conn other) → IsShort exchange events → IsShort other events
IsShort-same_receipts other same (inl none) = inl none
IsShort-same_receipts other same (inr ends) =
    inr (record { before = ends.before; conn = ends.conn; message = ends.message; ends = ends.ends; received = ends.received ∙ ap length (same ends.conn) })

-- Short events stay short where a message is received that was sent already.
pub IsShort-receipt : {exchange : List ClientEvent} {events : List ServerEvent} (conn : ℕ) (message : List ℕ)
    → length (client_receipts conn exchange) < length (server_sends conn events)
    → IsShort exchange events → IsShort (exchange ++ clients.Receives conn message ∷ []) events
IsShort-receipt conn message sent (inl none) =
    let none_sent = ap (λ run. length (server_sends conn run)) none in
    absurd (omega (arith, none_sent))
IsShort-receipt {exchange} {events} conn message sent (inr ends) = by_conn (cases_eq conn ends.conn)
  where
    by_conn : (conn ≡ ends.conn) ⊎ (conn ≡ ends.conn → ⊥) → IsShort (exchange ++ clients.Receives conn message ∷ []) events
    by_conn (inl same) =
        let all_received : length (server_sends conn events) ≡ length (client_receipts conn exchange) = rw same ends.received in
        absurd (omega arith)
    by_conn (inr apart) =
        let same_receipts = client_receipts-push_other ends.conn conn exchange message apart in
        inr (record { before = ends.before; conn = ends.conn; message = ends.message; ends = ends.ends; received = ends.received ∙ ap length (sym same_receipts) })

-- A move on a connection: a block of events with no send on it, and then a send on it.
pub server_sends-move : (conn : ℕ) (before block : List ServerEvent) (message : List ℕ) → server_sends conn block ≡ []
    → server_sends conn (before ++ (block ++ servers.Send conn message ∷ [])) ≡ server_sends conn before ++ message ∷ []
server_sends-move conn before block message no_other_send =
    filter_map-append (sent_by_server conn) before (block ++ servers.Send conn message ∷ [])
    ∙ rw (server_sends-push_same conn block message, no_other_send) refl

-- Where all was received before a move, the run with it is short once its message is received.
pub IsShort-move : (exchange : List ClientEvent) (before block : List ServerEvent) (conn : ℕ) (message : List ℕ)
    → length (server_sends conn before) ≡ length (client_receipts conn exchange) → server_sends conn block ≡ []
    → IsShort (exchange ++ clients.Receives conn message ∷ []) (before ++ (block ++ servers.Send conn message ∷ []))
IsShort-move exchange before block conn message all_received no_other_send =
    let sent = length-append (server_sends conn before) (message ∷ []) in
    let received = length-append (client_receipts conn exchange) (message ∷ []) in
    inr (record {
      before = before ++ block;
      conn = conn;
      message = message;
      ends = sym (append_assoc before block (servers.Send conn message ∷ []));
      received = rw (server_sends-move conn before block message no_other_send, client_receipts-push_same conn exchange message) (omega (arith, sent, received));
    })

-- the world with a move, and then the receipt of its message
abbrev pub moved : List WorldEvent → List ServerEvent → ℕ → List ℕ → List WorldEvent
moved world block conn message = (world ++ map Server (block ++ servers.Send conn message ∷ [])) ++ Client (clients.Receives conn message) ∷ []

pub clients_of-moved : (world : List WorldEvent) (block : List ServerEvent) (conn : ℕ) (message : List ℕ)
    → clients_of (moved world block conn message) ≡ clients_of world ++ clients.Receives conn message ∷ []
clients_of-moved world block conn message =
    let move = block ++ servers.Send conn message ∷ [] in
    clients_of-push_client (world ++ map Server move) (clients.Receives conn message) ∙ rw (clients_of-block world move) refl

pub server_of-moved : (world : List WorldEvent) (block : List ServerEvent) (conn : ℕ) (message : List ℕ)
    → server_of (moved world block conn message) ≡ server_of world ++ (block ++ servers.Send conn message ∷ [])
server_of-moved world block conn message =
    let move = block ++ servers.Send conn message ∷ [] in
    server_of-push_client (world ++ map Server move) (clients.Receives conn message) ∙ server_of-block world move

-- Where all was received before a move, and what is taken in it was sent, its message may be received.
pub IsLegal-moved : {world : List WorldEvent} (block : List ServerEvent) (conn : ℕ) (message : List ℕ) → IsLegal world
    → length (server_sends conn (server_of world)) ≡ length (client_receipts conn (clients_of world)) → server_sends conn block ≡ []
    → ((other : ℕ) → IsPrefixOf (server_takes other (server_of world ++ (block ++ servers.Send conn message ∷ []))) (client_sends other (clients_of world)))
    → IsLegal (moved world block conn message)
IsLegal-moved {world} block conn message legal all_received no_other_send taken =
    let move = block ++ servers.Send conn message ∷ [] in
    let received : client_receipts conn (clients_of world) ≡ server_sends conn (server_of world) = same_from_IsPrefixOf _ _ (IsLegal-in_order legal conn).down (omega arith) in
    let sent = server_sends-move conn (server_of world) block message no_other_send in
    IsLegal-receipt conn message (IsLegal-block move legal taken) (rw (clients_of-block world move, server_of-block world move, sent, received) (IsPrefixOf-self _))
