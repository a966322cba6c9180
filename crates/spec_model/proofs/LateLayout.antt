-- Each legal world has a late layout.
use Rattle.std.proofs.Common.{append-nil, ◌≡◌, ℕ, ◌<◌, ◌≤◌, ◌⊎◌, inl, inr, List, [], ◌∷◌, ◌++◌, length, refl, sym, ap, ◌∙◌, append_assoc, arith, length-append}
use Rattle.std.proofs.lemmas.Bool.{cases_lt}
use Rattle.std.proofs.lemmas.List.{append_cancel_left}
use Rattle.std.proofs.lemmas.List.Elements.{filter_map-append}
use Rattle.spec_model.specs.declared.event.ClientEvent.{ClientEvent}
use Rattle.spec_model.specs.declared.event.ClientEvent.TheVariants as clients
use Rattle.spec_model.specs.declared.event.ServerEvent.{ServerEvent}
use Rattle.spec_model.specs.declared.event.ServerEvent.TheVariants as servers
use Rattle.spec_model.specs.declared.event.WorldEvent.{WorldEvent}
use Rattle.spec_model.specs.declared.event.WorldEvent.TheVariants.{Client, Server}
use Rattle.spec_model.specs.World.{clients_of, server_of, client_sends, client_receipts, server_takes, server_sends, taken_by_server, sent_by_server, IsPrefixOf, IsLegal}
use Rattle.spec_model.specs.Layout.{IsShort, IsLate, empty, waits, moves}
use Rattle.spec_model.proofs.Built.{Built, built, start, then}
use Rattle.spec_model.proofs.LegalWorlds.{IsLegal-nil, IsLegal-prefix, IsLegal-in_order, IsLegal-client_send, IsLegal-receipt, IsLegal-not_garbled, received_is_next}
use Rattle.spec_model.proofs.PassedMessages.{FirstGiven, first_given, send_from_sent, client_receipts-push_send}
use Rattle.spec_model.proofs.Prefix.{IsPrefixOf-nil, IsPrefixOf-longer, IsPrefixOf-trans, IsPrefixOf-compared, IsPrefixOf-filter_map, length-IsPrefixOf, same_from_IsPrefixOf}
use Rattle.spec_model.proofs.ShortRuns.{IsShort-same_receipts, IsShort-receipt, IsShort-move, IsLegal-moved, moved, clients_of-moved, server_of-moved}
use Rattle.spec_model.proofs.WorldEvents.{clients_of-push_client, server_of-push_client, clients_of-push_server, server_of-push_server}

-- A late layout of a world: the clients do what they did, and the server does the first of what it did, up to a short run.
pub record LateLayout (world : List WorldEvent) : Type 0 where
  pub layout : List WorldEvent
  pub legal : IsLegal layout
  pub late : IsLate layout
  pub clients : clients_of layout ≡ clients_of world
  pub begins : IsPrefixOf (server_of layout) (server_of world)
  pub short : IsShort (clients_of layout) (server_of layout)

-- After an event of the server the same layout serves.
late_and_server : {world : List WorldEvent} (known : LateLayout world) (event : ServerEvent) → LateLayout (world ++ Server event ∷ [])
late_and_server {world} known event = record {
  layout = known.layout;
  legal = known.legal;
  late = known.late;
  clients = known.clients ∙ sym (clients_of-push_server world event);
  begins = rw (server_of-push_server world event) (IsPrefixOf-longer _ _ _ known.begins);
  short = known.short;
}

-- An event of a client is waited for where the layout with it is legal and the run stays short.
late_and_client : {world : List WorldEvent} (known : LateLayout world) (event : ClientEvent) → IsLegal (known.layout ++ Client event ∷ [])
    → IsShort (clients_of known.layout ++ event ∷ []) (server_of known.layout) → LateLayout (world ++ Client event ∷ [])
late_and_client {world} known event legal short = record {
  layout = known.layout ++ Client event ∷ [];
  legal = legal;
  late = waits known.layout event known.late;
  clients = rw (clients_of-push_client known.layout event, clients_of-push_client world event, known.clients) refl;
  begins = rw (server_of-push_client known.layout event, server_of-push_client world event) known.begins;
  short = rw (clients_of-push_client known.layout event, server_of-push_client known.layout event) short;
}

late_and_client_send : {world : List WorldEvent} (known : LateLayout world) (conn : ℕ) (message : List ℕ)
    → LateLayout (world ++ Client (clients.Sends conn message) ∷ [])
late_and_client_send known conn message =
    late_and_client known (clients.Sends conn message) (IsLegal-client_send conn message known.legal)
    (IsShort-same_receipts _ (λ other. sym (client_receipts-push_send other conn (clients_of known.layout) message)) known.short)

-- What the world's server did behind the layout begins with a move on the connection, of this message.
record NextMove (world layout : List WorldEvent) (conn : ℕ) (message : List ℕ) : Type 0 where
  block : List ServerEvent
  after : List ServerEvent
  whole : server_of world ≡ (server_of layout ++ (block ++ servers.Send conn message ∷ [])) ++ after
  no_other_send : server_sends conn block ≡ []

regrouped : {A : Type 0} (before block : List A) (item : A) (after : List A) → before ++ (block ++ item ∷ after) ≡ (before ++ (block ++ item ∷ [])) ++ after
regrouped before block item after = rw (append_assoc before (block ++ item ∷ []) after, append_assoc block (item ∷ []) after) refl

next_from_first : (world layout : List WorldEvent) (conn : ℕ) (message : List ℕ) (rest : List ServerEvent) → server_of world ≡ server_of layout ++ rest
    → FirstGiven (sent_by_server conn) rest message → NextMove world layout conn message
next_from_first world layout conn message rest whole first = record {
  block = first.before;
  after = first.after;
  whole =
      whole ∙ ap (λ events. server_of layout ++ events) first.whole
      ∙ regrouped (server_of layout) first.before first.item first.after
      ∙ ap (λ send. (server_of layout ++ (first.before ++ send ∷ [])) ++ first.after) (send_from_sent conn first.item message first.given);
  no_other_send = first.none_before;
}

-- A world, a late layout of it, and a message that a client receives next in the world.
module _ {world : List WorldEvent} (known : LateLayout world) (conn : ℕ) (message : List ℕ)
    (legal : IsLegal (world ++ Client (clients.Receives conn message) ∷ [])) where
  abbrev sent : List (List ℕ)
  sent = server_sends conn (server_of known.layout)

  abbrev received : List (List ℕ)
  received = client_receipts conn (clients_of known.layout)

  -- the message is the next one that the world's server sent to the layout's clients
  next_in_world : IsPrefixOf (received ++ message ∷ []) (server_sends conn (server_of world))
  next_in_world = rw known.clients (received_is_next world conn message legal)

  -- The receipt is waited for where the layout's server sent the message already.
  late_and_pending : length received < length sent → LateLayout (world ++ Client (clients.Receives conn message) ∷ [])
  late_and_pending is_sent =
      let sent_in_world = IsPrefixOf-filter_map (sent_by_server conn) _ _ known.begins in
      let longer = length-append received (message ∷ []) in
      let next : IsPrefixOf (received ++ message ∷ []) sent = IsPrefixOf-compared _ _ _ next_in_world sent_in_world (omega (arith, longer)) in
      late_and_client known (clients.Receives conn message) (IsLegal-receipt conn message known.legal next) (IsShort-receipt conn message is_sent known.short)

  -- where all that the layout's server sent was received, what the world's server did next is a move
  next_move : length sent ≡ length received → NextMove world known.layout conn message
  next_move all_received =
      let same : received ≡ sent = same_from_IsPrefixOf _ _ (IsLegal-in_order known.legal conn).down (omega arith) in
      let (rest, whole) = known.begins in
      let (later, sent_is) = next_in_world in
      let sends_joined = filter_map-append (sent_by_server conn) (server_of known.layout) rest in
      let sent_behind : server_sends conn rest ≡ message ∷ later
      = append_cancel_left sent _ _ (
      sym sends_joined ∙ sym (ap (server_sends conn) whole) ∙ sent_is ∙ ap (λ front. (front ++ message ∷ []) ++ later) same ∙ append_assoc sent (message ∷ []) later
      ) in
      next_from_first world known.layout conn message rest whole (first_given (sent_by_server conn) rest message later sent_behind)

  -- Otherwise all was received, and the server moves up to the send of the message.
  late_and_move : length sent ≡ length received → LateLayout (world ++ Client (clients.Receives conn message) ∷ [])
  late_and_move all_received =
      let receipt = clients.Receives conn message in
      let next = next_move all_received in
      let sent_before : length (server_sends conn (server_of known.layout ++ next.block)) ≡ length received
      = rw (filter_map-append (sent_by_server conn) (server_of known.layout) next.block, next.no_other_send, append-nil) (omega arith) in
      let short = IsShort-move (clients_of known.layout) (server_of known.layout) next.block conn message all_received next.no_other_send in
      let world_taken = λ (other : ℕ). (IsLegal-in_order (IsLegal-prefix world (Client receipt ∷ []) legal) other).up in
      let taken : (other : ℕ) → IsPrefixOf (server_takes other (server_of known.layout ++ (next.block ++ servers.Send conn message ∷ []))) (client_sends other (clients_of known.layout))
      = λ other. rw known.clients (IsPrefixOf-trans _ _ _ (IsPrefixOf-filter_map (taken_by_server other) _ _ (next.after, next.whole)) (world_taken other)) in
      let clients_are = clients_of-moved known.layout next.block conn message in
      let server_is = server_of-moved known.layout next.block conn message in
      record {
        layout = moved known.layout next.block conn message;
        legal = IsLegal-moved next.block conn message known.legal all_received next.no_other_send taken;
        late = moves known.layout next.block conn message known.late sent_before;
        clients = rw (clients_are, clients_of-push_client world receipt, known.clients) refl;
        begins = (next.after, rw (server_is, server_of-push_client world receipt) next.whole);
        short = rw (clients_are, server_is) short;
      }

  late_and_receipt : (length received < length sent) ⊎ (length sent ≤ length received) → LateLayout (world ++ Client (clients.Receives conn message) ∷ [])
  late_and_receipt (inl is_sent) = late_and_pending is_sent
  late_and_receipt (inr unsent) = late_and_move (omega (arith, length-IsPrefixOf _ _ (IsLegal-in_order known.legal conn).down))

late_and : {world : List WorldEvent} (event : WorldEvent) → LateLayout world → IsLegal (world ++ event ∷ []) → LateLayout (world ++ event ∷ [])
late_and (Server event) known legal = late_and_server known event
late_and (Client (clients.Sends conn message)) known legal = late_and_client_send known conn message
late_and (Client (clients.Receives conn message)) known legal =
    late_and_receipt known conn message legal (cases_lt (length (client_receipts conn (clients_of known.layout))) (length (server_sends conn (server_of known.layout))))
late_and {world} (Client (clients.Garbles conn)) known legal = absurd (IsLegal-not_garbled world conn legal)

late_of : {world : List WorldEvent} → Built world → IsLegal world → LateLayout world
late_of start legal = record { layout = []; legal = IsLegal-nil; late = empty; clients = refl; begins = IsPrefixOf-nil []; short = inl refl }
late_of (then front event before) legal = late_and event (late_of before (IsLegal-prefix front (event ∷ []) legal)) legal

-- Each legal world has a late layout.
pub late_layout : (world : List WorldEvent) → IsLegal world → LateLayout world
late_layout world legal = late_of (built world) legal
