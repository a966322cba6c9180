-- Which short runs explain an exchange with one event more, as far as the network goes.
use Rattle.std.proofs.Common.{◌≡◌, ℕ, ◌≤◌, ◌⊎◌, ◌↔◌, inl, inr, ⊎_elim, List, [], ◌∷◌, ◌++◌, length, refl, sym, ap, ◌∙◌, append_assoc, append-nil, arith, length-append}
use Rattle.std.proofs.lemmas.Bool.{cases_eq}
use Rattle.std.proofs.lemmas.List.{same_from_push, nil_from_length}
use Rattle.std.proofs.lemmas.List.Elements.{filter_map-append}
use Rattle.std.proofs.lemmas.Option.{slice_get_within}
use Rattle.spec_model.specs.declared.event.ClientEvent.{ClientEvent}
use Rattle.spec_model.specs.declared.event.ClientEvent.TheVariants as clients
use Rattle.spec_model.specs.declared.event.ServerEvent.{ServerEvent}
use Rattle.spec_model.specs.declared.event.ServerEvent.TheVariants as servers
use Rattle.spec_model.specs.declared.event.WorldEvent.{WorldEvent}
use Rattle.spec_model.specs.declared.event.WorldEvent.TheVariants.{Client, Server}
use Rattle.spec_model.specs.World.{clients_of, server_of, client_sends, client_receipts, server_takes, server_sends, sent_by_server, IsPrefixOf, IsLegal}
use Rattle.spec_model.specs.Layout.{EndsInReceived, IsShort, Arranges, IsKept, IsPending, MovesUpTo}
use Rattle.spec_model.proofs.Built.{Built, built, start, then, push_not_nil}
use Rattle.spec_model.proofs.LateLayout.{LateLayout, late_layout}
use Rattle.spec_model.proofs.LegalWorlds.{IsLegal-nil, IsLegal-prefix, IsLegal-in_order, IsLegal-client_send, IsLegal-receipt, garbles_not_legal, received_is_next}
use Rattle.spec_model.proofs.PassedMessages.{client_receipts-push_send, client_receipts-push_same, client_receipts-push_other, server_sends-push_same, length-server_sends-push}
use Rattle.spec_model.proofs.Prefix.{length-IsPrefixOf, same_from_IsPrefixOf, item_after_prefix, prefix_and_item}
use Rattle.spec_model.proofs.ShortRuns.{IsShort-same_receipts, IsShort-receipt, IsShort-move, IsLegal-moved, moved, clients_of-moved, server_of-moved}
use Rattle.spec_model.proofs.WorldEvents.{clients_of-push_client, server_of-push_client, clients_of-push_server, server_of-push_server}

-- In a legal order of an exchange and a run, what is taken is what the clients sent first, and what they received is what the
-- server sent first.
pub Arranges-takes : {world : List WorldEvent} {exchange : List ClientEvent} {events : List ServerEvent} → Arranges world exchange events
    → (conn : ℕ) → IsPrefixOf (server_takes conn events) (client_sends conn exchange)
Arranges-takes arranged conn = rw (arranged.clients, arranged.server) at (IsLegal-in_order arranged.legal conn).up

pub Arranges-receipts : {world : List WorldEvent} {exchange : List ClientEvent} {events : List ServerEvent} → Arranges world exchange events
    → (conn : ℕ) → IsPrefixOf (client_receipts conn exchange) (server_sends conn events)
Arranges-receipts arranged conn = rw (arranged.clients, arranged.server) at (IsLegal-in_order arranged.legal conn).down

-- the order goes on by an event of a client where the longer world is legal
arranged_and_client : {world : List WorldEvent} {exchange : List ClientEvent} {events : List ServerEvent} (event : ClientEvent) → Arranges world exchange events
    → IsLegal (world ++ Client event ∷ []) → Arranges (world ++ Client event ∷ []) (exchange ++ event ∷ []) events
arranged_and_client {world} event arranged legal = record {
  legal = legal;
  clients = rw (clients_of-push_client world event, arranged.clients) refl;
  server = server_of-push_client world event ∙ arranged.server;
}

-- The first events of a run that a legal world orders, up to a run that is kept.
pub record KeptFront (exchange : List ClientEvent) (events : List ServerEvent) : Type 0 where
  pub front : List ServerEvent
  pub kept : IsKept exchange front
  pub begins : IsPrefixOf front events

pub kept_front : {world : List WorldEvent} {exchange : List ClientEvent} {events : List ServerEvent} → Arranges world exchange events
    → KeptFront exchange events
kept_front {world} {exchange} arranged =
    let late = late_layout world arranged.legal in
    let clients_are : clients_of late.layout ≡ exchange = late.clients ∙ arranged.clients in
    record {
      front = server_of late.layout;
      kept = record {
        short = rw clients_are at late.short;
        world = late.layout;
        arranged = record { legal = late.legal; clients = clients_are; server = refl };
      };
      begins = rw arranged.server at late.begins;
    }

-- A legal world whose run is short does not end in an event of the server: the last send is received behind it.
short_ends_in_client_event : {world : List WorldEvent} (event : ServerEvent) → IsLegal world → IsShort (clients_of world) (server_of world ++ event ∷ []) → ⊥
short_ends_in_client_event {world} event legal (inl none) = push_not_nil (server_of world) event none
short_ends_in_client_event {world} event legal (inr ends) =
    let is_send : event ≡ servers.Send ends.conn ends.message = (same_from_push (server_of world) ends.before event _ ends.ends).1 in
    let sent = ap (λ send. length (server_sends ends.conn (server_of world ++ send ∷ []))) is_send ∙ length-server_sends-push ends.conn (server_of world) ends.message in
    let received = length-IsPrefixOf _ _ (IsLegal-in_order legal ends.conn).down in
    omega (arith, ends.received, sent, received)

-- The legal world before the last event of the exchange, in which the server does the same.
record KeptBefore (exchange : List ClientEvent) (event : ClientEvent) (events : List ServerEvent) : Type 0 where
  world : List WorldEvent
  arranged : Arranges world exchange events
  goes_on : IsLegal (world ++ Client event ∷ [])

before_last : (exchange : List ClientEvent) (event : ClientEvent) (events : List ServerEvent) → IsShort (exchange ++ event ∷ []) events
    → (world : List WorldEvent) → Built world → Arranges world (exchange ++ event ∷ []) events → KeptBefore exchange event events
before_last exchange event events short world start arranged = absurd (push_not_nil exchange event (sym arranged.clients))
before_last exchange event events short world (then front (Client last) before) arranged =
    let (clients_are, same) = same_from_push (clients_of front) exchange last event (sym (clients_of-push_client front last) ∙ arranged.clients) in
    record {
      world = front;
      arranged = record {
        legal = IsLegal-prefix front _ arranged.legal;
        clients = clients_are;
        server = sym (server_of-push_client front last) ∙ arranged.server;
      };
      goes_on = rw same at arranged.legal;
    }
before_last exchange event events short world (then front (Server last) before) arranged =
    let clients_are : exchange ++ event ∷ [] ≡ clients_of front = sym arranged.clients ∙ clients_of-push_server front last in
    let server_is : events ≡ server_of front ++ last ∷ [] = sym arranged.server ∙ server_of-push_server front last in
    absurd (short_ends_in_client_event last (IsLegal-prefix front _ arranged.legal) (rw (clients_are, server_is) at short))

kept_before : {exchange : List ClientEvent} {event : ClientEvent} {events : List ServerEvent} → IsKept (exchange ++ event ∷ []) events
    → KeptBefore exchange event events
kept_before kept = before_last _ _ _ kept.short kept.world (built kept.world) kept.arranged

-- Where nothing happened the run is kept in which nothing happened, and no other.
pub kept_of_nothing : (events : List ServerEvent) → IsKept [] events ↔ (events ≡ [])
kept_of_nothing events = (λ kept. nothing kept.short, λ none. record { short = inl none; world = []; arranged = empty_world none })
  where
    empty_world : events ≡ [] → Arranges [] [] events
    empty_world none = record { legal = IsLegal-nil; clients = refl; server = sym none }

    nothing : IsShort [] events → events ≡ []
    nothing (inl none) = none
    nothing (inr ends) =
        let sent = ap (λ run. length (server_sends ends.conn run)) ends.ends ∙ length-server_sends-push ends.conn ends.before ends.message in
        absurd (omega (arith, ends.received, sent))

-- After a send of a client the same runs are kept.
pub kept_after_send : (exchange : List ClientEvent) (conn : ℕ) (message : List ℕ) (events : List ServerEvent)
    → IsKept (exchange ++ clients.Sends conn message ∷ []) events ↔ IsKept exchange events
kept_after_send exchange conn message events = (to, from)
  where
    to : IsKept (exchange ++ clients.Sends conn message ∷ []) events → IsKept exchange events
    to kept =
        let before : KeptBefore exchange (clients.Sends conn message) events = kept_before kept in
        let short = IsShort-same_receipts exchange (λ other. client_receipts-push_send other conn exchange message) kept.short in
        record { short = short; world = before.world; arranged = before.arranged }

    from : IsKept exchange events → IsKept (exchange ++ clients.Sends conn message ∷ []) events
    from kept = record {
      short = IsShort-same_receipts _ (λ other. sym (client_receipts-push_send other conn exchange message)) kept.short;
      world = kept.world ++ Client (clients.Sends conn message) ∷ [];
      arranged = arranged_and_client _ kept.arranged (IsLegal-client_send conn message kept.arranged.legal);
    }

-- After garbled bytes none is kept.
pub none_kept_after_garbles : (exchange : List ClientEvent) (conn : ℕ) (events : List ServerEvent) → ¬ IsKept (exchange ++ clients.Garbles conn ∷ []) events
none_kept_after_garbles exchange conn events kept = garbles_not_legal exchange conn (rw kept.arranged.clients at kept.arranged.legal.none_garbled)

-- A run in which the message is pending is kept after its receipt.
pub pending_is_kept : (exchange : List ClientEvent) (conn : ℕ) (message : List ℕ) (events : List ServerEvent)
    → IsPending exchange events conn message → IsKept (exchange ++ clients.Receives conn message ∷ []) events
pending_is_kept exchange conn message events pending =
    let arranged = pending.kept.arranged in
    let next = prefix_and_item _ _ message (Arranges-receipts arranged conn) pending.next in
    let legal = IsLegal-receipt conn message arranged.legal (rw (arranged.clients, arranged.server) next) in
    record {
      short = IsShort-receipt conn message (slice_get_within _ _ message pending.next) pending.kept.short;
      world = pending.kept.world ++ Client (clients.Receives conn message) ∷ [];
      arranged = arranged_and_client _ arranged legal;
    }

-- A run that moves up to the send of a message is kept after its receipt.
pub move_is_kept : (exchange : List ClientEvent) (conn : ℕ) (message : List ℕ) (events : List ServerEvent)
    → MovesUpTo exchange events conn message → IsKept (exchange ++ clients.Receives conn message ∷ []) events
move_is_kept exchange conn message events moves =
    let world = moves.kept.world in
    let known = moves.kept.arranged in
    let all_received : length (server_sends conn (server_of world)) ≡ length (client_receipts conn (clients_of world))
    = rw (known.server, known.clients) moves.all_received in
    let taken : (other : ℕ) → IsPrefixOf (server_takes other (server_of world ++ (moves.block ++ servers.Send conn message ∷ []))) (client_sends other (clients_of world))
    = λ other. rw (known.server, known.clients, ← moves.whole) (moves.taken other) in
    record {
      short = rw moves.whole (IsShort-move exchange moves.before moves.block conn message moves.all_received moves.no_other_send);
      world = moved world moves.block conn message;
      arranged = record {
        legal = IsLegal-moved moves.block conn message known.legal all_received moves.no_other_send taken;
        clients = rw (clients_of-moved world moves.block conn message, known.clients) refl;
        server = rw (server_of-moved world moves.block conn message, known.server) (sym moves.whole);
      };
    }

-- A run is not short that ends in a send behind all that was received on the connection.
unreceived_not_short : (exchange : List ClientEvent) (run : List ServerEvent) (conn : ℕ) (message : List ℕ)
    → client_receipts conn exchange ≡ server_sends conn run
    → IsShort exchange (run ++ servers.Send conn message ∷ []) → ⊥
unreceived_not_short exchange run conn message all_received (inl none) = push_not_nil run (servers.Send conn message) none
unreceived_not_short exchange run conn message all_received (inr ends) =
    let send = servers.Send conn message in
    let last : send ≡ servers.Send ends.conn ends.message = (same_from_push run ends.before send _ ends.ends).1 in
    let same_conn : conn ≡ ends.conn = cc in
    let received : length (server_sends conn (run ++ send ∷ [])) ≡ length (client_receipts conn exchange) = rw (← same_conn) at ends.received in
    omega (arith, received, length-server_sends-push conn run message, ap length all_received)

-- A run that ends in a send behind all that was received on the connection moved up to the send, from the run of a late layout.
module _ {exchange : List ClientEvent} {events : List ServerEvent} {world : List WorldEvent} (arranged : Arranges world exchange events)
    (run : List ServerEvent) (conn : ℕ) (message : List ℕ) (ends : events ≡ run ++ servers.Send conn message ∷ [])
    (all_received : client_receipts conn exchange ≡ server_sends conn run) where
  moves_behind : (known : LateLayout world) (rest : List ServerEvent) → Built rest → events ≡ server_of known.layout ++ rest
      → MovesUpTo exchange events conn message
  moves_behind known rest start whole =
      let layout_is : server_of known.layout ≡ run ++ servers.Send conn message ∷ [] = sym (append-nil _) ∙ sym whole ∙ ends in
      absurd (unreceived_not_short exchange run conn message all_received (rw (known.clients ∙ arranged.clients, layout_is) at known.short))
  moves_behind known rest (then block last before) whole =
      let front = server_of known.layout in
      let clients_are : clients_of known.layout ≡ exchange = known.clients ∙ arranged.clients in
      let (run_is, last_is) = same_from_push (front ++ block) run last _ (append_assoc front block (last ∷ []) ∙ sym whole ∙ ends) in
      let sent : server_sends conn front ++ server_sends conn block ≡ client_receipts conn exchange
      = sym (filter_map-append (sent_by_server conn) front block) ∙ ap (server_sends conn) run_is ∙ sym all_received in
      let lengths = sym (length-append (server_sends conn front) (server_sends conn block)) ∙ ap length sent in
      let received : length (client_receipts conn exchange) ≤ length (server_sends conn front)
      = length-IsPrefixOf _ _ (rw clients_are at (IsLegal-in_order known.legal conn).down) in
      record {
        before = front;
        block = block;
        kept = record {
          short = rw clients_are at known.short;
          world = known.layout;
          arranged = record { legal = known.legal; clients = clients_are; server = refl };
        };
        whole = whole ∙ ap (λ send. front ++ (block ++ send ∷ [])) last_is;
        all_received = omega (arith, lengths, received);
        no_other_send = nil_from_length _ (omega (arith, lengths, received));
        taken = Arranges-takes arranged;
      }

  moves_up : MovesUpTo exchange events conn message
  moves_up =
      let late = late_layout world arranged.legal in
      let (rest, whole) = late.begins in
      moves_behind late rest (built rest) (sym arranged.server ∙ whole)

-- In a run that is kept after a receipt the message was pending, or the run moved up to the send.
pub pending_or_move : (exchange : List ClientEvent) (conn : ℕ) (message : List ℕ) (events : List ServerEvent)
    → IsKept (exchange ++ clients.Receives conn message ∷ []) events → IsPending exchange events conn message ⊎ MovesUpTo exchange events conn message
pending_or_move exchange conn message events kept = by_short kept.short
  where
    before : KeptBefore exchange (clients.Receives conn message) events
    before = kept_before kept

    next : IsPrefixOf (client_receipts conn exchange ++ message ∷ []) (server_sends conn events)
    next = rw (before.arranged.clients, before.arranged.server) at (received_is_next before.world conn message before.goes_on)

    by_conn : (ends : EndsInReceived (exchange ++ clients.Receives conn message ∷ []) events) → (conn ≡ ends.conn) ⊎ (conn ≡ ends.conn → ⊥)
        → IsPending exchange events conn message ⊎ MovesUpTo exchange events conn message
    by_conn ends (inl same) =
        let ends_here : events ≡ ends.before ++ servers.Send conn ends.message ∷ [] = rw (← same) at ends.ends in
        let received : length (server_sends conn events) ≡ length (client_receipts conn (exchange ++ clients.Receives conn message ∷ [])) = rw (← same) at ends.received in
        let lengths = ap length (client_receipts-push_same conn exchange message) in
        let all_sent : client_receipts conn exchange ++ message ∷ [] ≡ server_sends conn events = same_from_IsPrefixOf _ _ next (omega (arith, received, lengths)) in
        let sends_are = ap (server_sends conn) ends_here ∙ server_sends-push_same conn ends.before ends.message in
        let (all_received, same_message) = same_from_push (client_receipts conn exchange) (server_sends conn ends.before) message ends.message (all_sent ∙ sends_are) in
        inr (moves_up before.arranged ends.before conn message (rw same_message ends_here) all_received)
    by_conn ends (inr apart) =
        let same_receipts = client_receipts-push_other ends.conn conn exchange message apart in
        let short : IsShort exchange events
        = inr (record { before = ends.before; conn = ends.conn; message = ends.message; ends = ends.ends; received = ends.received ∙ ap length same_receipts }) in
        inl (record { kept = record { short = short; world = before.world; arranged = before.arranged }; next = item_after_prefix _ _ message next })

    by_short : IsShort (exchange ++ clients.Receives conn message ∷ []) events → IsPending exchange events conn message ⊎ MovesUpTo exchange events conn message
    by_short (inl none) =
        let none_sent = ap (λ run. length (server_sends conn run)) none in
        absurd (omega (arith, none_sent, length-IsPrefixOf _ _ next, length-append (client_receipts conn exchange) (message ∷ [])))
    by_short (inr ends) = by_conn ends (cases_eq conn ends.conn)

-- After a receipt the runs are kept in which the message was pending, and those that move up to its send.
pub kept_after_receipt : (exchange : List ClientEvent) (conn : ℕ) (message : List ℕ) (events : List ServerEvent)
    → IsKept (exchange ++ clients.Receives conn message ∷ []) events ↔ (IsPending exchange events conn message ⊎ MovesUpTo exchange events conn message)
kept_after_receipt exchange conn message events =
    (pending_or_move exchange conn message events, ⊎_elim (pending_is_kept exchange conn message events) (move_is_kept exchange conn message events))
