-- Legal worlds: their beginnings, and how they go on.
use Rattle.std.proofs.Common.{◌≡◌, ℕ, zero, suc, Bool, true, false, ◌||◌, ◌<◌, ◌≤◌, ◌⊎◌, inl, inr, List, [], ◌∷◌, ◌++◌, length, map, take, None, refl, sym, ap, ◌∙◌, subst, append_assoc, append-nil, arith, length-append, take_all, take_at}
use Rattle.std.proofs.lemmas.Bool.{cases_eq, cases_lt}
use Rattle.std.proofs.lemmas.List.{take-append-le}
use Rattle.std.proofs.lemmas.List.Elements.{filter_map-append}
use Rattle.std.proofs.lemmas.List.Folds.{list_any-append}
use Rattle.std.specs.List.{list_any}
use Rattle.spec_model.specs.declared.event.ClientEvent.{ClientEvent}
use Rattle.spec_model.specs.declared.event.ClientEvent.TheVariants as clients
use Rattle.spec_model.specs.declared.event.ServerEvent.{ServerEvent}
use Rattle.spec_model.specs.declared.event.ServerEvent.TheVariants as servers
use Rattle.spec_model.specs.declared.event.WorldEvent.{WorldEvent}
use Rattle.spec_model.specs.declared.event.WorldEvent.TheVariants.{Client, Server}
use Rattle.spec_model.specs.World.{clients_of, server_of, client_sends, client_receipts, server_takes, server_sends, sent_by_client, taken_by_server, sent_by_server, is_garbled, IsPrefixOf, InOrder, IsLegal}
use Rattle.spec_model.proofs.PassedMessages.{filter_map-push_none, client_receipts-push_same, client_receipts-push_other, client_receipts-push_send, client_sends-push_receipt, server_takes-push_same, server_takes-push_other}
use Rattle.spec_model.proofs.Prefix.{IsPrefixOf-nil, IsPrefixOf-trans, IsPrefixOf-longer, IsPrefixOf-filter_map}
use Rattle.spec_model.proofs.WorldEvents.{clients_of-append, server_of-append, clients_of-push_client, server_of-push_client, clients_of-push_server, server_of-push_server, begins_with_take}

-- the order on a connection, from the events of the clients and of the server
in_order_from : (conn : ℕ) (world : List WorldEvent) (exchange : List ClientEvent) (events : List ServerEvent)
    → clients_of world ≡ exchange → server_of world ≡ events
    → IsPrefixOf (server_takes conn events) (client_sends conn exchange)
    → IsPrefixOf (client_receipts conn exchange) (server_sends conn events)
    → InOrder conn world
in_order_from conn world exchange events clients_are server_is up down =
    record { up = rw (clients_are, server_is) up; down = rw (clients_are, server_is) down }

-- a legal world is in order as a whole
pub IsLegal-in_order : {world : List WorldEvent} → IsLegal world → (conn : ℕ) → InOrder conn world
IsLegal-in_order {world} legal conn =
    subst (λ front. InOrder conn front) (take_all (length world) world (omega arith)) (legal.in_order (length world) conn)

-- of two tests of which none passed, each failed
neither : (a b : Bool) → (a || b) ≡ false → (a ≡ false) × (b ≡ false)
neither true b e = absurd (cc)
neither false b e = (refl, e)

-- A prefix of a legal world is legal.
pub IsLegal-prefix : (front back : List WorldEvent) → IsLegal (front ++ back) → IsLegal front
IsLegal-prefix front back legal = record { in_order = λ count conn. by_length count conn (cases_lt count (length front)); none_garbled = none_garbled }
  where
    front_in_order : (conn : ℕ) → InOrder conn front
    front_in_order conn = subst (λ world. InOrder conn world) (take_at front back (length front) refl) (legal.in_order (length front) conn)

    by_length : (count conn : ℕ) → (count < length front) ⊎ (length front ≤ count) → InOrder conn (take count front)
    by_length count conn (inl within) = rw (← take-append-le count front back (omega arith)) (legal.in_order count conn)
    by_length count conn (inr past) = rw (take_all count front past) (front_in_order conn)

    none_garbled : list_any is_garbled (clients_of front) ≡ false
    none_garbled = (neither _ _ (rw (clients_of-append front back, list_any-append is_garbled (clients_of front) (clients_of back)) at legal.none_garbled)).0

pub IsLegal-nil : IsLegal []
IsLegal-nil = record { in_order = in_order; none_garbled = refl }
  where
    in_order : (count conn : ℕ) → InOrder conn (take count [])
    in_order zero conn = record { up = IsPrefixOf-nil []; down = IsPrefixOf-nil [] }
    in_order (suc count) conn = record { up = IsPrefixOf-nil []; down = IsPrefixOf-nil [] }

-- A legal world goes on by an event that is not garbled where the longer world is in order.
pub IsLegal-event : {world : List WorldEvent} (event : WorldEvent) → IsLegal world → ((conn : ℕ) → InOrder conn (world ++ event ∷ []))
    → list_any is_garbled (clients_of (event ∷ [])) ≡ false → IsLegal (world ++ event ∷ [])
IsLegal-event {world} event legal in_order clear = record { in_order = λ count conn. by_length count conn (cases_lt (length world) count); none_garbled = none_garbled }
  where
    by_length : (count conn : ℕ) → (length world < count) ⊎ (count ≤ length world) → InOrder conn (take count (world ++ event ∷ []))
    by_length count conn (inl past) = rw (take_all count (world ++ event ∷ []) (omega (arith, length-append world (event ∷ [])))) (in_order conn)
    by_length count conn (inr within) = rw (take-append-le count world (event ∷ []) within) (legal.in_order count conn)

    none_garbled : list_any is_garbled (clients_of (world ++ event ∷ [])) ≡ false
    none_garbled = rw (clients_of-append world (event ∷ []), list_any-append is_garbled (clients_of world) (clients_of (event ∷ [])), legal.none_garbled) clear

-- A client may send whenever it will.
pub IsLegal-client_send : {world : List WorldEvent} (conn : ℕ) (message : List ℕ) → IsLegal world → IsLegal (world ++ Client (clients.Sends conn message) ∷ [])
IsLegal-client_send {world} conn message legal = IsLegal-event (Client event) legal in_order refl
  where
    event : ClientEvent
    event = clients.Sends conn message

    in_order : (other : ℕ) → InOrder other (world ++ Client event ∷ [])
    in_order other =
        let known = IsLegal-in_order legal other in
        let up : IsPrefixOf (server_takes other (server_of world)) (client_sends other (clients_of world ++ event ∷ []))
        = rw (filter_map-append (sent_by_client other) (clients_of world) (event ∷ [])) (IsPrefixOf-longer _ _ _ known.up) in
        let down : IsPrefixOf (client_receipts other (clients_of world ++ event ∷ [])) (server_sends other (server_of world))
        = rw (client_receipts-push_send other conn (clients_of world) message) known.down in
        in_order_from other _ _ _ (clients_of-push_client world event) (server_of-push_client world event) up down

-- A client may receive the next message that the server sent on the connection.
pub IsLegal-receipt : {world : List WorldEvent} (conn : ℕ) (message : List ℕ) → IsLegal world
    → IsPrefixOf (client_receipts conn (clients_of world) ++ message ∷ []) (server_sends conn (server_of world))
    → IsLegal (world ++ Client (clients.Receives conn message) ∷ [])
IsLegal-receipt {world} conn message legal next = IsLegal-event (Client event) legal in_order refl
  where
    event : ClientEvent
    event = clients.Receives conn message

    down : (other : ℕ) → (conn ≡ other) ⊎ (conn ≡ other → ⊥)
        → IsPrefixOf (client_receipts other (clients_of world ++ event ∷ [])) (server_sends other (server_of world))
    down other (inl same) = rw (← same, client_receipts-push_same conn (clients_of world) message) next
    down other (inr apart) = rw (client_receipts-push_other other conn (clients_of world) message apart) (IsLegal-in_order legal other).down

    in_order : (other : ℕ) → InOrder other (world ++ Client event ∷ [])
    in_order other =
        let up : IsPrefixOf (server_takes other (server_of world)) (client_sends other (clients_of world ++ event ∷ []))
        = rw (client_sends-push_receipt other conn (clients_of world) message) (IsLegal-in_order legal other).up in
        in_order_from other _ _ _ (clients_of-push_client world event) (server_of-push_client world event) up (down other (cases_eq conn other))

-- The server may do what it will where it takes the next message that a client sent.
pub IsLegal-server_event : {world : List WorldEvent} (event : ServerEvent) → IsLegal world
    → ((conn : ℕ) → IsPrefixOf (server_takes conn (server_of world ++ event ∷ [])) (client_sends conn (clients_of world)))
    → IsLegal (world ++ Server event ∷ [])
IsLegal-server_event {world} event legal taken = IsLegal-event (Server event) legal in_order refl
  where
    in_order : (conn : ℕ) → InOrder conn (world ++ Server event ∷ [])
    in_order conn =
        let down : IsPrefixOf (client_receipts conn (clients_of world)) (server_sends conn (server_of world ++ event ∷ []))
        = rw (filter_map-append (sent_by_server conn) (server_of world) (event ∷ [])) (IsPrefixOf-longer _ _ _ (IsLegal-in_order legal conn).down) in
        in_order_from conn _ _ _ (clients_of-push_server world event) (server_of-push_server world event) (taken conn) down

pub IsLegal-take : {world : List WorldEvent} (conn : ℕ) (message : List ℕ) → IsLegal world
    → IsPrefixOf (server_takes conn (server_of world) ++ message ∷ []) (client_sends conn (clients_of world))
    → IsLegal (world ++ Server (servers.Take conn message) ∷ [])
IsLegal-take {world} conn message legal next = IsLegal-server_event event legal (λ other. taken other (cases_eq conn other))
  where
    event : ServerEvent
    event = servers.Take conn message

    taken : (other : ℕ) → (conn ≡ other) ⊎ (conn ≡ other → ⊥)
        → IsPrefixOf (server_takes other (server_of world ++ event ∷ [])) (client_sends other (clients_of world))
    taken other (inl same) = rw (← same, server_takes-push_same conn (server_of world) message) next
    taken other (inr apart) = rw (server_takes-push_other other conn (server_of world) message apart) (IsLegal-in_order legal other).up

-- What takes no message the server may do whenever it will.
pub IsLegal-no_take : {world : List WorldEvent} (event : ServerEvent) → IsLegal world → ((conn : ℕ) → taken_by_server conn event ≡ None)
    → IsLegal (world ++ Server event ∷ [])
IsLegal-no_take {world} event legal none_taken =
    IsLegal-server_event event legal (λ conn. rw (filter_map-push_none (taken_by_server conn) (server_of world) event (none_taken conn)) (IsLegal-in_order legal conn).up)

pub IsLegal-server_send : {world : List WorldEvent} (conn : ℕ) (message : List ℕ) → IsLegal world → IsLegal (world ++ Server (servers.Send conn message) ∷ [])
IsLegal-server_send conn message legal = IsLegal-no_take (servers.Send conn message) legal (λ other. refl)

pub IsLegal-pick : {world : List WorldEvent} (text : List ℕ) → IsLegal world → IsLegal (world ++ Server (servers.Pick text) ∷ [])
IsLegal-pick text legal = IsLegal-no_take (servers.Pick text) legal (λ other. refl)

pub IsLegal-arm : {world : List WorldEvent} (arm : ℕ) → IsLegal world → IsLegal (world ++ Server (servers.Arm arm) ∷ [])
IsLegal-arm arm legal = IsLegal-no_take (servers.Arm arm) legal (λ other. refl)

pub IsLegal-test : {world : List WorldEvent} (outcome : Bool) → IsLegal world → IsLegal (world ++ Server (servers.Test outcome) ∷ [])
IsLegal-test outcome legal = IsLegal-no_take (servers.Test outcome) legal (λ other. refl)

-- A block of server events may follow where all that is taken was sent.
pub IsLegal-block : {world : List WorldEvent} (block : List ServerEvent) → IsLegal world
    → ((conn : ℕ) → IsPrefixOf (server_takes conn (server_of world ++ block)) (client_sends conn (clients_of world)))
    → IsLegal (world ++ map Server block)
IsLegal-block {world} [] legal taken = rw (append-nil world) legal
IsLegal-block {world} (event ∷ block) legal taken =
    let regrouped : (server_of world ++ event ∷ []) ++ block ≡ server_of world ++ event ∷ block = append_assoc (server_of world) (event ∷ []) block in
    let first_taken : (conn : ℕ) → IsPrefixOf (server_takes conn (server_of world ++ event ∷ [])) (client_sends conn (clients_of world))
    = λ conn. IsPrefixOf-trans _ _ _ (IsPrefixOf-filter_map (taken_by_server conn) _ _ (block, sym regrouped)) (taken conn) in
    let first_legal : IsLegal (world ++ Server event ∷ []) = IsLegal-server_event event legal first_taken in
    rw (← append_assoc world (Server event ∷ []) (map Server block))
    (IsLegal-block block first_legal (λ conn. rw (server_of-push_server world event, clients_of-push_server world event, regrouped) (taken conn)))

-- Nothing garbled comes in a legal world.
pub garbles_not_legal : (exchange : List ClientEvent) (conn : ℕ) → list_any is_garbled (exchange ++ clients.Garbles conn ∷ []) ≡ false → ⊥
garbles_not_legal exchange conn none_garbled =
    absurd (let garbled = (neither (list_any is_garbled exchange) true (rw (list_any-append is_garbled exchange (clients.Garbles conn ∷ [])) at none_garbled)).1 in cc)

pub IsLegal-not_garbled : (world : List WorldEvent) (conn : ℕ) → IsLegal (world ++ Client (clients.Garbles conn) ∷ []) → ⊥
IsLegal-not_garbled world conn legal = garbles_not_legal (clients_of world) conn (rw (clients_of-push_client world (clients.Garbles conn)) at legal.none_garbled)

-- What a client receives in a legal world is the next message that the server sent on the connection.
pub received_is_next : (world : List WorldEvent) (conn : ℕ) (message : List ℕ) → IsLegal (world ++ Client (clients.Receives conn message) ∷ [])
    → IsPrefixOf (client_receipts conn (clients_of world) ++ message ∷ []) (server_sends conn (server_of world))
received_is_next world conn message legal =
    let receipt = clients.Receives conn message in
    rw (clients_of-push_client world receipt, server_of-push_client world receipt, client_receipts-push_same conn (clients_of world) message)
    at (IsLegal-in_order legal conn).down

-- A legal world with which another begins, and in which these events of the clients stand.
pub record LegalBeginning (world : List WorldEvent) (exchange : List ClientEvent) : Type 0 where
  pub front : List WorldEvent
  pub legal : IsLegal front
  pub clients : clients_of front ≡ exchange
  pub begins : IsPrefixOf (server_of front) (server_of world)

-- For each number a legal world begins with a legal one in which just so many of the clients' events stand.
pub legal_beginning : (count : ℕ) (world : List WorldEvent) → IsLegal world → LegalBeginning world (take count (clients_of world))
legal_beginning count world legal =
    let begun = begins_with_take count world in
    record {
      front = begun.front;
      legal = IsLegal-prefix begun.front begun.back (rw begun.whole at legal);
      clients = begun.clients;
      begins = (server_of begun.back, ap server_of begun.whole ∙ server_of-append begun.front begun.back);
    }
