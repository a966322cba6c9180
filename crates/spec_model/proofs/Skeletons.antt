-- Skeletons and the runs that have them: what a skeleton counts; its front, and the exchange with an event less, are explained too.
use Rattle.std.proofs.Common.{◌≡◌, ℕ, ◌+◌, ◌≤◌, ◌↔◌, Bool, true, false, suc, List, [], ◌∷◌, ◌++◌, length, map, take, drop, filter, nat_eq, refl, sym, ap, ◌∙◌, subst, append_assoc, append-nil, arith, length-append}
use Rattle.std.proofs.lemmas.Bool.{eq-eqb}
use Rattle.std.proofs.lemmas.List.{same_from_push}
use Rattle.std.proofs.lemmas.List.Elements.{filter-append, filter_map-append}
use Rattle.spec_model.specs.declared.event.ClientEvent.{ClientEvent}
use Rattle.spec_model.specs.declared.event.ClientEvent.TheVariants as clients
use Rattle.spec_model.specs.declared.event.Mark.{Mark}
use Rattle.spec_model.specs.declared.event.Mark.TheVariants as marks
use Rattle.spec_model.specs.declared.event.ServerEvent.{ServerEvent}
use Rattle.spec_model.specs.declared.event.ServerEvent.TheVariants as servers
use Rattle.spec_model.specs.declared.event.WorldEvent.{WorldEvent}
use Rattle.spec_model.specs.declared.event.WorldEvent.TheVariants.{Client, Server}
use Rattle.spec_model.specs.declared.tree.Spec.{Spec}
use Rattle.spec_model.specs.Alike.{RunWith, SkeletonExplains}
use Rattle.spec_model.specs.Layout.{Arranges, RunExplains}
use Rattle.spec_model.specs.Skeleton.{is_send_on, mark_of, sends_in, skeleton_of}
use Rattle.spec_model.specs.World.{client_receipts, client_sends, clients_of, received_by_client, sent_by_client, sent_by_server, server_of, server_sends, server_takes, taken_by_server, IsLegal, IsPrefixOf}
use Rattle.spec_model.proofs.Built.{Built, built, start, then, push_not_nil}
use Rattle.spec_model.proofs.KeptRuns.{Arranges-receipts, Arranges-takes}
use Rattle.spec_model.proofs.LegalWorlds.{IsLegal-client_send, IsLegal-in_order, IsLegal-not_garbled, IsLegal-prefix, IsLegal-receipt, IsLegal-server_event, received_is_next}
use Rattle.spec_model.proofs.PassedMessages.{client_receipts-push_same, client_sends-push_receipt}
use Rattle.spec_model.proofs.Prefix.{IsPrefixOf-append, IsPrefixOf-compared, length-IsPrefixOf}
use Rattle.spec_model.proofs.RunSteps.{run_front}
use Rattle.spec_model.proofs.WorldEvents.{clients_of-push_client, clients_of-push_server, server_of-push_client, server_of-push_server}

-- A skeleton has as many sends on a connection as its run.
pub sends_counted : (conn : ℕ) (events : List ServerEvent) → sends_in conn (skeleton_of events) ≡ length (server_sends conn events)
sends_counted conn [] = refl
sends_counted conn (servers.Take other message ∷ events) = sends_counted conn events
sends_counted conn (servers.Arm arm ∷ events) = sends_counted conn events
sends_counted conn (servers.Test outcome ∷ events) = sends_counted conn events
sends_counted conn (servers.Pick text ∷ events) = sends_counted conn events
sends_counted conn (servers.Send other message ∷ events) = by_conn (nat_eq other conn) refl (sends_counted conn events)
  where
    by_conn : (same : Bool) → nat_eq other conn ≡ same → sends_in conn (skeleton_of events) ≡ length (server_sends conn events)
        → sends_in conn (skeleton_of (servers.Send other message ∷ events)) ≡ length (server_sends conn (servers.Send other message ∷ events))
    by_conn true is later = rw is (ap suc later)
    by_conn false is later = rw is later

pub sends_in-append : (conn : ℕ) (front back : List Mark) → sends_in conn (front ++ back) ≡ sends_in conn front + sends_in conn back
sends_in-append conn front back = ap length (filter-append (is_send_on conn) front back) ∙ length-append (filter (is_send_on conn) front) (filter (is_send_on conn) back)

pub sends_in-push_same : (conn : ℕ) (front : List Mark) → sends_in conn (front ++ marks.Send conn ∷ []) ≡ sends_in conn front + 1
sends_in-push_same conn front = sends_in-append conn front (marks.Send conn ∷ []) ∙ ap (λ count. sends_in conn front + count) one_send
  where
    one_send : sends_in conn (marks.Send conn ∷ []) ≡ 1
    one_send = rw (eq-eqb conn conn refl) refl

-- how many messages a skeleton takes from a connection
abbrev is_take_from : ℕ → Mark → Bool
is_take_from conn (marks.Take other) = nat_eq other conn
is_take_from conn _ = false

abbrev pub takes_in : ℕ → List Mark → ℕ
takes_in conn skeleton = length (filter (is_take_from conn) skeleton)

pub takes_counted : (conn : ℕ) (events : List ServerEvent) → takes_in conn (skeleton_of events) ≡ length (server_takes conn events)
takes_counted conn [] = refl
takes_counted conn (servers.Send other message ∷ events) = takes_counted conn events
takes_counted conn (servers.Arm arm ∷ events) = takes_counted conn events
takes_counted conn (servers.Test outcome ∷ events) = takes_counted conn events
takes_counted conn (servers.Pick text ∷ events) = takes_counted conn events
takes_counted conn (servers.Take other message ∷ events) = by_conn (nat_eq other conn) refl (takes_counted conn events)
  where
    by_conn : (same : Bool) → nat_eq other conn ≡ same → takes_in conn (skeleton_of events) ≡ length (server_takes conn events)
        → takes_in conn (skeleton_of (servers.Take other message ∷ events)) ≡ length (server_takes conn (servers.Take other message ∷ events))
    by_conn true is later = rw is (ap suc later)
    by_conn false is later = rw is later

-- as many messages were sent on each connection as were received
abbrev AreCovered : List ClientEvent → List ServerEvent → Type 0
AreCovered exchange events = (conn : ℕ) → length (client_receipts conn exchange) ≤ length (server_sends conn events)

-- each message taken was sent
abbrev AreSent : List ClientEvent → List ServerEvent → Type 0
AreSent exchange events = (conn : ℕ) → length (server_takes conn events) ≤ length (client_sends conn exchange)

fewer_receipts : (conn : ℕ) (exchange more : List ClientEvent) → length (client_receipts conn exchange) ≤ length (client_receipts conn (exchange ++ more))
fewer_receipts conn exchange more =
    let parts = ap length (filter_map-append (received_by_client conn) exchange more) in
    omega (arith, parts, length-append (client_receipts conn exchange) (client_receipts conn more))

fewer_sends : (conn : ℕ) (events more : List ServerEvent) → length (server_sends conn events) ≤ length (server_sends conn (events ++ more))
fewer_sends conn events more =
    let parts = ap length (filter_map-append (sent_by_server conn) events more) in
    omega (arith, parts, length-append (server_sends conn events) (server_sends conn more))

fewer_takes : (conn : ℕ) (events more : List ServerEvent) → length (server_takes conn events) ≤ length (server_takes conn (events ++ more))
fewer_takes conn events more =
    let parts = ap length (filter_map-append (taken_by_server conn) events more) in
    omega (arith, parts, length-append (server_takes conn events) (server_takes conn more))

-- some legal order of these client and server events
abbrev SomeOrder : List ClientEvent → List ServerEvent → Type 0
SomeOrder exchange events = (world : List WorldEvent) × Arranges world exchange events

-- An order goes on by what a client did in a longer one, where the messages received were sent.
order_and_client : (front : List WorldEvent) (event : ClientEvent) (events more : List ServerEvent) → IsLegal (front ++ Client event ∷ [])
    → server_of front ≡ events ++ more → AreCovered (clients_of front ++ event ∷ []) events → SomeOrder (clients_of front) events
    → SomeOrder (clients_of front ++ event ∷ []) events
order_and_client front event events more legal sent covered (world, arranged) = (
  world ++ Client event ∷ [],
  record {
    legal = longer event legal covered;
    clients = clients_of-push_client world event ∙ ap (λ exchange. exchange ++ event ∷ []) arranged.clients;
    server = server_of-push_client world event ∙ arranged.server;
  },
)
  where
    received : (conn : ℕ) (message : List ℕ) → IsLegal (front ++ Client (clients.Receives conn message) ∷ [])
        → AreCovered (clients_of front ++ clients.Receives conn message ∷ []) events
        → IsPrefixOf (client_receipts conn (clients_of front) ++ message ∷ []) (server_sends conn events)
    received conn message legal covered =
        let next = subst (λ events. IsPrefixOf (client_receipts conn (clients_of front) ++ message ∷ []) (server_sends conn events)) sent (received_is_next front conn message legal) in
        let whole = filter_map-append (sent_by_server conn) events more in
        let parts = subst (λ sends. IsPrefixOf (client_receipts conn (clients_of front) ++ message ∷ []) sends) whole next in
        let counted = ap length (client_receipts-push_same conn (clients_of front) message) in
        IsPrefixOf-compared _ _ _ parts (IsPrefixOf-append (server_sends conn events) (server_sends conn more)) (omega (arith, covered conn, counted))

    longer : (event : ClientEvent) → IsLegal (front ++ Client event ∷ []) → AreCovered (clients_of front ++ event ∷ []) events → IsLegal (world ++ Client event ∷ [])
    longer (clients.Sends conn message) legal covered = IsLegal-client_send conn message arranged.legal
    longer (clients.Receives conn message) legal covered =
        IsLegal-receipt conn message arranged.legal (rw (arranged.clients, arranged.server) (received conn message legal covered))
    longer (clients.Garbles conn) legal covered = absurd (IsLegal-not_garbled front conn legal)

-- An order without the last event of the server, where the messages received were sent before it.
without_last : (exchange : List ClientEvent) (events : List ServerEvent) (last : ServerEvent) {world : List WorldEvent} → Built world
    → Arranges world exchange (events ++ last ∷ []) → AreCovered exchange events → SomeOrder exchange events
without_last exchange events last start arranged covered = absurd (push_not_nil events last (sym arranged.server))
without_last exchange events last (then front (Server event) before) arranged covered =
    let (same, _) = same_from_push (server_of front) events event last (sym (server_of-push_server front event) ∙ arranged.server) in (
      front,
      record {
        legal = IsLegal-prefix front _ arranged.legal;
        clients = sym (clients_of-push_server front event) ∙ arranged.clients;
        server = same;
      },
    )
without_last exchange events last (then front (Client event) before) arranged covered =
    let whole : clients_of front ++ event ∷ [] ≡ exchange = sym (clients_of-push_client front event) ∙ arranged.clients in
    let sent : server_of front ≡ events ++ last ∷ [] = sym (server_of-push_client front event) ∙ arranged.server in
    let all_covered = subst (λ exchange. AreCovered exchange events) (sym whole) covered in
    let fewer : AreCovered (clients_of front) events = λ conn. omega (arith, all_covered conn, fewer_receipts conn (clients_of front) (event ∷ [])) in
    let earlier = without_last (clients_of front) events last before (record { legal = IsLegal-prefix front _ arranged.legal; clients = refl; server = sent }) fewer in
    subst (λ exchange. SomeOrder exchange events) whole (order_and_client front event events (last ∷ []) arranged.legal sent all_covered earlier)

order_of_front : (exchange : List ClientEvent) (events : List ServerEvent) {more : List ServerEvent} → Built more → SomeOrder exchange (events ++ more)
    → AreCovered exchange events → SomeOrder exchange events
order_of_front exchange events start order covered = subst (SomeOrder exchange) (append-nil events) order
order_of_front exchange events (then front last before) (world, arranged) covered =
    let longer = subst (Arranges world exchange) (sym (append_assoc events front (last ∷ []))) arranged in
    let still : AreCovered exchange (events ++ front) = λ conn. omega (arith, covered conn, fewer_sends conn events front) in
    order_of_front exchange events before (without_last exchange (events ++ front) last (built world) longer still) covered

-- The front of a run explains an exchange which the run explains, where it sends what was received.
pub explains_front : (spec : Spec) (exchange : List ClientEvent) (events more : List ServerEvent) → RunExplains spec exchange (events ++ more)
    → ((conn : ℕ) → length (client_receipts conn exchange) ≤ length (server_sends conn events)) → RunExplains spec exchange events
explains_front spec exchange events more explains covered =
    let order = order_of_front exchange events (built more) (explains.world, explains.arranged) covered in
    record { run = run_front spec events more explains.run; world = order.0; arranged = order.1 }

-- An order without the last event of the clients, where what is taken was sent before it.
without_last_client : (exchange : List ClientEvent) (event : ClientEvent) {world : List WorldEvent} → Built world → (events : List ServerEvent)
    → Arranges world (exchange ++ event ∷ []) events → AreSent exchange events → SomeOrder exchange events
without_last_client exchange event start events arranged sent = absurd (push_not_nil exchange event (sym arranged.clients))
without_last_client exchange event (then front (Client last) before) events arranged sent =
    let (same, _) = same_from_push (clients_of front) exchange last event (sym (clients_of-push_client front last) ∙ arranged.clients) in (
      front,
      record {
        legal = IsLegal-prefix front _ arranged.legal;
        clients = same;
        server = sym (server_of-push_client front last) ∙ arranged.server;
      },
    )
without_last_client exchange event (then front (Server last) before) events arranged sent =
    let whole : server_of front ++ last ∷ [] ≡ events = sym (server_of-push_server front last) ∙ arranged.server in
    let clients_are : clients_of front ≡ exchange ++ event ∷ [] = sym (clients_of-push_server front last) ∙ arranged.clients in
    let all_sent = subst (AreSent exchange) (sym whole) sent in
    let fewer : AreSent exchange (server_of front) = λ conn. omega (arith, all_sent conn, fewer_takes conn (server_of front) (last ∷ [])) in
    let (world, earlier) = without_last_client exchange event before (server_of front)
    (record { legal = IsLegal-prefix front _ arranged.legal; clients = clients_are; server = refl }) fewer in
    let taken : (conn : ℕ) → IsPrefixOf (server_takes conn (server_of front ++ last ∷ [])) (client_sends conn exchange)
    = λ conn. IsPrefixOf-compared _ _ _ (subst (λ events. IsPrefixOf (server_takes conn events) (client_sends conn (exchange ++ event ∷ []))) (sym whole) (Arranges-takes arranged conn))
    (subst (IsPrefixOf (client_sends conn exchange)) (sym (filter_map-append (sent_by_client conn) exchange (event ∷ []))) (IsPrefixOf-append (client_sends conn exchange) _)) (all_sent conn) in (
      world ++ Server last ∷ [],
      record {
        legal = IsLegal-server_event last earlier.legal (λ conn. rw (earlier.clients, earlier.server) (taken conn));
        clients = clients_of-push_server world last ∙ earlier.clients;
        server = server_of-push_server world last ∙ ap (λ events. events ++ last ∷ []) earlier.server ∙ whole;
      },
    )

-- A run that explains an exchange explains it without its last receipt, and without a last send whose message it does not take.
pub explained_before_receipt : (spec : Spec) (exchange : List ClientEvent) (conn : ℕ) (message : List ℕ) (events : List ServerEvent)
    → RunExplains spec (exchange ++ clients.Receives conn message ∷ []) events → RunExplains spec exchange events
explained_before_receipt spec exchange conn message events explains =
    let sent : AreSent exchange events = λ other. subst (λ sends. length (server_takes other events) ≤ length sends) (client_sends-push_receipt other conn exchange message)
    (length-IsPrefixOf _ _ (Arranges-takes explains.arranged other)) in
    let order = without_last_client exchange (clients.Receives conn message) (built explains.world) events explains.arranged sent in
    record { run = explains.run; world = order.0; arranged = order.1 }

pub explained_before_send : (spec : Spec) (exchange : List ClientEvent) (conn : ℕ) (message : List ℕ) (events : List ServerEvent)
    → RunExplains spec (exchange ++ clients.Sends conn message ∷ []) events → ((other : ℕ) → length (server_takes other events) ≤ length (client_sends other exchange))
    → RunExplains spec exchange events
explained_before_send spec exchange conn message events explains sent =
    let order = without_last_client exchange (clients.Sends conn message) (built explains.world) events explains.arranged sent in
    record { run = explains.run; world = order.0; arranged = order.1 }

-- A run of a skeleton that is joined of two, in its two parts.
pub record InParts (spec : Spec) (exchange : List ClientEvent) (skeleton more : List Mark) (events : List ServerEvent) : Type 0 where
  pub front : List ServerEvent
  pub back : List ServerEvent
  pub whole : events ≡ front ++ back
  pub run : RunWith spec exchange skeleton front
  pub rest : skeleton_of back ≡ more

-- a list of events whose skeleton is joined of two
skeleton_parts : (skeleton more : List Mark) (events : List ServerEvent) → skeleton_of events ≡ skeleton ++ more
    → (front back : List ServerEvent) × (events ≡ front ++ back) × (skeleton_of front ≡ skeleton) × (skeleton_of back ≡ more)
skeleton_parts [] more events is = ([], events, refl, refl, is)
skeleton_parts (mark ∷ skeleton) more [] is = absurd (cc)
skeleton_parts (mark ∷ skeleton) more (event ∷ events) is =
    let first : mark_of event ≡ mark = cc in
    let later : skeleton_of events ≡ skeleton ++ more = cc in
    let (front, back, whole, has, rest) = skeleton_parts skeleton more events later in
    (event ∷ front, back, ap (λ events. event ∷ events) whole, ap (λ mark. mark ∷ skeleton_of front) first ∙ ap (λ marks. mark ∷ marks) has, rest)

pub run_with_front : (spec : Spec) (exchange : List ClientEvent) (skeleton more : List Mark) (events : List ServerEvent)
    → RunWith spec exchange (skeleton ++ more) events → SkeletonExplains spec exchange skeleton → InParts spec exchange skeleton more events
run_with_front spec exchange skeleton more events run (others, other) =
    let (front, back, whole, has, rest) = skeleton_parts skeleton more events run.has in
    let explains = subst (RunExplains spec exchange) whole run.explains in
    let covered : AreCovered exchange front = λ conn.
    let received = length-IsPrefixOf _ _ (Arranges-receipts other.explains.arranged conn) in
    let same : sends_in conn (skeleton_of others) ≡ sends_in conn (skeleton_of front) = ap (sends_in conn) (other.has ∙ sym has) in
    omega (arith, received, sends_counted conn others, sends_counted conn front, same) in
    record { front = front; back = back; whole = whole; run = record { has = has; explains = explains_front spec exchange front back explains covered }; rest = rest }

-- Where a client sends, the runs with a skeleton that explains the exchange explain as much as before.
pub run_with_sends : (spec : Spec) (exchange : List ClientEvent) (conn : ℕ) (message : List ℕ) (skeleton : List Mark) (events : List ServerEvent)
    → SkeletonExplains spec exchange skeleton → RunWith spec (exchange ++ clients.Sends conn message ∷ []) skeleton events → RunWith spec exchange skeleton events
run_with_sends spec exchange conn message skeleton events (others, other) run =
    let sent : AreSent exchange events = λ conn.
    let taken = length-IsPrefixOf _ _ (Arranges-takes other.explains.arranged conn) in
    let same : takes_in conn (skeleton_of others) ≡ takes_in conn (skeleton_of events) = ap (takes_in conn) (other.has ∙ sym run.has) in
    omega (arith, taken, takes_counted conn others, takes_counted conn events, same) in
    record { has = run.has; explains = explained_before_send spec exchange conn message events run.explains sent }

pub run_before_receipt : (spec : Spec) (exchange : List ClientEvent) (conn : ℕ) (message : List ℕ) (skeleton : List Mark) (events : List ServerEvent)
    → RunWith spec (exchange ++ clients.Receives conn message ∷ []) skeleton events → RunWith spec exchange skeleton events
run_before_receipt spec exchange conn message skeleton events run =
    record { has = run.has; explains = explained_before_receipt spec exchange conn message events run.explains }
