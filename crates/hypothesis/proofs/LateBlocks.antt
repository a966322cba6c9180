-- Counts that lay the events of a server out late, over one event more of the exchange.
use Rattle.std.proofs.Common.{◌≡◌, ℕ, ◌+◌, ◌≤◌, List, [], ◌∷◌, ◌++◌, length, map, take, drop, sum, refl, sym, ap, ◌∙◌, append_assoc, append-nil, arith, length-append, length-drop}
use Rattle.std.proofs.lemmas.List.{take-append-le, drop-append-le, take_all, drop_all, nil_from_length}
use Rattle.std.proofs.lemmas.List.Elements.{filter_map-append}
use Rattle.std.proofs.lemmas.List.Sums.{sum_by-cons, sum_by_push}
use Rattle.spec_model.specs.declared.event.ClientEvent.{ClientEvent}
use Rattle.spec_model.specs.declared.event.ClientEvent.TheVariants as clients
use Rattle.spec_model.specs.declared.event.ServerEvent.{ServerEvent}
use Rattle.spec_model.specs.declared.event.ServerEvent.TheVariants as servers
use Rattle.spec_model.specs.declared.event.WorldEvent.{WorldEvent}
use Rattle.spec_model.specs.declared.event.WorldEvent.TheVariants.{Client, Server}
use Rattle.spec_model.specs.Layout.{waits, moves, laid_out, LaysOutLate}
use Rattle.spec_model.specs.World.{clients_of, server_of, client_receipts, client_sends, server_sends, server_takes, sent_by_server, IsLegal, IsPrefixOf}
use Rattle.spec_model.proofs.LegalWorlds.{IsLegal-in_order}
use Rattle.spec_model.proofs.Prefix.{length-IsPrefixOf}
use Rattle.spec_model.proofs.ShortRuns.{IsLegal-moved, clients_of-moved, server_of-moved}
use Rattle.spec_model.proofs.WorldEvents.{clients_of-push_client, server_of-push_client}

-- With one event more, the events that are done before it stand directly before it.
laid_out-push : (exchange : List ClientEvent) (counts : List ℕ) (events : List ServerEvent) (event : ClientEvent) (block : List ServerEvent)
    → length counts ≡ length exchange → sum counts ≡ length events
    → laid_out (exchange ++ event ∷ []) (counts ++ length block ∷ []) (events ++ block) ≡ (laid_out exchange counts events ++ map Server block) ++ Client event ∷ []
laid_out-push [] [] events event block one_each all =
    let none : events ≡ [] = nil_from_length events (sym all) in
    rw none (rw (take_all (length block) block (omega arith), drop_all (length block) block (omega arith)) refl)
laid_out-push [] (count ∷ counts) events event block one_each all = absurd (omega (arith, one_each))
laid_out-push (first ∷ exchange) [] events event block one_each all = absurd (omega (arith, one_each))
laid_out-push (first ∷ exchange) (count ∷ counts) events event block one_each all =
    let whole : sum (count ∷ counts) ≡ count + sum counts = sum_by-cons (λ (number : ℕ). number) count counts in
    let within : count ≤ length events = omega (arith, all, whole) in
    let rest : sum counts ≡ length (drop count events) = omega (arith, all, whole, length-drop count events) in
    let later = laid_out-push exchange counts (drop count events) event block (omega (arith, one_each)) rest in
    rw (take-append-le count events block within, drop-append-le count events block within, later)
    (regrouped (map Server (take count events)) (Client first) (laid_out exchange counts (drop count events)) (map Server block) (Client event))
  where
    regrouped : (before : List WorldEvent) (one : WorldEvent) (after block : List WorldEvent) (last : WorldEvent)
        → before ++ one ∷ ((after ++ block) ++ last ∷ []) ≡ ((before ++ one ∷ after) ++ block) ++ last ∷ []
    regrouped before one after block last = rw (append_assoc before (one ∷ after) block, append_assoc before (one ∷ (after ++ block)) (last ∷ [])) refl

-- the counts with one more at the end
length-pushed : (exchange : List ClientEvent) (counts : List ℕ) (event : ClientEvent) (count : ℕ) → length counts ≡ length exchange
    → length (counts ++ count ∷ []) ≡ length (exchange ++ event ∷ [])
length-pushed exchange counts event count one_each = omega (arith, one_each, length-append counts (count ∷ []), length-append exchange (event ∷ []))

sum-pushed : (counts : List ℕ) (count : ℕ) → sum (counts ++ count ∷ []) ≡ sum counts + count
sum-pushed counts count = sum_by_push (λ (number : ℕ). number) counts count

-- Before an event for which nothing is done, the counts go on by 0.
pub lays_wait : {exchange : List ClientEvent} {counts : List ℕ} {events : List ServerEvent} (event : ClientEvent) → LaysOutLate exchange counts events
    → IsLegal (laid_out exchange counts events ++ Client event ∷ []) → LaysOutLate (exchange ++ event ∷ []) (counts ++ 0 ∷ []) events
lays_wait {exchange} {counts} {events} event known legal =
    let world = laid_out exchange counts events in
    let is : laid_out (exchange ++ event ∷ []) (counts ++ 0 ∷ []) events ≡ world ++ Client event ∷ []
    = ap (laid_out (exchange ++ event ∷ []) (counts ++ 0 ∷ [])) (sym (append-nil events))
    ∙ laid_out-push exchange counts events event [] known.one_each known.all ∙ ap (λ front. front ++ Client event ∷ []) (append-nil world) in
    record {
      one_each = length-pushed exchange counts event 0 known.one_each;
      all = omega (arith, sum-pushed counts 0, known.all);
      arranged = rw is (record {
        legal = legal;
        clients = clients_of-push_client world event ∙ ap (λ front. front ++ event ∷ []) known.arranged.clients;
        server = server_of-push_client world event ∙ known.arranged.server;
      });
      late = rw is (waits world event known.late);
    }

-- Before a receipt for which the server moves up to the send of the message, they go on by the number of events of the move.
pub lays_move : {exchange : List ClientEvent} {counts : List ℕ} {events : List ServerEvent} (block : List ServerEvent) (conn : ℕ) (message : List ℕ)
    → LaysOutLate exchange counts events → length (server_sends conn (events ++ block)) ≡ length (client_receipts conn exchange)
    → ((other : ℕ) → IsPrefixOf (server_takes other (events ++ (block ++ servers.Send conn message ∷ []))) (client_sends other exchange))
    → LaysOutLate (exchange ++ clients.Receives conn message ∷ []) (counts ++ length (block ++ servers.Send conn message ∷ []) ∷ []) (events ++ (block ++ servers.Send conn message ∷ []))
lays_move {exchange} {counts} {events} block conn message known sent taken =
    let world = laid_out exchange counts events in
    let move = block ++ servers.Send conn message ∷ [] in
    let event = clients.Receives conn message in
    let arranged = known.arranged in
    let clients_are : clients_of world ≡ exchange = arranged.clients in
    let server_is : server_of world ≡ events = arranged.server in
    let is : laid_out (exchange ++ event ∷ []) (counts ++ length move ∷ []) (events ++ move) ≡ (world ++ map Server move) ++ Client event ∷ []
    = laid_out-push exchange counts events event move known.one_each known.all in
    let received : length (client_receipts conn exchange) ≤ length (server_sends conn events)
    = length-IsPrefixOf _ _ (rw (clients_are, server_is) at (IsLegal-in_order arranged.legal conn).down) in
    let parts = ap length (filter_map-append (sent_by_server conn) events block) in
    let lengths = length-append (server_sends conn events) (server_sends conn block) in
    let no_other_send : server_sends conn block ≡ [] = nil_from_length _ (omega (arith, received, parts, lengths, sent)) in
    let all_received : length (server_sends conn (server_of world)) ≡ length (client_receipts conn (clients_of world))
    = rw (clients_are, server_is) (omega (arith, received, parts, lengths, sent)) in
    let all_taken : (other : ℕ) → IsPrefixOf (server_takes other (server_of world ++ move)) (client_sends other (clients_of world))
    = λ other. rw (clients_are, server_is) (taken other) in
    let before : length (server_sends conn (server_of world ++ block)) ≡ length (client_receipts conn (clients_of world))
    = rw (clients_are, server_is) sent in
    record {
      one_each = length-pushed exchange counts event (length move) known.one_each;
      all = omega (arith, sum-pushed counts (length move), known.all, length-append events move);
      arranged = rw is (record {
        legal = IsLegal-moved block conn message arranged.legal all_received no_other_send all_taken;
        clients = clients_of-moved world block conn message ∙ ap (λ front. front ++ event ∷ []) clients_are;
        server = server_of-moved world block conn message ∙ ap (λ front. front ++ move) server_is;
      });
      late = rw is (moves world block conn message known.late before);
    }
