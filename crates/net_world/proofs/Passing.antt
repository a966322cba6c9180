-- What passes on connections, as worlds go on.
use Rattle.std.proofs.Common.{◌≡◌, ◌⊎◌, ℕ, zero, suc, Bool, true, ◌+◌, ◌<◌, List, [], ◌∷◌, ◌++◌, length, take, slice_get, get_or, Some, refl, sym, ◌∙◌, ap, inl, inr}
use Rattle.std.specs.List.{list_all}
use Rattle.std.proofs.lemmas.Bool.{and_parts, ltb-true}
use Rattle.std.proofs.lemmas.List.{take_more}
use Rattle.std.proofs.lemmas.List.Elements.{filter_map-append}
use Rattle.std.proofs.lemmas.Option.{get_or_from_slice_get, slice_get_within}
use Rattle.net_world.specs.declared.way.Way.{Way}
use Rattle.net_world.specs.declared.way.Way.TheVariants.{Up, Down}
use Rattle.net_world.specs.Legality.{is_below}
use Rattle.net_world.specs.Way.{came_out, put_in}
use Rattle.spec_model.specs.declared.event.ClientEvent.TheVariants as clients
use Rattle.spec_model.specs.declared.event.ServerEvent.TheVariants as servers
use Rattle.spec_model.specs.declared.event.WorldEvent.{WorldEvent}
use Rattle.spec_model.specs.declared.event.WorldEvent.TheVariants.{Client, Server}
use Rattle.spec_model.specs.World.{clients_of, received_by_client, sent_by_client, sent_by_server, server_of, taken_by_server}
use Rattle.spec_model.proofs.PassedMessages.{on_conn_other, on_conn_same}
use Rattle.spec_model.proofs.WorldEvents.{clients_of-append, server_of-append}

pub put_in-append : (way : Way) (conn : ℕ) (world more : List WorldEvent) → put_in way conn (world ++ more) ≡ put_in way conn world ++ put_in way conn more
put_in-append Up conn world more = rw (clients_of-append world more) (filter_map-append (sent_by_client conn) (clients_of world) (clients_of more))
put_in-append Down conn world more = rw (server_of-append world more) (filter_map-append (sent_by_server conn) (server_of world) (server_of more))

pub came_out-append : (way : Way) (conn : ℕ) (world more : List WorldEvent) → came_out way conn (world ++ more) ≡ came_out way conn world ++ came_out way conn more
came_out-append Up conn world more = rw (server_of-append world more) (filter_map-append (taken_by_server conn) (server_of world) (server_of more))
came_out-append Down conn world more = rw (clients_of-append world more) (filter_map-append (received_by_client conn) (clients_of world) (clients_of more))

-- the event by which a message comes out
abbrev pub arrival : Way → ℕ → List ℕ → WorldEvent
arrival Up conn message = Server (servers.Take conn message)
arrival Down conn message = Client (clients.Receives conn message)

-- it comes out there
pub came_out-same : (way : Way) (conn : ℕ) (message : List ℕ) → came_out way conn (arrival way conn message ∷ []) ≡ message ∷ []
came_out-same Up conn message = rw (on_conn_same conn message) refl
came_out-same Down conn message = rw (on_conn_same conn message) refl

-- and nowhere else
pub came_out-other_conn : (way : Way) (conn other : ℕ) (message : List ℕ) → (other ≡ conn → ⊥) → came_out way conn (arrival way other message ∷ []) ≡ []
came_out-other_conn Up conn other message apart = rw (on_conn_other conn other message apart) refl
came_out-other_conn Down conn other message apart = rw (on_conn_other conn other message apart) refl

pub came_out-other_way : (way other : Way) (conn conn' : ℕ) (message : List ℕ) → (way ≡ other) ⊎ (came_out way conn (arrival other conn' message ∷ []) ≡ [])
came_out-other_way Up Up conn conn' message = inl refl
came_out-other_way Up Down conn conn' message = inr refl
came_out-other_way Down Up conn conn' message = inr refl
came_out-other_way Down Down conn conn' message = inl refl

-- the world up to an event and with it
pub take_event : (world : List WorldEvent) (place : ℕ) (event : WorldEvent) → slice_get world place ≡ Some event → take (place + 1) world ≡ take place world ++ event ∷ []
take_event world place event there =
    take_more world place event (slice_get_within world place event there)
    ∙ ap (λ item. take place world ++ item ∷ []) (get_or_from_slice_get world place event event there)

low_at : (test : WorldEvent → Bool) (world : List WorldEvent) (place : ℕ) (event : WorldEvent) → list_all test world ≡ true → slice_get world place ≡ Some event → test event ≡ true
low_at test [] place event all there = absurd (cc)
low_at test (first ∷ world) zero event all there =
    let same : first ≡ event = cc in
    rw (← same) (and_parts (test first) (list_all test world) all).0
low_at test (first ∷ world) (suc place) event all there = low_at test world place event (and_parts (test first) (list_all test world) all).1 there

-- where a message comes out, the connection is low
pub low_arrival : (way : Way) (conn : ℕ) (message : List ℕ) (world : List WorldEvent) (place : ℕ) → list_all (is_below 16) world ≡ true
    → slice_get world place ≡ Some (arrival way conn message) → conn < 16
low_arrival Up conn message world place low there = ltb-true conn 16 (low_at (is_below 16) world place (arrival Up conn message) low there)
low_arrival Down conn message world place low there = ltb-true conn 16 (low_at (is_below 16) world place (arrival Down conn message) low there)

-- what is put in up to an event and by it
pub put_in-next : (way : Way) (conn : ℕ) (events : List WorldEvent) (place : ℕ) (event : WorldEvent) → place < length events → event ≡ get_or events place event
    → put_in way conn (take (place + 1) events) ≡ put_in way conn (take place events) ++ put_in way conn (event ∷ [])
put_in-next way conn events place event within is =
    ap (put_in way conn) (take_more events place event within ∙ ap (λ item. take place events ++ item ∷ []) (sym is)) ∙ put_in-append way conn (take place events) (event ∷ [])
