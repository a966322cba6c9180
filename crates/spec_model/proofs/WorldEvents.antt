-- The clients' events and the server's in worlds that are joined.
use Rattle.std.proofs.Common.{◌≡◌, ℕ, zero, suc, List, [], ◌∷◌, ◌++◌, map, take, refl, ap, ◌∙◌, append-nil}
use Rattle.std.proofs.lemmas.List.Elements.{filter_map-append}
use Rattle.spec_model.specs.declared.event.ClientEvent.{ClientEvent}
use Rattle.spec_model.specs.declared.event.ServerEvent.{ServerEvent}
use Rattle.spec_model.specs.declared.event.WorldEvent.{WorldEvent}
use Rattle.spec_model.specs.declared.event.WorldEvent.TheVariants.{Client, Server}
use Rattle.spec_model.specs.World.{client_event, server_event, clients_of, server_of}

pub clients_of-append : (world more : List WorldEvent) → clients_of (world ++ more) ≡ clients_of world ++ clients_of more
clients_of-append = filter_map-append client_event

pub server_of-append : (world more : List WorldEvent) → server_of (world ++ more) ≡ server_of world ++ server_of more
server_of-append = filter_map-append server_event

pub clients_of-push_client : (world : List WorldEvent) (event : ClientEvent) → clients_of (world ++ Client event ∷ []) ≡ clients_of world ++ event ∷ []
clients_of-push_client world event = clients_of-append world (Client event ∷ [])

pub server_of-push_client : (world : List WorldEvent) (event : ClientEvent) → server_of (world ++ Client event ∷ []) ≡ server_of world
server_of-push_client world event = server_of-append world (Client event ∷ []) ∙ append-nil (server_of world)

pub clients_of-push_server : (world : List WorldEvent) (event : ServerEvent) → clients_of (world ++ Server event ∷ []) ≡ clients_of world
clients_of-push_server world event = clients_of-append world (Server event ∷ []) ∙ append-nil (clients_of world)

pub server_of-push_server : (world : List WorldEvent) (event : ServerEvent) → server_of (world ++ Server event ∷ []) ≡ server_of world ++ event ∷ []
server_of-push_server world event = server_of-append world (Server event ∷ [])

clients_of-map_server : (block : List ServerEvent) → clients_of (map Server block) ≡ []
clients_of-map_server [] = refl
clients_of-map_server (event ∷ block) = clients_of-map_server block

server_of-map_server : (block : List ServerEvent) → server_of (map Server block) ≡ block
server_of-map_server [] = refl
server_of-map_server (event ∷ block) = ap (λ events. event ∷ events) (server_of-map_server block)

-- a block of server events behind a world
pub clients_of-block : (world : List WorldEvent) (block : List ServerEvent) → clients_of (world ++ map Server block) ≡ clients_of world
clients_of-block world block = clients_of-append world (map Server block) ∙ rw (clients_of-map_server block) (append-nil (clients_of world))

pub server_of-block : (world : List WorldEvent) (block : List ServerEvent) → server_of (world ++ map Server block) ≡ server_of world ++ block
server_of-block world block = server_of-append world (map Server block) ∙ rw (server_of-map_server block) refl

-- A world begins with one in which just the first events of the clients stand, of each number.
pub record BeginsWith (world : List WorldEvent) (exchange : List ClientEvent) : Type 0 where
  pub front : List WorldEvent
  pub back : List WorldEvent
  pub whole : world ≡ front ++ back
  pub clients : clients_of front ≡ exchange

begins_after : (world : List WorldEvent) (exchange : List ClientEvent) (event : WorldEvent) → BeginsWith world exchange
    → BeginsWith (event ∷ world) (clients_of (event ∷ []) ++ exchange)
begins_after world exchange event begun = record {
  front = event ∷ begun.front;
  back = begun.back;
  whole = ap (λ rest. event ∷ rest) begun.whole;
  clients = clients_of-append (event ∷ []) begun.front ∙ rw begun.clients refl;
}

pub begins_with_take : (count : ℕ) (world : List WorldEvent) → BeginsWith world (take count (clients_of world))
begins_with_take zero world = record { front = []; back = world; whole = refl; clients = refl }
begins_with_take (suc count) [] = record { front = []; back = []; whole = refl; clients = refl }
begins_with_take (suc count) (Client event ∷ world) = begins_after world (take count (clients_of world)) (Client event) (begins_with_take count world)
begins_with_take (suc count) (Server event ∷ world) = begins_after world (take (suc count) (clients_of world)) (Server event) (begins_with_take (suc count) world)
