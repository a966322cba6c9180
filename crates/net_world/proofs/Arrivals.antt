-- When a message may come out.
use Rattle.std.proofs.Common.{ℕ, List, [], ◌∷◌, ◌++◌}
use Rattle.net_world.specs.declared.way.Way.{Way}
use Rattle.net_world.specs.declared.way.Way.TheVariants.{Up, Down}
use Rattle.net_world.specs.Way.{came_out, put_in}
use Rattle.net_world.proofs.Passing.{arrival}
use Rattle.spec_model.specs.declared.event.ServerEvent.TheVariants as servers
use Rattle.spec_model.specs.declared.event.WorldEvent.{WorldEvent}
use Rattle.spec_model.specs.World.{IsLegal, IsPrefixOf, server_of}
use Rattle.spec_model.proofs.LegalWorlds.{IsLegal-in_order, IsLegal-receipt, IsLegal-take, received_is_next}
use Rattle.spec_model.proofs.PassedMessages.{server_takes-push_same}
use Rattle.spec_model.proofs.WorldEvents.{clients_of-push_server, server_of-push_server}

-- A message may come out where it is the next of those put in.
pub IsLegal-arrival : (way : Way) (conn : ℕ) (message : List ℕ) (world : List WorldEvent) → IsLegal world
    → IsPrefixOf (came_out way conn world ++ message ∷ []) (put_in way conn world) → IsLegal (world ++ arrival way conn message ∷ [])
IsLegal-arrival Up conn message world legal next = IsLegal-take conn message legal next
IsLegal-arrival Down conn message world legal next = IsLegal-receipt conn message legal next

-- Only there it may.
pub arrival_is_next : (way : Way) (conn : ℕ) (message : List ℕ) (world : List WorldEvent) → IsLegal (world ++ arrival way conn message ∷ [])
    → IsPrefixOf (came_out way conn world ++ message ∷ []) (put_in way conn world)
arrival_is_next Up conn message world legal =
    rw (clients_of-push_server world (servers.Take conn message), server_of-push_server world (servers.Take conn message), server_takes-push_same conn (server_of world) message)
    at (IsLegal-in_order legal conn).up
arrival_is_next Down conn message world legal = received_is_next world conn message legal
