-- What passes on a connection, each way.
use Rattle.std.specs.Prelude.{ℕ, List, length, slice_get, Option}
use Rattle.net_world.specs.declared.way.Way.{Way}
use Rattle.net_world.specs.declared.way.Way.TheVariants.{Up, Down}
use Rattle.spec_model.specs.declared.event.WorldEvent.{WorldEvent}
use Rattle.spec_model.specs.World.{client_receipts, client_sends, clients_of, server_of, server_sends, server_takes}

-- the messages that were put in on a connection
abbrev pub put_in : Way → ℕ → List WorldEvent → List (List ℕ)
put_in Up conn world = client_sends conn (clients_of world)
put_in Down conn world = server_sends conn (server_of world)

-- the messages that came out of it
abbrev pub came_out : Way → ℕ → List WorldEvent → List (List ℕ)
came_out Up conn world = server_takes conn (server_of world)
came_out Down conn world = client_receipts conn (clients_of world)

-- the message that is to come out next, if one is under way
abbrev pub next_out : Way → ℕ → List WorldEvent → Option (List ℕ)
next_out way conn world = slice_get (put_in way conn world) (length (came_out way conn world))
