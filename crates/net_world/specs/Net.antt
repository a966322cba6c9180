-- What is under way on the connections of a network.
use Rattle.std.specs.Prelude.{ℕ, List, [], slice_index_or, slice_set}
use Rattle.net_world.specs.declared.sim_net.Queues.{Queues}
use Rattle.net_world.specs.declared.way.Way.{Way}
use Rattle.net_world.specs.declared.way.Way.TheVariants.{Up, Down}

-- the messages under way on a connection, each way, the oldest first
pub record UnderWay : Type 0 where
  pub up : List (List ℕ)
  pub down : List (List ℕ)

-- nothing is under way
abbrev pub nothing : UnderWay
nothing = record { up = []; down = [] }

abbrev pub held : Queues → UnderWay
held queues = record { up = queues.up.items; down = queues.down.items }

-- the queue of a connection, this way
abbrev pub queue : Way → ℕ → List UnderWay → List (List ℕ)
queue Up conn net = (slice_index_or net conn nothing).up
queue Down conn net = (slice_index_or net conn nothing).down

-- the network with other messages in that queue
abbrev pub with_queue : Way → ℕ → List (List ℕ) → List UnderWay → List UnderWay
with_queue Up conn messages net = slice_set net conn (record (slice_index_or net conn nothing) { up = messages })
with_queue Down conn messages net = slice_set net conn (record (slice_index_or net conn nothing) { down = messages })
