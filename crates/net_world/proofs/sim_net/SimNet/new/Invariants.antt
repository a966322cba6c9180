use Rattle.std.proofs.Common.{◌≡◌, map, replicate}
use Rattle.net_world.specs.Net.{held, nothing}
use Rattle.net_world.proofs.sim_net.SimNet.new.Given as goal

-- so many connections were made
abbrev pub invariant-loop : goal.invariant-loop
invariant-loop l = map held l.queues.items ≡ replicate l.counter nothing
