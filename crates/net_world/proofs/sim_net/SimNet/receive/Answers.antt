use Rattle.std.proofs.Common.{drop, refl}
use Rattle.net_world.proofs.KeptQueues.{down-set}
use Rattle.net_world.proofs.sim_net.SimNet.receive.Goals as goal

pub returns-clause-left : goal.returns-clause-left
returns-clause-left c =
    down-set c.self.inside.conns.items c.args.self.now c.self.view_is c.args.c c.from.result c.from.ensures c.requires c.index_mut.result.now
    (record { down = c.pop_front.new.self; up = c.index_mut.result.now.up }) c.index_mut.ensures.value (drop 1) c.pop_front.ensures.rest refl
