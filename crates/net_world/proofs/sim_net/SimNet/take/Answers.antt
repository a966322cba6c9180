use Rattle.std.proofs.Common.{drop, refl}
use Rattle.net_world.proofs.KeptQueues.{up-set}
use Rattle.net_world.proofs.sim_net.SimNet.take.Goals as goal

pub returns-clause-left : goal.returns-clause-left
returns-clause-left c =
    up-set c.self.inside.conns.items c.args.self.now c.self.view_is c.args.c c.from.result c.from.ensures c.requires c.index_mut.result.now
    (record { up = c.pop_front.new.self; down = c.index_mut.result.now.down }) c.index_mut.ensures.value (drop 1) c.pop_front.ensures.rest refl
