use Rattle.std.proofs.Common.{◌++◌, ◌∷◌, [], refl}
use Rattle.net_world.proofs.KeptQueues.{down-set, kept, on_err}
use Rattle.net_world.proofs.sim_net.SimNet.down.Goals as goal

pub returns-in_err-push_back-clause-err : goal.returns-in_err-push_back-clause-err
returns-in_err-push_back-clause-err c =
    let items = c.in_err-push_back.ensures.items in
    on_err c.from_residual.result _
    (kept c.self.inside.conns.items c.args.self.now c.self.view_is c.args.c c.from.result c.from.ensures c.requires c.index_mut.result.now
    (record { down = c.push_back.new.self; up = c.index_mut.result.now.up }) c.index_mut.ensures.value (cc))

pub returns-clause-ok : goal.returns-clause-ok
returns-clause-ok c =
    down-set c.self.inside.conns.items c.args.self.now c.self.view_is c.args.c c.from.result c.from.ensures c.requires c.index_mut.result.now
    (record { down = c.push_back.new.self; up = c.index_mut.result.now.up }) c.index_mut.ensures.value (λ list. list ++ c.args.m ∷ []) c.in_ok-push_back.ensures.items refl
