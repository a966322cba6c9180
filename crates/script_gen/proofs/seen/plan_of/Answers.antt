use Rattle.std.proofs.Common.{sym, subst}
use Rattle.script_gen.specs.Ready.{IsReady}
use Rattle.script_gen.proofs.ReadyPlans.{ready}
use Rattle.script_gen.proofs.SeenByStmt.{plan_seen}
use Rattle.script_gen.proofs.seen.plan_of.Goals as goal

pub returns-clause-ready : goal.returns-clause-ready
returns-clause-ready c =
    let is = plan_seen c.args.spec.now c.spec-spec.result.now c.see_start.new.plan c.see_block.new.plan c.args.conns c.new.result c.new-2.result c.new-picks.result.items
    c.spec-spec.ensures.same c.new.ensures c.new-2.ensures c.new-picks.ensures.items c.in_ok-see_start.ensures c.in_ok-see_block.ensures.seen in
    subst IsReady (sym is) (ready c.args.spec.now c.args.conns c.spec-spec.ensures.accepted c.requires.one_conn c.requires.conns_within)
