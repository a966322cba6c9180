use Rattle.std.proofs.Common.{◌∙◌, refl, sym, arith}
use Rattle.std.proofs.lemmas.Option.{slice_get_within}
use Rattle.explain_replay.proofs.Differences.{clients_of-server, ends_before, other_client, same_clients}
use Rattle.explain_replay.proofs.replay.first_difference.Goals.{in-Client+else-not-stands_at, in_default}
use Rattle.explain_replay.proofs.replay.first_difference.Goals as goal

pub returns-then-not-stands_at : goal.returns-then-not-stands_at
returns-then-not-stands_at c =
    other_client c.args.exchange.now c.args.world.now c.loop-event.count c.loop-event.event-index c.event-item.result c.in-Client.event c.loop-event-test.true c.event-item.is
    c.in-Client.is c.loop-event.invariant.same c.loop-event.invariant.within c.if-not-stands_at.ensures.fails

pub loop-event-preserved : goal.loop-event-preserved
loop-event-preserved c = elim c.match-event.branch [
  | in-Client+else-not-stands_at w ↦ rw w.count-is (record {
    same = same_clients c.args.exchange.now c.args.world.now c.loop-event.count c.loop-event.event-index c.event-item.result w.in-Client.event c.loop-event-test.true c.event-item.is
        w.in-Client.is c.loop-event.invariant.same w.if-not-stands_at.ensures.holds;
    within = omega (arith, slice_get_within c.args.exchange.now c.loop-event.count w.in-Client.event w.if-not-stands_at.ensures.holds);
  })
  | in_default w ↦ rw w.count-is (record {
    same = c.loop-event.invariant.same
        ∙ sym (clients_of-server c.args.world.now c.loop-event.event-index c.event-item.result c.loop-event-test.true c.event-item.is (rw w.in_default.is refl));
    within = c.loop-event.invariant.within;
  })
]

pub returns-then-count-exchange : goal.returns-then-count-exchange
returns-then-count-exchange c =
    ends_before c.args.exchange.now c.args.world.now c.loop-event.count c.loop-event.event-index c.loop-event-test.false c.loop-event.invariant.same c.if-count-exchange.true
