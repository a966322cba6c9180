use Rattle.std.proofs.Common.{refl}
use Rattle.dualtest_main.specs.Outcome.{exchange_stops, replayed, spec_stops, world_stops}
use Rattle.dualtest_main.specs.Words.{replay}
use Rattle.dualtest_main.proofs.Answered.{if_answered}
use Rattle.dualtest_main.proofs.LowConns.{world_low}
use Rattle.dualtest_main.proofs.OneEnd.{at_most_16}
use Rattle.dualtest_main.proofs.replay.replay_files.Goals as goal

pub returns-in-Err-clause-due : goal.returns-in-Err-clause-due
returns-in-Err-clause-due g c =
    if_answered c.stopped.result _ _
    (λ answer says. λ words asks. rw (says.0, says.1) (spec_stops (replay c.args.spec.now c.args.exchange.now c.args.world.now) c.in-Err.stop asks c.in-Err.ensures.stops)) c.stopped.ensures

pub returns-in-Err-read_events-clause-due : goal.returns-in-Err-read_events-clause-due
returns-in-Err-read_events-clause-due g c =
    let stops = rw (c.in-Ok.ensures.told, c.in-Ok.ensures.counts, c.spec.ensures.same) at c.in-Err-read_events.ensures.stops in
    if_answered c.stopped-in-Err-read_events.result _ _
    (λ answer says. λ words asks. rw (says.0, says.1)
    (exchange_stops (replay c.args.spec.now c.args.exchange.now c.args.world.now) c.args.exchange.now c.in-Ok.checked c.in-Err-read_events.stop asks refl c.in-Ok.ensures.spec tt stops))
    c.stopped-in-Err-read_events.ensures

pub returns-in-Err-read_world_events-clause-due : goal.returns-in-Err-read_world_events-clause-due
returns-in-Err-read_world_events-clause-due g c =
    let holds_exchange = rw (c.in-Ok.ensures.told, c.spec.ensures.same) at c.in-Ok-read_events.ensures.exchange in
    let stops = rw (c.in-Ok-read_events.ensures.told, c.in-Ok-read_events.ensures.counts, c.in-Ok.ensures.told, c.in-Ok.ensures.counts, c.spec-2.ensures.same)
    at c.in-Err-read_world_events.ensures.stops in
    if_answered c.stopped-in-Err-read_world_events.result _ _
    (λ answer says. λ words asks. rw (says.0, says.1)
    (world_stops c.args.spec.now c.args.exchange.now c.args.world.now c.in-Ok.checked c.in-Ok-read_events.events.items c.in-Err-read_world_events.stop asks
    c.in-Ok.ensures.spec holds_exchange stops))
    c.stopped-in-Err-read_world_events.ensures

pub replay-requires : goal.replay-requires
replay-requires g c =
    let holds = rw c.spec-2.ensures.same at c.in-Ok-read_world_events.ensures.world in
    rw c.deref-2.ensures.value
    (world_low c.in-Ok.checked.shape (at_most_16 c.in-Ok.checked c.in-Ok.ensures.spec.accepted) c.in-Ok-read_world_events.world.items holds.spells.0.0)

pub returns-clause-due : goal.returns-clause-due
returns-clause-due g c =
    let holds_exchange = rw (c.in-Ok.ensures.told, c.spec.ensures.same) at c.in-Ok-read_events.ensures.exchange in
    let holds_world = rw (c.in-Ok-read_events.ensures.told, c.in-Ok.ensures.told, c.spec-2.ensures.same) at c.in-Ok-read_world_events.ensures.world in
    if_answered c.replay.result _ _
    (λ answer says. λ words asks. rw (c.in-Ok-read_world_events.ensures.counts, c.in-Ok-read_events.ensures.counts, c.in-Ok.ensures.counts)
    (replayed c.in-Ok.checked c.in-Ok-read_events.events.items c.in-Ok-read_world_events.world.items (record {
      spec_name = c.args.spec.now;
      exchange_name = c.args.exchange.now;
      world_name = c.args.world.now;
      asks = asks;
      holds_spec = c.in-Ok.ensures.spec;
      holds_exchange = holds_exchange;
      holds_world = holds_world;
    }) says))
    (rw (c.deref.ensures.value, c.deref-2.ensures.value) at c.replay.ensures)
