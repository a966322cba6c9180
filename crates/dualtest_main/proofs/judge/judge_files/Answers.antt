use Rattle.std.proofs.Common.{refl}
use Rattle.dualtest_main.specs.Outcome.{exchange_stops, judged, spec_stops}
use Rattle.dualtest_main.specs.Words.{judge}
use Rattle.dualtest_main.proofs.Answered.{if_answered}
use Rattle.dualtest_main.proofs.judge.judge_files.Goals as goal

pub returns-in-Err-clause-due : goal.returns-in-Err-clause-due
returns-in-Err-clause-due g c =
    if_answered c.stopped.result _ _
    (λ answer says. λ words asks. rw (says.0, says.1) (spec_stops (judge c.args.spec.now c.args.exchange.now) c.in-Err.stop asks c.in-Err.ensures.stops)) c.stopped.ensures

pub returns-in-Err-read_events-clause-due : goal.returns-in-Err-read_events-clause-due
returns-in-Err-read_events-clause-due g c =
    let stops = rw (c.in-Ok.ensures.told, c.in-Ok.ensures.counts, c.spec.ensures.same) at c.in-Err-read_events.ensures.stops in
    if_answered c.stopped-in-Err-read_events.result _ _
    (λ answer says. λ words asks. rw (says.0, says.1)
    (exchange_stops (judge c.args.spec.now c.args.exchange.now) c.args.exchange.now c.in-Ok.checked c.in-Err-read_events.stop asks refl c.in-Ok.ensures.spec c.in-Ok.ensures.picks_nothing stops))
    c.stopped-in-Err-read_events.ensures

pub judgement-requires-clause-exchange : goal.judgement-requires-clause-exchange
judgement-requires-clause-exchange g c =
    let holds = rw c.spec.ensures.same at c.in-Ok-read_events.ensures.exchange in rw c.deref.ensures.value holds.spells.0.0

pub returns-clause-due : goal.returns-clause-due
returns-clause-due g c =
    let holds = rw (c.in-Ok.ensures.told, c.spec.ensures.same) at c.in-Ok-read_events.ensures.exchange in
    if_answered c.judgement.result _ _
    (λ answer says. λ words asks. rw (c.in-Ok-read_events.ensures.counts, c.in-Ok.ensures.counts)
    (judged c.in-Ok.checked c.in-Ok-read_events.events.items (record {
      spec_name = c.args.spec.now;
      exchange_name = c.args.exchange.now;
      asks = asks;
      holds_spec = c.in-Ok.ensures.spec;
      picks_nothing = c.in-Ok.ensures.picks_nothing;
      holds_exchange = holds;
    }) says))
    (rw c.deref.ensures.value at c.judgement.ensures)
