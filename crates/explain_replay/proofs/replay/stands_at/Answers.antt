use Rattle.std.proofs.Common.{refl, arith}
use Rattle.std.proofs.lemmas.Option.{slice_get_read, slice_get_within}
use Rattle.explain_replay.proofs.SameEvents.{stands_if, stands_only_if}
use Rattle.explain_replay.proofs.replay.stands_at.Goals as goal

pub returns-in-Some-clause-holds : goal.returns-in-Some-clause-holds
returns-in-Some-clause-holds c =
    let found = c.in-Some.ensures.lookup in
    let there = slice_get_read c.args.exchange.now _ c.args.number c.in-Some.seen.now refl found.3.0 found.1 in
    stands_if c.args.exchange.now c.args.number c.in-Some.seen.now c.args.event.now there c.eq.result c.eq.ensures

pub returns-in-Some-clause-fails : goal.returns-in-Some-clause-fails
returns-in-Some-clause-fails c =
    let found = c.in-Some.ensures.lookup in
    let there = slice_get_read c.args.exchange.now _ c.args.number c.in-Some.seen.now refl found.3.0 found.1 in
    stands_only_if c.args.exchange.now c.args.number c.in-Some.seen.now c.args.event.now there c.eq.result c.eq.ensures

pub returns-in-None-clause-fails : goal.returns-in-None-clause-fails
returns-in-None-clause-fails c there =
    let within = slice_get_within c.args.exchange.now c.args.number c.args.event.now there in
    let past = c.in-None.ensures.lookup.3 in omega (arith, within, past)
