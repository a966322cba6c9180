use Rattle.std.proofs.Common.{refl, subst, sym}
use Rattle.hypothesis.specs.Judged.{PicksNothing}
use Rattle.dualtest_main.proofs.reading.read_judged_spec.Goals as goal

pub returns-else-picks_nothing-clause-stops : goal.returns-else-picks_nothing-clause-stops
returns-else-picks_nothing-clause-stops g c =
    let holds = c.in-Ok.ensures.spec in
    let has_pick : PicksNothing c.in-Ok.spec → ⊥
    = λ none. absurd (cc (c.picks_nothing.ensures.1 (subst PicksNothing (sym c.spec-in-Ok.ensures.same) none), c.if-picks_nothing.false)) in
    (holds.text, holds.held, (refl, (c.in-Ok.spec, holds.spells, holds.accepted, has_pick)), c.in-Ok.ensures.counts)
