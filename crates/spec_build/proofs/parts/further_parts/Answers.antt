use Rattle.std.proofs.Common.{rules, arith}
use Rattle.std.proofs.lemmas.Grind.{common_steps}
use Rattle.spec_build.specs.Parts.{parts_from}
use Rattle.spec_build.proofs.Turns.{turn_left, no_turn_left}
use Rattle.spec_build.proofs.parts.further_parts.Goals as goal

pub returns-then-not-sees_part : goal.returns-then-not-sees_part
unfolding parts_from
returns-then-not-sees_part c =
    let e = turn_left (λ n. parts_from c.loop-turn.parts n c.loop-turn.tokens) _ c.loop-turn._turn c.loop-turn-test.true c.loop-turn.invariant in
    first_of (search rules, grind (arith, common_steps))

pub loop-turn-preserved : goal.loop-turn-preserved
unfolding parts_from
loop-turn-preserved c =
    let e = turn_left (λ n. parts_from c.loop-turn.parts n c.loop-turn.tokens) _ c.loop-turn._turn c.loop-turn-test.true c.loop-turn.invariant in
    first_of (search rules, grind (arith, common_steps))

pub returns : goal.returns
unfolding parts_from
returns c =
    let e = no_turn_left (λ n. parts_from c.loop-turn.parts n c.loop-turn.tokens) _ c.loop-turn._turn c.loop-turn-test.false c.loop-turn.invariant in
    first_of (search rules, grind (arith, common_steps))
