use Rattle.std.proofs.Common.{rules, arith}
use Rattle.std.proofs.lemmas.Grind.{common_steps}
use Rattle.spec_build.specs.Parts.{items_from}
use Rattle.spec_build.proofs.Turns.{turn_left, no_turn_left}
use Rattle.spec_build.proofs.parts.further_items.Goals as goal

pub returns-then-not-sees_part : goal.returns-then-not-sees_part
unfolding items_from
returns-then-not-sees_part c =
    let e = turn_left (λ n. items_from c.loop-turn.items n c.loop-turn.tokens) _ c.loop-turn._turn c.loop-turn-test.true c.loop-turn.invariant in
    first_of (search rules, grind (arith, common_steps))

pub returns-in_err-item : goal.returns-in_err-item
unfolding items_from
returns-in_err-item c =
    let e = turn_left (λ n. items_from c.loop-turn.items n c.loop-turn.tokens) _ c.loop-turn._turn c.loop-turn-test.true c.loop-turn.invariant in
    first_of (search rules, grind (arith, common_steps))

pub loop-turn-preserved : goal.loop-turn-preserved
unfolding items_from
loop-turn-preserved c =
    let e = turn_left (λ n. items_from c.loop-turn.items n c.loop-turn.tokens) _ c.loop-turn._turn c.loop-turn-test.true c.loop-turn.invariant in
    first_of (search rules, grind (arith, common_steps))

pub returns : goal.returns
unfolding items_from
returns c =
    let e = no_turn_left (λ n. items_from c.loop-turn.items n c.loop-turn.tokens) _ c.loop-turn._turn c.loop-turn-test.false c.loop-turn.invariant in
    first_of (search rules, grind (arith, common_steps))
