use Rattle.std.proofs.Common.{rules, arith}
use Rattle.std.proofs.lemmas.Grind.{common_steps}
use Rattle.spec_build.specs.Whole.{declarations_from}
use Rattle.spec_build.proofs.Turns.{turn_left, no_turn_left}
use Rattle.spec_build.proofs.header.declarations.Goals as goal

pub returns-then-not-sees_declaration : goal.returns-then-not-sees_declaration
unfolding declarations_from
returns-then-not-sees_declaration c =
    let e = turn_left (λ n. declarations_from c.loop-turn.decls n c.loop-turn.tokens) _ c.loop-turn._turn c.loop-turn-test.true c.loop-turn.invariant in
    first_of (search rules, grind (arith, common_steps))

pub returns-in_err-declaration : goal.returns-in_err-declaration
unfolding declarations_from
returns-in_err-declaration c =
    let e = turn_left (λ n. declarations_from c.loop-turn.decls n c.loop-turn.tokens) _ c.loop-turn._turn c.loop-turn-test.true c.loop-turn.invariant in
    first_of (search rules, grind (arith, common_steps))

pub loop-turn-preserved : goal.loop-turn-preserved
unfolding declarations_from
loop-turn-preserved c =
    let e = turn_left (λ n. declarations_from c.loop-turn.decls n c.loop-turn.tokens) _ c.loop-turn._turn c.loop-turn-test.true c.loop-turn.invariant in
    first_of (search rules, grind (arith, common_steps))

pub returns : goal.returns
unfolding declarations_from
returns c =
    let e = no_turn_left (λ n. declarations_from c.loop-turn.decls n c.loop-turn.tokens) _ c.loop-turn._turn c.loop-turn-test.false c.loop-turn.invariant in
    first_of (search rules, grind (arith, common_steps))
