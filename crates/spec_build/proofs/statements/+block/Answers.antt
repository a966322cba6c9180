use Rattle.std.proofs.Common.{rules, arith}
use Rattle.std.proofs.lemmas.Grind.{common_steps}
use Rattle.spec_model.specs.declared.tree.Kind.{the_lemmas}
use Rattle.spec_build.specs.Statements.{block, stmts_from, cases_from, arms_from}
use Rattle.spec_build.proofs.Turns.{turn_left, no_turn_left}
use Rattle.spec_build.proofs.statements.+block.Goals as goal

pub cases-returns-then-eat_word : goal.cases-returns-then-eat_word
unfolding cases_from
cases-returns-then-eat_word t c =
    let e = turn_left (λ n. cases_from (block c.args.depth) c.loop-turn.cases n c.loop-turn.tokens) _ c.loop-turn._turn c.loop-turn-test.true c.loop-turn.invariant in
    first_of (search rules, grind (arith, common_steps), search (rules, the_lemmas))

pub cases-returns-in_err-word : goal.cases-returns-in_err-word
unfolding cases_from
cases-returns-in_err-word t c =
    let e = turn_left (λ n. cases_from (block c.args.depth) c.loop-turn.cases n c.loop-turn.tokens) _ c.loop-turn._turn c.loop-turn-test.true c.loop-turn.invariant in
    first_of (search rules, grind (arith, common_steps), search (rules, the_lemmas))

pub cases-returns-in_err-items : goal.cases-returns-in_err-items
unfolding cases_from
cases-returns-in_err-items t c =
    let e = turn_left (λ n. cases_from (block c.args.depth) c.loop-turn.cases n c.loop-turn.tokens) _ c.loop-turn._turn c.loop-turn-test.true c.loop-turn.invariant in
    first_of (search rules, grind (arith, common_steps), search (rules, the_lemmas))

pub cases-returns-in_err-block : goal.cases-returns-in_err-block
unfolding cases_from
cases-returns-in_err-block t c =
    let e = turn_left (λ n. cases_from (block c.args.depth) c.loop-turn.cases n c.loop-turn.tokens) _ c.loop-turn._turn c.loop-turn-test.true c.loop-turn.invariant in
    first_of (search rules, grind (arith, common_steps), search (rules, the_lemmas))

pub cases-loop-turn-preserved : goal.cases-loop-turn-preserved
unfolding cases_from
cases-loop-turn-preserved t c =
    let e = turn_left (λ n. cases_from (block c.args.depth) c.loop-turn.cases n c.loop-turn.tokens) _ c.loop-turn._turn c.loop-turn-test.true c.loop-turn.invariant in
    first_of (search rules, grind (arith, common_steps), search (rules, the_lemmas))

pub cases-returns : goal.cases-returns
unfolding cases_from
cases-returns t c =
    let e = no_turn_left (λ n. cases_from (block c.args.depth) c.loop-turn.cases n c.loop-turn.tokens) _ c.loop-turn._turn c.loop-turn-test.false c.loop-turn.invariant in
    first_of (search rules, grind (arith, common_steps))

pub further_arms-returns-then-not-eat_word : goal.further_arms-returns-then-not-eat_word
unfolding arms_from
further_arms-returns-then-not-eat_word t c =
    let e = turn_left (λ n. arms_from (block c.args.depth) c.loop-turn.arms n c.loop-turn.tokens) _ c.loop-turn._turn c.loop-turn-test.true c.loop-turn.invariant in
    first_of (search rules, grind (arith, common_steps), search (rules, the_lemmas))

pub further_arms-returns-in_err-block : goal.further_arms-returns-in_err-block
unfolding arms_from
further_arms-returns-in_err-block t c =
    let e = turn_left (λ n. arms_from (block c.args.depth) c.loop-turn.arms n c.loop-turn.tokens) _ c.loop-turn._turn c.loop-turn-test.true c.loop-turn.invariant in
    first_of (search rules, grind (arith, common_steps), search (rules, the_lemmas))

pub further_arms-loop-turn-preserved : goal.further_arms-loop-turn-preserved
unfolding arms_from
further_arms-loop-turn-preserved t c =
    let e = turn_left (λ n. arms_from (block c.args.depth) c.loop-turn.arms n c.loop-turn.tokens) _ c.loop-turn._turn c.loop-turn-test.true c.loop-turn.invariant in
    first_of (search rules, grind (arith, common_steps), search (rules, the_lemmas))

pub further_arms-returns : goal.further_arms-returns
unfolding arms_from
further_arms-returns t c =
    let e = no_turn_left (λ n. arms_from (block c.args.depth) c.loop-turn.arms n c.loop-turn.tokens) _ c.loop-turn._turn c.loop-turn-test.false c.loop-turn.invariant in
    first_of (search rules, grind (arith, common_steps))

pub statements-returns-then-eat_sign : goal.statements-returns-then-eat_sign
unfolding stmts_from
statements-returns-then-eat_sign t c =
    let e = turn_left (λ n. stmts_from (block c.args.depth) c.loop-turn.stmts n c.loop-turn.tokens) _ c.loop-turn._turn c.loop-turn-test.true c.loop-turn.invariant in
    first_of (search rules, grind (arith, common_steps), search (rules, the_lemmas))

pub statements-returns-in_err-at : goal.statements-returns-in_err-at
unfolding stmts_from
statements-returns-in_err-at t c =
    let e = turn_left (λ n. stmts_from (block c.args.depth) c.loop-turn.stmts n c.loop-turn.tokens) _ c.loop-turn._turn c.loop-turn-test.true c.loop-turn.invariant in
    first_of (search rules, grind (arith, common_steps), search (rules, the_lemmas))

pub statements-returns-in_err-kind : goal.statements-returns-in_err-kind
unfolding stmts_from
statements-returns-in_err-kind t c =
    let e = turn_left (λ n. stmts_from (block c.args.depth) c.loop-turn.stmts n c.loop-turn.tokens) _ c.loop-turn._turn c.loop-turn-test.true c.loop-turn.invariant in
    first_of (search rules, grind (arith, common_steps), search (rules, the_lemmas))

pub statements-loop-turn-preserved : goal.statements-loop-turn-preserved
unfolding stmts_from
statements-loop-turn-preserved t c =
    let e = turn_left (λ n. stmts_from (block c.args.depth) c.loop-turn.stmts n c.loop-turn.tokens) _ c.loop-turn._turn c.loop-turn-test.true c.loop-turn.invariant in
    first_of (search rules, grind (arith, common_steps), search (rules, the_lemmas))

pub statements-returns : goal.statements-returns
unfolding stmts_from
statements-returns t c =
    let e = no_turn_left (λ n. stmts_from (block c.args.depth) c.loop-turn.stmts n c.loop-turn.tokens) _ c.loop-turn._turn c.loop-turn-test.false c.loop-turn.invariant in
    first_of (search rules, grind (arith, common_steps))
