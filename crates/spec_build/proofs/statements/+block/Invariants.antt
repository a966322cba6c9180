use Rattle.std.proofs.Common.{◌≡◌, ◌-◌, ◌+◌, ◌*◌}
use Rattle.spec_build.specs.Statements.{block, statements, stmts_from, cases, cases_from, further_arms, arms_from}
use Rattle.spec_build.proofs.statements.+block.Given as goal

-- what is read in all turns is read in those that are left
abbrev pub invariant-statements-loop-turn : goal.invariant-statements-loop-turn
invariant-statements-loop-turn l = statements (block l.depth) l.fn.tokens ≡ stmts_from (block l.depth) l.stmts (l._turn-end - l._turn) l.tokens

abbrev pub invariant-cases-loop-turn : goal.invariant-cases-loop-turn
invariant-cases-loop-turn l = cases (block l.depth) l.fn.tokens ≡ cases_from (block l.depth) l.cases (l._turn-end - l._turn) l.tokens

abbrev pub invariant-further_arms-loop-turn : goal.invariant-further_arms-loop-turn
invariant-further_arms-loop-turn l = further_arms (block l.depth) l.fn.arms l.fn.tokens ≡ arms_from (block l.depth) l.arms (l._turn-end - l._turn) l.tokens

-- a block's statements stand one deeper than it, and every other call stands no deeper
abbrev pub decreases-block : goal.decreases-block
decreases-block l = 5 * l.depth

abbrev pub decreases-statements : goal.decreases-statements
decreases-statements l = 5 * l.depth + 4

abbrev pub decreases-kind : goal.decreases-kind
decreases-kind l = 5 * l.depth + 3

abbrev pub decreases-recv : goal.decreases-recv
decreases-recv l = 5 * l.depth + 2

abbrev pub decreases-cases : goal.decreases-cases
decreases-cases l = 5 * l.depth + 1

abbrev pub decreases-either : goal.decreases-either
decreases-either l = 5 * l.depth + 2

abbrev pub decreases-further_arms : goal.decreases-further_arms
decreases-further_arms l = 5 * l.depth + 1

abbrev pub decreases-else_part : goal.decreases-else_part
decreases-else_part l = 5 * l.depth + 1

abbrev pub decreases-conditional : goal.decreases-conditional
decreases-conditional l = 5 * l.depth + 2

abbrev pub decreases-lookup : goal.decreases-lookup
decreases-lookup l = 5 * l.depth + 2
