use Rattle.std.proofs.Common.{◌≡◌, take, true}
use Rattle.std.specs.List.{list_all}
use Rattle.hypothesis.specs.PickTest.{block_picks_nothing, case_picks_nothing, stmt_picks_nothing}
use Rattle.hypothesis.proofs.picks.+picks.Given as goal

-- the statements so far pick nothing
abbrev pub invariant-block_picks_nothing-loop-stmt : goal.invariant-block_picks_nothing-loop-stmt
invariant-block_picks_nothing-loop-stmt l = list_all stmt_picks_nothing (take l.stmt-index l.stmt-items) ≡ true

-- the arms so far do
abbrev pub invariant-arms_pick_nothing-loop-arm : goal.invariant-arms_pick_nothing-loop-arm
invariant-arms_pick_nothing-loop-arm l = list_all block_picks_nothing (take l.arm-index l.arms) ≡ true

-- the cases so far do
abbrev pub invariant-cases_pick_nothing-loop-case : goal.invariant-cases_pick_nothing-loop-case
invariant-cases_pick_nothing-loop-case l = list_all case_picks_nothing (take l.case-index l.cases) ≡ true
