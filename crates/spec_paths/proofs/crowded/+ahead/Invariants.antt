use Rattle.std.proofs.Common.{List, drop, map, take}
use Rattle.spec_model.specs.declared.tree.Stmt.{Stmt}
use Rattle.spec_rules.specs.Path.{PathPasses}
use Rattle.spec_paths.specs.Ahead.{IsAhead, IsAheadInOne}
use Rattle.spec_paths.specs.Bounds.{IsGreatest}
use Rattle.spec_paths.specs.Crowded.{block_of_case}
use Rattle.spec_paths.proofs.crowded.+ahead.Given as goal

-- what is ahead in the arms, statements or cases gone through so far, the statements from the last one on
abbrev pub invariant-ahead_of_arms-loop-arm : goal.invariant-ahead_of_arms-loop-arm
invariant-ahead_of_arms-loop-arm l = (behind : List Stmt) → IsGreatest (PathPasses behind) l.most_behind → IsAheadInOne (take l.arm-index l.arm-items) behind l.ahead

abbrev pub invariant-ahead_of_block-loop-place : goal.invariant-ahead_of_block-loop-place
invariant-ahead_of_block-loop-place l = (behind : List Stmt) → IsGreatest (PathPasses behind) l.fn.most_behind → IsAhead (drop l.place l.stmts) behind l.ahead

abbrev pub invariant-ahead_of_cases-loop-case : goal.invariant-ahead_of_cases-loop-case
invariant-ahead_of_cases-loop-case l =
    (behind : List Stmt) → IsGreatest (PathPasses behind) l.most_behind → IsAheadInOne (map block_of_case (take l.case-index l.case-items)) behind l.ahead
