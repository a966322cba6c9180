use Rattle.std.proofs.Common.{◌≡◌, true, List, drop}
use Rattle.spec_model.specs.Grammar.{Piece}
use Rattle.spec_print.specs.Listed.{stmts, cases, arms}
use Rattle.spec_print.specs.Page.{puts}
use Rattle.spec_print.proofs.statements.+block.Given as goal

-- those from the next one on are left
abbrev pub invariant-statements-loop-stmt : goal.invariant-statements-loop-stmt
invariant-statements-loop-stmt l = (next : List Piece) → puts l.fn.page (stmts l.stmt-items next) ≡ puts l.page (stmts (drop l.stmt-index l.stmt-items) next)

abbrev pub invariant-all_cases-loop-case : goal.invariant-all_cases-loop-case
invariant-all_cases-loop-case l = (next : List Piece) → puts l.fn.page (cases l.case-items next) ≡ puts l.page (cases (drop l.case-index l.case-items) next)

abbrev pub invariant-all_arms-loop-arm : goal.invariant-all_arms-loop-arm
invariant-all_arms-loop-arm l = (next : List Piece) → puts l.fn.page (arms true l.arm-items next) ≡ puts l.page (arms l.is_first (drop l.arm-index l.arm-items) next)
