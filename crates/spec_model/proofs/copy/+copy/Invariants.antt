use Rattle.std.proofs.Common.{◌≡◌, take}
use Rattle.spec_model.proofs.copy.+copy.Given as goal

-- the arms, statements or cases copied so far
abbrev pub invariant-copy_arms-loop-arm : goal.invariant-copy_arms-loop-arm
invariant-copy_arms-loop-arm l = l.copies ≡ take l.arm-index l.arm-items

abbrev pub invariant-copy_block-loop-stmt : goal.invariant-copy_block-loop-stmt
invariant-copy_block-loop-stmt l = l.stmts ≡ take l.stmt-index l.stmt-items

abbrev pub invariant-copy_cases-loop-case : goal.invariant-copy_cases-loop-case
invariant-copy_cases-loop-case l = l.copies ≡ take l.case-index l.case-items
