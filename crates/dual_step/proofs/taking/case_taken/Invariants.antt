use Rattle.std.proofs.Common.{◌≡◌, drop}
use Rattle.itree_data.specs.Step.{case_taken}
use Rattle.dual_step.proofs.taking.case_taken.Given as goal

abbrev pub invariant-loop-case : goal.invariant-loop-case
invariant-loop-case l = case_taken l.fn.locals (drop l.case-index l.cases) l.other l.next l.message ≡ case_taken l.fn.locals l.cases l.other l.next l.message
