use Rattle.std.proofs.Common.{◌≡◌, drop}
use Rattle.spec_model.specs.Step.{chosen_case}
use Rattle.server_run.proofs.cases.chosen_case.Given as goal

abbrev pub invariant-loop-case : goal.invariant-loop-case
invariant-loop-case l = chosen_case (drop l.case-index l.cases) l.other l.block l.message ≡ chosen_case l.cases l.other l.block l.message
