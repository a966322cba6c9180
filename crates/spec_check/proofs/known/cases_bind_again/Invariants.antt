use Rattle.std.proofs.Common.{◌≡◌, drop}
use Rattle.std.specs.List.{list_any}
use Rattle.spec_check.specs.Parts.{case_binds_again}
use Rattle.spec_check.proofs.known.cases_bind_again.Given as goal

-- the cases that are left decide
abbrev pub invariant-loop-case : goal.invariant-loop-case
invariant-loop-case l = list_any (case_binds_again l.known l.chan) (drop l.case-index l.cases) ≡ list_any (case_binds_again l.known l.chan) l.cases
