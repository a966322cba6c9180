use Rattle.std.proofs.Common.{◌≡◌, drop}
use Rattle.std.specs.List.{list_any}
use Rattle.spec_check.specs.Parts.{has_long_items}
use Rattle.spec_check.proofs.values.cases_are_long.Given as goal

-- the cases that are left decide
abbrev pub invariant-loop-case : goal.invariant-loop-case
invariant-loop-case l = list_any has_long_items (drop l.case-index l.cases) ≡ list_any has_long_items l.cases
