use Rattle.std.proofs.Common.{◌≡◌, drop}
use Rattle.std.specs.List.{list_any}
use Rattle.spec_check.specs.Parts.{has_many_items}
use Rattle.spec_check.proofs.sizes.some_has_many_items.Given as goal

-- the cases that are left decide
abbrev pub invariant-loop-case : goal.invariant-loop-case
invariant-loop-case l = list_any has_many_items (drop l.case-index l.cases) ≡ list_any has_many_items l.cases
