use Rattle.std.proofs.Common.{drop}
use Rattle.spec_check.specs.Least.{IsFirstBut, IsListedAt}
use Rattle.spec_check.proofs.found.first_listed.Given as goal

-- what was found is the first but for the tests that are left
abbrev pub invariant-loop-tested : goal.invariant-loop-tested
invariant-loop-tested l = IsFirstBut (IsListedAt (drop l.tested-index l.tests) l.at) (IsListedAt l.tests l.at) l.found
