use Rattle.std.proofs.Common.{◌≡◌, drop}
use Rattle.std.specs.List.{list_any}
use Rattle.spec_check.proofs.values.some_passes.Given as goal

-- the values that are left decide
abbrev pub invariant-loop-value : goal.invariant-loop-value
invariant-loop-value g l = list_any (g.T.ValueTest.passes l.test) (drop l.value-index l.values) ≡ list_any (g.T.ValueTest.passes l.test) l.values
