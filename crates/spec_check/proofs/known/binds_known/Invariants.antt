use Rattle.std.proofs.Common.{◌≡◌, ◌++◌, take, drop}
use Rattle.spec_rules.specs.Names.{binds_known}
use Rattle.spec_check.proofs.known.binds_known.Given as goal

-- the names that are left decide, those before them being known too
abbrev pub invariant-loop-i : goal.invariant-loop-i
invariant-loop-i l = binds_known (l.known ++ take l.i l.bound) (drop l.i l.bound) ≡ binds_known l.known l.bound
