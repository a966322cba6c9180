use Rattle.std.proofs.Common.{◌≡◌, drop}
use Rattle.spec_rules.specs.Bad.{is_declared_again}
use Rattle.spec_check.proofs.decls.is_declared_again.Given as goal

-- the declarations that are left decide
abbrev pub invariant-loop-other : goal.invariant-loop-other
invariant-loop-other l = is_declared_again (drop l.other-index l.before) l.decl ≡ is_declared_again l.before l.decl
