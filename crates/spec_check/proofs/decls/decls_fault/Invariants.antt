use Rattle.spec_check.specs.Decls.{IsBadDecl}
use Rattle.spec_check.specs.Least.{IsFirstBut}
use Rattle.spec_check.proofs.decls.decls_fault.Given as goal

-- what was found is the first but for the declarations that are left
abbrev pub invariant-loop-i : goal.invariant-loop-i
invariant-loop-i l = IsFirstBut (IsBadDecl l.conns l.decls l.i) (IsBadDecl l.conns l.decls 0) l.found
