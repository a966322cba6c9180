use Rattle.std.proofs.Common.{◌≡◌, take}
use Rattle.spec_rules.specs.Names.{names_declared}
use Rattle.spec_check.proofs.known.names_declared.Given as goal

-- the names so far
abbrev pub invariant-loop-decl : goal.invariant-loop-decl
invariant-loop-decl l = l.names.items ≡ names_declared (take l.decl-index l.decls)
