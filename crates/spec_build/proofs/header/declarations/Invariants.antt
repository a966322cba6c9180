use Rattle.std.proofs.Common.{◌≡◌, ◌-◌}
use Rattle.spec_build.specs.Whole.{declarations, declarations_from}
use Rattle.spec_build.proofs.header.declarations.Given as goal

-- what is read in all turns is read in those that are left
abbrev pub invariant-loop-turn : goal.invariant-loop-turn
invariant-loop-turn l = declarations l.fn.tokens ≡ declarations_from l.decls (l._turn-end - l._turn) l.tokens
