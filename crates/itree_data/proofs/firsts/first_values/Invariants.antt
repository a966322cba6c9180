use Rattle.std.proofs.Common.{◌≡◌, take}
use Rattle.itree_data.specs.Fields.{first_values}
use Rattle.itree_data.proofs.firsts.first_values.Given as goal

-- the first values so far
abbrev pub invariant-loop-decl : goal.invariant-loop-decl
invariant-loop-decl l = l.firsts ≡ first_values (take l.decl-index l.decls)
