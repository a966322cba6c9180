use Rattle.std.proofs.Common.{◌≡◌, take}
use Rattle.spec_rules.specs.Names.{names_of_pattern}
use Rattle.spec_rules.proofs.names.names_of_pattern.Given as goal

-- the names so far
abbrev pub invariant-loop-item : goal.invariant-loop-item
invariant-loop-item l = l.names.items ≡ names_of_pattern (take l.item-index l.items)
