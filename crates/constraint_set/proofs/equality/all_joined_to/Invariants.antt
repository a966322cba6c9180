use Rattle.std.proofs.Common.{◌≡◌, map, take}
use Rattle.constraint_set.specs.Solved.{joined_to}
use Rattle.constraint_set.proofs.equality.all_joined_to.Given as goal

abbrev pub invariant-loop-symbol : goal.invariant-loop-symbol
invariant-loop-symbol l = l.joined.items ≡ map (joined_to l.lesser l.greater l.alphabet) (take l.symbol-index l.symbols)
