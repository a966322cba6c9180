use Rattle.std.proofs.Common.{◌≡◌, map, take}
use Rattle.constraint_set.specs.Solved.{bound_to}
use Rattle.constraint_set.proofs.equality.all_bound_to.Given as goal

abbrev pub invariant-loop-symbol : goal.invariant-loop-symbol
invariant-loop-symbol l = l.bound.items ≡ map (bound_to l.number l.text) (take l.symbol-index l.symbols)
