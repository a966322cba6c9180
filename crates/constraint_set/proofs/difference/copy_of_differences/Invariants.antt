use Rattle.std.proofs.Common.{◌≡◌, take}
use Rattle.constraint_set.proofs.difference.copy_of_differences.Given as goal

abbrev pub invariant-loop-difference : goal.invariant-loop-difference
invariant-loop-difference l = l.copy.items ≡ take l.difference-index l.differences
