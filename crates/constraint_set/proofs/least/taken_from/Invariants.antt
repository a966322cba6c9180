use Rattle.std.proofs.Common.{◌≡◌, take}
use Rattle.constraint_set.specs.Least.{taken_from}
use Rattle.constraint_set.proofs.least.taken_from.Given as goal

abbrev pub invariant-loop-difference : goal.invariant-loop-difference
invariant-loop-difference l = l.taken.items ≡ taken_from l.symbols (take l.difference-index l.differences) l.texts l.number
