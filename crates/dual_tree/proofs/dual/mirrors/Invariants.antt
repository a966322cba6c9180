use Rattle.std.proofs.Common.{◌≡◌, map}
use Rattle.dual_tree.specs.Dual.{mirrored}
use Rattle.dual_tree.proofs.dual.mirrors.Given as goal

-- the mirrors so far
abbrev pub invariant-loop-node : goal.invariant-loop-node
invariant-loop-node l = map mirrored l.duals ≡ l.yielded
