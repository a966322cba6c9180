use Rattle.std.proofs.Common.{◌≡◌, take}
use Rattle.constraint_set.proofs.equality.copy_of_symbols.Given as goal

abbrev pub invariant-loop-symbol : goal.invariant-loop-symbol
invariant-loop-symbol l = l.copy.items ≡ take l.symbol-index l.symbols
