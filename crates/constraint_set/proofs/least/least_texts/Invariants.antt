use Rattle.std.proofs.Common.{◌≡◌}
use Rattle.constraint_set.specs.Least.{first_texts}
use Rattle.constraint_set.proofs.least.least_texts.Given as goal

abbrev pub invariant-loop-symbol : goal.invariant-loop-symbol
invariant-loop-symbol l = l.texts.items ≡ first_texts l.framing l.symbols l.differences l.symbol-index
