use Rattle.std.proofs.Common.{◌≡◌, None, replicate}
use Rattle.constraint_set.proofs.form.no_places.Given as goal

abbrev pub invariant-loop-symbol : goal.invariant-loop-symbol
invariant-loop-symbol l = l.places.items ≡ replicate l._symbol-index None
