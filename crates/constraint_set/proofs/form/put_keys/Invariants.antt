use Rattle.std.proofs.Common.{◌≡◌, ◌++◌, flat_map, take}
use Rattle.constraint_set.specs.Form.{packed}
use Rattle.constraint_set.proofs.form.put_keys.Given as goal

abbrev pub invariant-loop-key : goal.invariant-loop-key
invariant-loop-key l = l.out.items ≡ l.initial.out.items ++ flat_map packed (take l.key-index l.keys)
