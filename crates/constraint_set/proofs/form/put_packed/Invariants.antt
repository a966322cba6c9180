use Rattle.std.proofs.Common.{◌≡◌, ◌++◌, flat_map, take}
use Rattle.constraint_set.specs.Form.{packed_byte}
use Rattle.constraint_set.proofs.form.put_packed.Given as goal

abbrev pub invariant-loop-byte : goal.invariant-loop-byte
invariant-loop-byte l = l.out.items ≡ l.initial.out.items ++ flat_map packed_byte (take l.byte-index l.text)
