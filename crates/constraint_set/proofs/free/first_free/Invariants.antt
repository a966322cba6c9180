use Rattle.std.proofs.Common.{◌≡◌, ◌-◌, length}
use Rattle.constraint_set.specs.Characters.{text_numbered}
use Rattle.constraint_set.specs.Free.{first_free, free_from}
use Rattle.constraint_set.proofs.free.first_free.Given as goal

abbrev pub invariant-loop-number : goal.invariant-loop-number
invariant-loop-number l = first_free l.framing l.alphabet l.len l.taken ≡ free_from (text_numbered l.framing l.alphabet l.len) l.taken (length l.taken - l.number) l.number
