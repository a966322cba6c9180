use Rattle.std.proofs.Common.{◌≡◌, length}
use Rattle.exchange_text.proofs.PartLines.{HaveRead}
use Rattle.exchange_text.proofs.part_line.parts_of.Given as goal

abbrev pub invariant-loop : goal.invariant-loop
invariant-loop l = HaveRead l.bytes l.parts l.rest × (length l.parts ≡ l.counter)
