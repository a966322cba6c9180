use Rattle.std.proofs.Common.{◌≡◌, ◌+◌, drop, false}
use Rattle.exchange_text.specs.LooseReading.{quoted_length}
use Rattle.exchange_text.proofs.part_line.quoted_length.Given as goal

abbrev pub invariant-loop-place : goal.invariant-loop-place
invariant-loop-place l = l.place + quoted_length l.is_escaped (drop l.place l.bytes) ≡ quoted_length false l.bytes
