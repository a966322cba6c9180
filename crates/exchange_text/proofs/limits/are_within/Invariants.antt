use Rattle.std.proofs.Common.{◌≡◌, ◌+◌, take, sum_by}
use Rattle.exchange_text.specs.Actions.{length_of}
use Rattle.exchange_text.proofs.limits.are_within.Given as goal

abbrev pub invariant-loop-part : goal.invariant-loop-part
invariant-loop-part l = l.room + sum_by length_of (take l.part-index l.parts) ≡ l.fn.limit
