use Rattle.std.proofs.Common.{take}
use Rattle.trail_store.specs.Keep.{AreReached}
use Rattle.trail_store.proofs.keep.keep_given.Given as goal

-- the given steps so far are kept
abbrev pub invariant-loop-number : goal.invariant-loop-number
invariant-loop-number l = AreReached l.steps (take l.number-index l.given) l.kept
