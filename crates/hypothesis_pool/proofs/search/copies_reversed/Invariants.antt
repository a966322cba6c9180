use Rattle.std.proofs.Common.{◌≡◌, take}
use Rattle.hypothesis_pool.proofs.search.copies_reversed.Given as goal

-- the copies so far, in order
abbrev pub invariant-loop-hypothesis : goal.invariant-loop-hypothesis
invariant-loop-hypothesis l = l.copies.items ≡ take l.hypothesis-index l.hypotheses
