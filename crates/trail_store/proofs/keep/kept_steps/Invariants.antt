use Rattle.trail_store.specs.Keep.{IsRenumbered}
use Rattle.trail_store.proofs.keep.kept_steps.Given as goal

-- the steps so far are renumbered
abbrev pub invariant-loop-below : goal.invariant-loop-below
invariant-loop-below l = IsRenumbered l.steps l.kept l.below l.left.items l.numbers.items
