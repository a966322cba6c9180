use Rattle.trail_store.proofs.Keeping.{IsKeptDownTo}
use Rattle.trail_store.proofs.keep.keep_whole.Given as goal

-- the step is kept, and what it goes on from, down to this number
abbrev pub invariant-loop-kept : goal.invariant-loop-kept
invariant-loop-kept l = IsKeptDownTo l.steps l.initial.kept l.step l.kept l.number

abbrev pub decreases-loop-kept : goal.decreases-loop-kept
decreases-loop-kept l = l.number
