use Rattle.std.proofs.Common.{◌≡◌, ◌++◌, drop, map, slice_index, take}
use Rattle.trail_store.proofs.keep.renumber.Given as goal

-- the first numbers are written
abbrev pub invariant-loop-step : goal.invariant-loop-step
invariant-loop-step l = l.steps ≡ map (slice_index l.numbers) (take l.step-index l.initial.steps) ++ drop l.step-index l.initial.steps
