use Rattle.std.proofs.Common.{◌≡◌, ◌++◌, drop, take}
use Rattle.hypothesis_pool.specs.Thinning.{with_steps}
use Rattle.hypothesis_pool.proofs.thin.set_steps.Given as goal

-- those so far have their steps, and the others are as they were
abbrev pub invariant-loop-place : goal.invariant-loop-place
invariant-loop-place l = l.hypotheses ≡ with_steps l.initial.hypotheses (take l.place l.steps) ++ drop l.place l.initial.hypotheses
