use Rattle.std.proofs.Common.{◌≡◌, map, take}
use Rattle.hypothesis.specs.declared.hypothesis.Hypothesis.{Hypothesis}
use Rattle.hypothesis_pool.proofs.thin.steps_of.Given as goal

-- the steps of the hypotheses so far
abbrev pub invariant-loop-hypothesis : goal.invariant-loop-hypothesis
invariant-loop-hypothesis l = l.steps.items ≡ map (λ (h : Hypothesis). h.step) (take l.hypothesis-index l.hypotheses)
