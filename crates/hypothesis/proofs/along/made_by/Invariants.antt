use Rattle.std.specs.List.{Any}
use Rattle.hypothesis.specs.Along.{IsMadeBy}
use Rattle.hypothesis.proofs.along.made_by.Given as goal

-- none so far was made by the mark
abbrev pub invariant-loop-hypothesis : goal.invariant-loop-hypothesis
invariant-loop-hypothesis l = ¬ Any (IsMadeBy l.mark) l.yielded
