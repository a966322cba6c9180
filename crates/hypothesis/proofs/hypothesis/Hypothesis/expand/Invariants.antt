use Rattle.std.proofs.Common.{take}
use Rattle.hypothesis.specs.Possible.{MakeAll}
use Rattle.hypothesis.proofs.hypothesis.Hypothesis.expand.Given as goal

-- what the events so far make
abbrev pub invariant-loop-event : goal.invariant-loop-event
invariant-loop-event l = MakeAll l.dual l.self (take l.event-index l.event-items) l.expansions
