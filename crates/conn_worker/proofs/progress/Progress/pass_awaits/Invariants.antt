use Rattle.std.proofs.Common.{◌-◌, length}
use Rattle.conn_worker.specs.Parts.{PassesSome}
use Rattle.conn_worker.proofs.progress.Progress.pass_awaits.Given as goal

-- only met awaits were passed so far
abbrev pub invariant-loop-self : goal.invariant-loop-self
invariant-loop-self l = PassesSome l.initial.self l.self

-- the actions left
abbrev pub decreases-loop-self : goal.decreases-loop-self
decreases-loop-self l = length l.self.actions - l.self.passed
