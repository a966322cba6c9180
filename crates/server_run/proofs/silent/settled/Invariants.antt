use Rattle.server_run.proofs.Settling.{Continues, work_left}
use Rattle.server_run.specs.State.{config_of}
use Rattle.server_run.proofs.silent.settled.Given as goal

-- what ends the work that is left ends all of it
abbrev pub invariant-loop-now : goal.invariant-loop-now
invariant-loop-now l = Continues l.spec (config_of l.fn.state) (config_of l.now)

abbrev pub decreases-loop-now : goal.decreases-loop-now
decreases-loop-now l = work_left l.spec (config_of l.now)
