use Rattle.dual_tree.specs.Dual.{tree_of}
use Rattle.dual_step.specs.Left.{work_left}
use Rattle.dual_step.specs.State.{standing_of}
use Rattle.dual_step.proofs.SilentWork.{Continues}
use Rattle.dual_step.proofs.silent.settled.Given as goal

-- what ends the work that is left ends all of it
abbrev pub invariant-loop-now : goal.invariant-loop-now
invariant-loop-now l = Continues (tree_of l.dual) (standing_of l.fn.state) (standing_of l.now)

abbrev pub decreases-loop-now : goal.decreases-loop-now
decreases-loop-now l = work_left (tree_of l.dual) (standing_of l.now)
