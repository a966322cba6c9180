use Rattle.spec_check.proofs.WholeSpec.{crowded_none, crowded_some}
use Rattle.spec_check.proofs.whole.path_fault.Goals as goal

pub returns-in-None : goal.returns-in-None
returns-in-None c = crowded_none c.args.spec.now c.in-None.ensures.none

pub returns-in-Some : goal.returns-in-Some
returns-in-Some c = crowded_some c.args.spec.now c.in-Some.at c.in-Some.ensures.some.0 c.in-Some.ensures.some.1
