use Rattle.spec_model.proofs.SilentWork.{silent_work_ends}
use Rattle.spec_model.proofs.RunSteps.{settles_once}
use Rattle.spec_model.proofs.laws.runs.silent_work.Goals as goal

pub returns-clause-one : goal.returns-clause-one
returns-clause-one c = settles_once

pub returns-clause-ends : goal.returns-clause-ends
returns-clause-ends c = silent_work_ends
