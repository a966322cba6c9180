use Rattle.spec_model.proofs.RunSteps.{runs_to_once}
use Rattle.spec_model.proofs.laws.runs.one_end.Goals as goal

pub returns : goal.returns
returns c = runs_to_once
