use Rattle.spec_model.proofs.RunSteps.{run_front}
use Rattle.spec_model.proofs.laws.runs.run_prefix.Goals as goal

pub returns : goal.returns
returns c = run_front
