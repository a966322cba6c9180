use Rattle.spec_model.proofs.Explanations.{explained_late}
use Rattle.spec_model.proofs.laws.verdicts.explained_late.Goals as goal

pub returns : goal.returns
returns c = explained_late
