use Rattle.spec_model.proofs.Explanations.{explained_prefix}
use Rattle.spec_model.proofs.laws.verdicts.explained_prefix.Goals as goal

pub returns : goal.returns
returns c = explained_prefix
