use Rattle.spec_model.proofs.Explanations.{legal_prefix}
use Rattle.spec_model.proofs.laws.verdicts.legal_prefix.Goals as goal

pub returns : goal.returns
returns c = legal_prefix
