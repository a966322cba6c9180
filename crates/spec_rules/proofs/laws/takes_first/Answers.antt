use Rattle.spec_rules.proofs.Standing.{begins}
use Rattle.spec_rules.proofs.laws.takes_first.Goals as goal

pub returns : goal.returns
returns c = λ spec accepted. begins spec accepted
