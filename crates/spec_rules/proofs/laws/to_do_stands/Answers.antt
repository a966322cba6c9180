use Rattle.spec_rules.proofs.Standing.{run_to_do}
use Rattle.spec_rules.proofs.laws.to_do_stands.Goals as goal

pub returns : goal.returns
returns c = λ spec events reached run. run_to_do spec events reached run
