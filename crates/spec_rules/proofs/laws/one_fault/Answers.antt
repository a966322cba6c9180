use Rattle.spec_rules.proofs.Faults.{same_first}
use Rattle.spec_rules.proofs.laws.one_fault.Goals as goal

pub returns-clause-one : goal.returns-clause-one
returns-clause-one c = λ spec fault other at other_at first other_first. same_first spec fault other at other_at first other_first
