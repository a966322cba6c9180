use Rattle.spec_model.proofs.Explanations.{rejected_once, rejected_not_explained}
use Rattle.spec_model.proofs.laws.verdicts.one_rejection.Goals as goal

pub returns-clause-one : goal.returns-clause-one
returns-clause-one c = rejected_once

pub returns-clause-unexplained : goal.returns-clause-unexplained
returns-clause-unexplained c = rejected_not_explained
