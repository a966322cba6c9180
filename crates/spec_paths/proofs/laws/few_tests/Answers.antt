use Rattle.spec_paths.proofs.RunTests.{few_by_takes, few_in_all, few_without_take}
use Rattle.spec_paths.proofs.laws.few_tests.Goals as goal

pub returns-clause-without_take : goal.returns-clause-without_take
returns-clause-without_take c = few_without_take

pub returns-clause-by_takes : goal.returns-clause-by_takes
returns-clause-by_takes c = few_by_takes

pub returns-clause-in_all : goal.returns-clause-in_all
returns-clause-in_all c = few_in_all
