use Rattle.std.proofs.Common.{refl}
use Rattle.model_examples.proofs.Trees.{trees}
use Rattle.model_examples.proofs.patterns.first_case_that_fits.Goals as goal

pub returns-clause-first : goal.returns-clause-first
unfolding trees
returns-clause-first c = refl

pub returns-clause-other : goal.returns-clause-other
unfolding trees
returns-clause-other c = refl
