use Rattle.std.proofs.Common.{refl}
use Rattle.model_examples.proofs.Trees.{trees}
use Rattle.model_examples.proofs.values.sums_and_differences.Goals as goal

pub returns-clause-greatest : goal.returns-clause-greatest
unfolding trees
returns-clause-greatest c = refl

pub returns-clause-past_the_greatest : goal.returns-clause-past_the_greatest
unfolding trees
returns-clause-past_the_greatest c = refl

pub returns-clause-difference : goal.returns-clause-difference
unfolding trees
returns-clause-difference c = refl

pub returns-clause-below_zero : goal.returns-clause-below_zero
unfolding trees
returns-clause-below_zero c = refl
