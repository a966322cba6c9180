use Rattle.std.proofs.Common.{refl}
use Rattle.model_examples.proofs.ComputedRun.{ends_where}
use Rattle.model_examples.proofs.Trees.{trees}
use Rattle.model_examples.proofs.patterns.num_with_a_leading_zero.Goals as goal

pub returns-clause-leading_zero : goal.returns-clause-leading_zero
unfolding trees
returns-clause-leading_zero c = refl

pub returns-clause-zero : goal.returns-clause-zero
unfolding trees
returns-clause-zero c = refl

pub returns-clause-no_digit : goal.returns-clause-no_digit
unfolding trees
returns-clause-no_digit c = refl

pub returns-clause-greatest : goal.returns-clause-greatest
unfolding trees
returns-clause-greatest c = refl

pub returns-clause-past_the_greatest : goal.returns-clause-past_the_greatest
unfolding trees
returns-clause-past_the_greatest c = refl

pub returns-clause-bound : goal.returns-clause-bound
unfolding trees
returns-clause-bound c = refl

pub returns-clause-falls_to_other : goal.returns-clause-falls_to_other
unfolding trees
returns-clause-falls_to_other c = ends_where refl refl
