use Rattle.std.proofs.Common.{refl}
use Rattle.model_examples.proofs.ComputedRun.{ends_where}
use Rattle.model_examples.proofs.Trees.{trees}
use Rattle.model_examples.proofs.statements.numbers.Goals as goal

pub returns-clause-one_less_than_the_greatest : goal.returns-clause-one_less_than_the_greatest
unfolding trees
returns-clause-one_less_than_the_greatest c = ends_where refl refl

pub returns-clause-else_block : goal.returns-clause-else_block
unfolding trees
returns-clause-else_block c = ends_where refl refl

pub returns-clause-sent_in_decimal : goal.returns-clause-sent_in_decimal
unfolding trees
returns-clause-sent_in_decimal c = ends_where refl refl
