use Rattle.std.proofs.Common.{refl}
use Rattle.model_examples.proofs.Trees.{trees}
use Rattle.model_examples.proofs.patterns.matched_without_going_back.Goals as goal

pub returns-clause-longest_word : goal.returns-clause-longest_word
unfolding trees
returns-clause-longest_word c = refl

pub returns-clause-longest_number : goal.returns-clause-longest_number
unfolding trees
returns-clause-longest_number c = refl

pub returns-clause-no_word : goal.returns-clause-no_word
unfolding trees
returns-clause-no_word c = refl

pub returns-clause-no_rest : goal.returns-clause-no_rest
unfolding trees
returns-clause-no_rest c = refl

pub returns-clause-not_used_up : goal.returns-clause-not_used_up
unfolding trees
returns-clause-not_used_up c = refl
