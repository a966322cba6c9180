use Rattle.std.proofs.Common.{refl}
use Rattle.model_examples.proofs.Trees.{trees}
use Rattle.model_examples.proofs.values.alphabets.Goals as goal

pub returns-clause-hex : goal.returns-clause-hex
unfolding trees
returns-clause-hex c = refl

pub returns-clause-not_hex : goal.returns-clause-not_hex
unfolding trees
returns-clause-not_hex c = (refl, refl)

pub returns-clause-alnum : goal.returns-clause-alnum
unfolding trees
returns-clause-alnum c = refl

pub returns-clause-not_alnum : goal.returns-clause-not_alnum
unfolding trees
returns-clause-not_alnum c = (refl, refl, refl, refl)

pub returns-clause-any : goal.returns-clause-any
unfolding trees
returns-clause-any c = refl

pub returns-clause-not_any : goal.returns-clause-not_any
unfolding trees
returns-clause-not_any c = (refl, refl)

pub returns-clause-exact_length : goal.returns-clause-exact_length
unfolding trees
returns-clause-exact_length c = (refl, refl)
