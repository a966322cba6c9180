use Rattle.std.proofs.Common.{◌∷◌, [], false, refl}
use Rattle.model_examples.specs.Events.{pick, send, take, test}
use Rattle.model_examples.specs.Tokens.{tokens}
use Rattle.model_examples.proofs.ComputedRun.{is_no_run}
use Rattle.model_examples.proofs.ComputedWorld.{explains}
use Rattle.model_examples.proofs.Trees.{trees}
use Rattle.model_examples.proofs.explained.pick_never_seen.Goals as goal

pub returns-clause-explained : goal.returns-clause-explained
unfolding trees
returns-clause-explained c = explains refl refl refl

pub returns-clause-not_the_least_of_all : goal.returns-clause-not_the_least_of_all
unfolding trees
returns-clause-not_the_least_of_all c = is_no_run tokens _ (take 0 "new" ∷ pick "000000" ∷ send 0 "id 000000" ∷ take 1 "is 000000" ∷ test false ∷ []) refl refl
