use Rattle.std.proofs.Common.{◌∷◌, ◌++◌, [], false, refl}
use Rattle.model_examples.specs.Events.{take, test}
use Rattle.model_examples.specs.Store.{store}
use Rattle.model_examples.specs.TableRuns.{two_keys_put}
use Rattle.model_examples.proofs.ComputedRun.{ends_where, is_no_run}
use Rattle.model_examples.proofs.Trees.{trees}
use Rattle.model_examples.proofs.tables.look_up_half_done.Goals as goal

pub returns-clause-half_done : goal.returns-clause-half_done
unfolding trees
returns-clause-half_done c = ends_where refl refl

pub returns-clause-found : goal.returns-clause-found
unfolding trees
returns-clause-found c = ends_where refl refl

pub returns-clause-not_passed : goal.returns-clause-not_passed
unfolding trees
returns-clause-not_passed c = is_no_run store _ (two_keys_put ++ take 1 "GET a" ∷ test false ∷ test false ∷ []) refl refl

pub returns-clause-missing : goal.returns-clause-missing
unfolding trees
returns-clause-missing c = ends_where refl refl
