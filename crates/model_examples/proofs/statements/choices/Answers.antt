use Rattle.std.proofs.Common.{◌∷◌, ◌++◌, [], true, false, refl}
use Rattle.model_examples.specs.Events.{take, test, arm}
use Rattle.model_examples.specs.EveryKind.{every_kind}
use Rattle.model_examples.specs.EveryKindRuns.{started}
use Rattle.model_examples.proofs.ComputedRun.{ends_where, is_no_run}
use Rattle.model_examples.proofs.Trees.{trees}
use Rattle.model_examples.proofs.statements.choices.Goals as goal

pub returns-clause-first_arm : goal.returns-clause-first_arm
unfolding trees
returns-clause-first_arm c = ends_where refl refl

pub returns-clause-second_arm : goal.returns-clause-second_arm
unfolding trees
returns-clause-second_arm c = ends_where refl refl

pub returns-clause-third_arm : goal.returns-clause-third_arm
unfolding trees
returns-clause-third_arm c = ends_where refl refl

pub returns-clause-no_fourth_arm : goal.returns-clause-no_fourth_arm
unfolding trees
returns-clause-no_fourth_arm c = is_no_run every_kind _ (started ++ take 1 "two words" ∷ take 0 "go" ∷ test true ∷ test false ∷ arm 3 ∷ []) refl refl

pub returns-clause-only_from_that_connection : goal.returns-clause-only_from_that_connection
unfolding trees
returns-clause-only_from_that_connection c = is_no_run every_kind _ (started ++ take 1 "two words" ∷ take 1 "go" ∷ []) refl refl

pub returns-clause-where_does_not_fail : goal.returns-clause-where_does_not_fail
unfolding trees
returns-clause-where_does_not_fail c = is_no_run every_kind _ (started ++ take 1 "stop now" ∷ take 0 "go" ∷ test false ∷ []) refl refl

pub returns-clause-where_does_not_hold : goal.returns-clause-where_does_not_hold
unfolding trees
returns-clause-where_does_not_hold c = is_no_run every_kind _ (started ++ take 1 "stop now" ∷ take 0 "go" ∷ test true ∷ []) refl refl
