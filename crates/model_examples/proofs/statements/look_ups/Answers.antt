use Rattle.std.proofs.Common.{refl}
use Rattle.model_examples.proofs.ComputedRun.{ends_where}
use Rattle.model_examples.proofs.Trees.{trees}
use Rattle.model_examples.proofs.statements.look_ups.Goals as goal

pub returns-clause-put_where_missing : goal.returns-clause-put_where_missing
unfolding trees
returns-clause-put_where_missing c = ends_where refl refl

pub returns-clause-taken_and_sent : goal.returns-clause-taken_and_sent
unfolding trees
returns-clause-taken_and_sent c = ends_where refl (refl, refl)

pub returns-clause-removed_where_found : goal.returns-clause-removed_where_found
unfolding trees
returns-clause-removed_where_found c = ends_where refl refl
