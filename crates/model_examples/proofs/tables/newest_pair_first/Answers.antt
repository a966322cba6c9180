use Rattle.std.proofs.Common.{refl}
use Rattle.model_examples.proofs.ComputedRun.{ends_where}
use Rattle.model_examples.proofs.Trees.{trees}
use Rattle.model_examples.proofs.tables.newest_pair_first.Goals as goal

pub returns-clause-put : goal.returns-clause-put
unfolding trees
returns-clause-put c = ends_where refl refl

pub returns-clause-renewed : goal.returns-clause-renewed
unfolding trees
returns-clause-renewed c = ends_where refl refl

pub returns-clause-removed : goal.returns-clause-removed
unfolding trees
returns-clause-removed c = ends_where refl refl
