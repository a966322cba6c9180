use Rattle.std.proofs.Common.{refl}
use Rattle.model_examples.proofs.ComputedRun.{ends_where}
use Rattle.model_examples.proofs.Trees.{trees}
use Rattle.model_examples.proofs.statements.start.Goals as goal

pub returns : goal.returns
unfolding trees
returns c = ends_where refl refl
