use Rattle.std.proofs.Common.{refl}
use Rattle.model_examples.proofs.ComputedWorld.{explains}
use Rattle.model_examples.proofs.Trees.{trees}
use Rattle.model_examples.proofs.explained.one_echo.Goals as goal

pub returns : goal.returns
unfolding trees
returns c = explains refl refl refl
