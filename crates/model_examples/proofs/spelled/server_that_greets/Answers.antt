use Rattle.std.proofs.Common.{refl}
use Rattle.spec_model.specs.Canonical.{canonical}
use Rattle.model_examples.proofs.Trees.{trees}
use Rattle.model_examples.proofs.spelled.server_that_greets.Goals as goal

pub returns : goal.returns
unfolding trees canonical
returns c = refl
