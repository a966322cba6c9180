use Rattle.std.proofs.Common.{refl}
use Rattle.spec_model.specs.Canonical.{canonical}
use Rattle.model_examples.proofs.Trees.{trees}
use Rattle.model_examples.proofs.spelled.echo_server.Goals as goal

pub returns : goal.returns
unfolding trees canonical
returns c = refl
