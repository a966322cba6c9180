use Rattle.spec_model.proofs.KeptSkeletons as skeletons
use Rattle.spec_model.proofs.laws.network.none_begins_another.Goals as goal

pub returns : goal.returns
returns c = skeletons.none_begins_another
