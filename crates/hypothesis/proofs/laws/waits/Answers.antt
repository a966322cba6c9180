use Rattle.hypothesis.proofs.AlikeSkeletons.{stands_waits}
use Rattle.hypothesis.proofs.laws.waits.Goals as goal

pub returns : goal.returns
returns c = λ dual exchange conn message skeleton h is_dual stands. stands_waits dual is_dual exchange conn message skeleton h stands
