use Rattle.hypothesis.proofs.AlikeSkeletons.{alike_skeletons, skeletons_alike}
use Rattle.hypothesis.proofs.laws.alike_skeletons.Goals as goal

pub returns : goal.returns
returns c = λ dual exchange skeleton other h g is_dual stands other_stands. (
  skeletons_alike dual is_dual exchange h g skeleton other stands other_stands,
  alike_skeletons dual is_dual exchange h g skeleton other stands other_stands,
)
