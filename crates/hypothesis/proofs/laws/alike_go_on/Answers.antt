use Rattle.hypothesis.proofs.AlikeSkeletons.{skeletons_count, skeletons_move, skeletons_receive, skeletons_wait}
use Rattle.hypothesis.proofs.laws.alike_go_on.Goals as goal

pub returns-clause-moves : goal.returns-clause-moves
returns-clause-moves c = λ dual exchange skeleton other more is_dual explains alike goes_on.
    skeletons_move dual is_dual exchange skeleton other more explains alike goes_on

pub returns-clause-sends : goal.returns-clause-sends
returns-clause-sends c = λ dual exchange conn message skeleton other is_dual explains alike.
    skeletons_wait dual is_dual exchange conn message skeleton other explains alike

pub returns-clause-receives : goal.returns-clause-receives
returns-clause-receives c = λ dual exchange conn message skeleton other is_dual alike receives.
    skeletons_receive dual is_dual exchange conn message skeleton other alike receives

pub returns-clause-counts : goal.returns-clause-counts
returns-clause-counts c = λ dual exchange skeleton other is_dual explains alike conn. skeletons_count dual is_dual exchange skeleton other explains alike conn
