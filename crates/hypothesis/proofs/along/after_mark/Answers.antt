use Rattle.hypothesis.proofs.FollowedMarks.{expansion_by}
use Rattle.hypothesis.proofs.along.after_mark.Goals as goal

pub returns : goal.returns
returns c exchange skeleton picks_nothing holds stands explains =
    expansion_by c.args.dual.now exchange skeleton c.args.hypothesis.now c.in_ok-expansions.expansions.items c.args.mark
    (c.in_ok-expansions.ensures exchange skeleton picks_nothing holds stands) explains c.made_by.result c.made_by.ensures
