use Rattle.frame_cut.proofs.Answered.{one_answer}
use Rattle.frame_cut.proofs.laws.one_answer.Goals as goal

pub returns : goal.returns
returns c = one_answer
