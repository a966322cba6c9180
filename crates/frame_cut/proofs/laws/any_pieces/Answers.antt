use Rattle.frame_cut.proofs.Streams.{pieces_cut, whole_cut}
use Rattle.frame_cut.proofs.laws.any_pieces.Goals as goal

pub returns : goal.returns
returns c shape pieces messages rest = (pieces_cut shape pieces messages rest, whole_cut shape pieces messages rest)
