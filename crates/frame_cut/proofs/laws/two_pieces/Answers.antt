use Rattle.frame_cut.proofs.Fronts.{garbled_longer}
use Rattle.frame_cut.proofs.Streams.{cuts_joined, cuts_none}
use Rattle.frame_cut.proofs.laws.two_pieces.Goals as goal

pub returns-clause-joins : goal.returns-clause-joins
returns-clause-joins c = cuts_joined

pub returns-clause-garbled : goal.returns-clause-garbled
returns-clause-garbled c shape bytes more garbled =
    let longer = garbled_longer shape bytes more garbled in
    (longer, cuts_none shape _ longer.no_frame)
