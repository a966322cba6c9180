use Rattle.explain_replay.proofs.replay.follows.Goals as goal

pub returns-in-Err-NotAllowed-clause-ends : goal.returns-in-Err-NotAllowed-clause-ends
returns-in-Err-NotAllowed-clause-ends c new steps =
    let step = rw c.in-Server.is at steps in
    c.in-Err-NotAllowed.ensures.not_allowed c.in-Err-NotAllowed.field-0-is step.0 step.1
