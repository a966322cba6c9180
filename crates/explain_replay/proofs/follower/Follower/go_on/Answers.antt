use Rattle.explain_replay.proofs.Following.{goes_on, may_go_on}
use Rattle.explain_replay.proofs.follower.Follower.go_on.Goals as goal

pub returns-in-Ok : goal.returns-in-Ok
returns-in-Ok c =
    goes_on c.args.self.now c.next_event.new.self c.args.mark c.in_ok-event.field-0 c.in_ok-event.ensures.next c.in_ok-event.ensures.server
    c.in-Some.event c.step.new.self c.in-Some.is c.in-Ok.ensures.spec c.in-Ok.ensures.ok

pub returns-in-Err-NotAllowed : goal.returns-in-Err-NotAllowed
returns-in-Err-NotAllowed c =
    may_go_on c.args.self.now c.next_event.new.self c.args.mark c.in_ok-event.field-0 c.in_ok-event.ensures.next c.in_ok-event.ensures.server
    c.in-Some.event _ c.in-Some.is (c.in-Err-NotAllowed.ensures.not_allowed c.in-Err-NotAllowed.field-0-is)
