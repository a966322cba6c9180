use Rattle.dualtest_main.specs.declared.replay_fault.ReplayFault.TheVariants as faults
use Rattle.dualtest_main.specs.Outcome.{explained, refused}
use Rattle.dualtest_main.proofs.Answered.{if_answered}
use Rattle.dualtest_main.proofs.replay.replay.Goals as goal

pub returns-in_ok-replayed-in-Ok : goal.returns-in_ok-replayed-in-Ok
returns-in_ok-replayed-in-Ok c = rw c.in_ok-replayed-in-Ok.ensures (explained c.in-Ok.ensures.ok)

pub returns-in-Err-NotLegal : goal.returns-in-Err-NotLegal
returns-in-Err-NotLegal c =
    let is_refused = rw c.in-Err-NotLegal.field-0-is at c.in-Err-NotLegal.ensures.refused in
    if_answered c.refused.result _ _ (λ answer says. rw (says.0, says.1) (refused faults.NotLegal c.in-Err-NotLegal.place is_refused)) c.refused.ensures

pub returns-in-Err-NotServer : goal.returns-in-Err-NotServer
returns-in-Err-NotServer c =
    let is_refused = rw c.in-Err-NotServer.field-0-is at c.in-Err-NotServer.ensures.refused in
    if_answered c.refused-in-Err-NotServer.result _ _
    (λ answer says. rw (says.0, says.1) (refused faults.NotServer c.in-Err-NotServer.place is_refused)) c.refused-in-Err-NotServer.ensures

pub returns-in-Err-NotExchange : goal.returns-in-Err-NotExchange
returns-in-Err-NotExchange c =
    let is_refused = rw c.in-Err-NotExchange.field-0-is at c.in-Err-NotExchange.ensures.refused in
    if_answered c.refused-in-Err-NotExchange.result _ _
    (λ answer says. rw (says.0, says.1) (refused faults.NotExchange c.in-Err-NotExchange.place is_refused)) c.refused-in-Err-NotExchange.ensures
