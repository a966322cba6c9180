use Rattle.std.proofs.Common.{sym}
use Rattle.conn_worker.proofs.Lists.{item_of_all}
use Rattle.exchange_text.proofs.ResolvedMessages.{resolved_is_message}
use Rattle.exchange_text.specs.Actions.{IsAction}
use Rattle.conn_worker.proofs.progress.Progress.due_message.Goals as goal

pub returns-in_ok-message-in-Some-Send-clause-message : goal.returns-in_ok-message-in-Some-Send-clause-message
returns-in_ok-message-in-Some-Send-clause-message c =
    let next = rw (← c.self.view_is) at c.in-Some-Send.ensures in
    let action = item_of_all (IsAction c.self.inside.shape) c.self.inside.actions.items c.self.inside.passed _ c.self.invariant.actions.each (sym next) in
    let parts = rw c.in-Some-Send.field-0-is at action in
    rw (← c.self.view_is, c.in_ok-message-in-Some-Send.ensures, c.as_slice.ensures, c.as_slice-in-Some-Send.ensures.value)
    (resolved_is_message c.self.inside.shape c.in-Some-Send.parts c.self.inside.receipts.items parts c.self.invariant.receipts)
