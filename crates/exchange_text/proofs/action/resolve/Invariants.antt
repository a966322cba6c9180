use Rattle.std.proofs.Common.{◌≡◌, take}
use Rattle.exchange_text.specs.Resolved.{resolved}
use Rattle.exchange_text.proofs.action.resolve.Given as goal

abbrev pub invariant-loop-part : goal.invariant-loop-part
invariant-loop-part l = l.message.items ≡ resolved (take l.part-index l.parts) l.receipts
