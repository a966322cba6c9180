use Rattle.std.proofs.Common.{refl, arith}
use Rattle.std.proofs.lemmas.List.{take_all}
use Rattle.exchange_text.proofs.exchange.write_exchange.Goals as goal

pub returns : goal.returns
returns c =
    rw (c.in_ok-extend_from_slice.ensures.items, c.loop-event.invariant, take_all c.loop-event.event-index c.args.exchange.now (omega arith)) refl
