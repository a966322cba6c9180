use Rattle.std.proofs.Common.{◌≡◌, ◌+◌, [], ◌++◌, ◌∷◌, arith, drop, length, sym, take, ◌∙◌, ap}
use Rattle.std.proofs.lemmas.Grind.{common_steps}
use Rattle.std.proofs.lemmas.List.{length_push}
use Rattle.spec_model.specs.declared.event.ClientEvent.TheVariants as clients
use Rattle.spec_model.specs.World.{IsOfShape}
use Rattle.hypothesis.specs.Received.{with_receipt}
use Rattle.hypothesis_pool.specs.Pool.{rejection_of}
use Rattle.hypothesis_pool.proofs.Pools.{goes_on, open_stands, pool_longer, rejects_garbles, stays_rejected, waits}
use Rattle.hypothesis_pool.proofs.Renumbered.{stand_for_all_renumbered}
use Rattle.hypothesis_pool.proofs.pool.Pool.feed.Goals as goal

pub invariant_of-self-then-is_some : goal.invariant_of-self-then-is_some
invariant_of-self-then-is_some c =
    let pool = c.self.inside in
    let rejected = sym c.is_some.ensures ∙ c.if-is_some.true in
    let of_shape = rw (← c.self.view_is) at c.requires in
    rw (c.in_ok-push.ensures.events, c.in_ok-push.ensures.inbox, c.in_ok-copy.ensures)
    (stays_rejected pool.dual pool.seen.events.items pool.seen.inbox pool.trail pool.hypotheses.items c.args.event.now of_shape pool.rejected_at rejected c.self.invariant)

pub invariant_of-self-in-Sends : goal.invariant_of-self-in-Sends
invariant_of-self-in-Sends c =
    let pool = c.self.inside in
    let opens = sym c.is_some.ensures ∙ c.if-is_some.false in
    let is : c.args.event.now ≡ clients.Sends c.in-Sends.conn c.in-Sends.message = sym c.in_ok-copy.ensures ∙ c.in-Sends.is in
    let of_shape : IsOfShape pool.dual.shape (clients.Sends c.in-Sends.conn c.in-Sends.message) = rw is at (rw (← c.self.view_is) at c.requires) in
    rw (c.in_ok-push-in-Sends.ensures.events, c.in_ok-push-in-Sends.ensures.inbox)
    (waits pool.dual pool.seen.events.items pool.seen.inbox pool.trail pool.hypotheses.items c.in-Sends.conn c.in-Sends.message pool.rejected_at of_shape opens c.self.invariant)

pub invariant_of-self-in-Garbles : goal.invariant_of-self-in-Garbles
invariant_of-self-in-Garbles c =
    let pool = c.self.inside in
    let fed = pool.seen.events.items in
    let opens = sym c.is_some.ensures ∙ c.if-is_some.false in
    let is : c.args.event.now ≡ clients.Garbles c.in-Garbles.conn = sym c.in_ok-copy.ensures ∙ c.in-Garbles.is in
    let of_shape : IsOfShape pool.dual.shape (clients.Garbles c.in-Garbles.conn) = rw is at (rw (← c.self.view_is) at c.requires) in
    let at : c.len-in-Garbles.result ≡ length fed + 1
    = c.len-in-Garbles.ensures ∙ c.push-in-Garbles.new.self.events.ok.0 ∙ ap length c.in_ok-push-in-Garbles.ensures.events ∙ length_push fed (clients.Garbles c.in-Garbles.conn) in
    rw (c.in_ok-push-in-Garbles.ensures.events, c.in_ok-push-in-Garbles.ensures.inbox, at)
    (rejects_garbles pool.dual fed pool.seen.inbox pool.trail pool.hypotheses.items c.in-Garbles.conn pool.rejected_at of_shape opens c.self.invariant)

pub explain_receipt-requires-clause-stand : goal.explain_receipt-requires-clause-stand
explain_receipt-requires-clause-stand c =
    let pool = c.self.inside in
    let opens = sym c.is_some.ensures ∙ c.if-is_some.false in
    rw (c.make_room.ensures.events, c.deref.ensures.value)
    (open_stands pool.dual pool.seen.events.items pool.seen.inbox pool.trail pool.hypotheses.items pool.rejected_at opens c.self.invariant).0

pub invariant_of-self-in_err-found-in-Receives : goal.invariant_of-self-in_err-found-in-Receives
invariant_of-self-in_err-found-in-Receives c =
    let pool = c.self.inside in
    rw (c.make_room.ensures.events, c.make_room.ensures.inbox)
    (pool_longer pool.dual pool.seen.events.items pool.seen.inbox pool.trail pool.hypotheses.items c.explain_receipt.new.trail pool.rejected_at c.explain_receipt.ensures.trail
    c.self.invariant)

pub invariant_of-self-in_err-keep_thin-in-Receives : goal.invariant_of-self-in_err-keep_thin-in-Receives
invariant_of-self-in_err-keep_thin-in-Receives c =
    let pool = c.self.inside in
    rw (c.make_room.ensures.events, c.make_room.ensures.inbox, c.in_err-keep_thin-in-Receives.ensures.err)
    (pool_longer pool.dual pool.seen.events.items pool.seen.inbox pool.trail pool.hypotheses.items c.explain_receipt.new.trail pool.rejected_at c.explain_receipt.ensures.trail
    c.self.invariant)

pub invariant_of-self-in-Receives : goal.invariant_of-self-in-Receives
invariant_of-self-in-Receives c =
    let pool = c.self.inside in
    let fed = pool.seen.events.items in
    let found = c.in_ok-found-in-Receives.found in
    let new = c.keep_thin.new.hypotheses in
    let receipt = clients.Receives c.in-Receives.conn c.in-Receives.message in
    let opens = sym c.is_some.ensures ∙ c.if-is_some.false in
    let is : c.args.event.now ≡ receipt = sym c.in_ok-copy.ensures ∙ c.in-Receives.is in
    let of_shape : IsOfShape pool.dual.shape receipt = rw is at (rw (← c.self.view_is) at c.requires) in
    let written : take found.len (new ++ drop (length new) found.items) ≡ new = grind (arith, common_steps) in
    let events : c.keep.new.self.events.items ≡ fed ++ receipt ∷ [] = c.keep.ensures.events ∙ ap (λ seen. seen ++ receipt ∷ []) c.make_room.ensures.events in
    let at : c.len.result ≡ length fed + 1 = c.len.ensures ∙ c.keep.new.self.events.ok.0 ∙ ap length events ∙ length_push fed receipt in
    let rejected : c.rejection-self-inside.result ≡ rejection_of (length fed + 1) new
    = c.rejection-self-inside.ensures ∙ ap (λ event. rejection_of event c.deref-in-Receives.result.now) at
    ∙ ap (rejection_of (length fed + 1)) (c.deref-in-Receives.ensures.value ∙ written) in
    let stand = stand_for_all_renumbered pool.dual (with_receipt fed c.in-Receives.conn c.in-Receives.message) c.explain_receipt.new.trail c.keep_thin.new.trail found.items new
    (rw c.deref_mut.ensures.value at c.in_ok-keep_thin-in-Receives.ensures.skeletons) (rw c.make_room.ensures.events at c.in_ok-found-in-Receives.ensures.stand) in
    rw (events, c.keep.ensures.inbox, c.make_room.ensures.inbox, rejected, written)
    (goes_on pool.dual fed pool.seen.inbox pool.trail pool.hypotheses.items receipt of_shape pool.rejected_at c.keep_thin.new.trail new opens c.self.invariant stand)
