use Rattle.std.proofs.Common.{◌≡◌, length, arith}
use Rattle.std.specs.Iterator.Adapters.{zip_first, zip_second}
use Rattle.std.specs.Slice.Iter.{iter_rest}
use Rattle.std.specs.Vec.Iter.{into_iter_items}
use Rattle.std.proofs.lemmas.List.{length_push}
use Rattle.std.proofs.lemmas.Slice.Zip.{zip_end, zip_turn}
use Rattle.explain_replay.proofs.Laying.{laid_out-end, laid_out-more}
use Rattle.explain_replay.proofs.layout.laid_out.Goals as goal

pub loop-event-preserved : goal.loop-event-preserved
loop-event-preserved c =
    let first : iter_rest (zip_first c.into_iter-event-iterator.result) ≡ c.args.exchange.now
    = rw (c.into_iter-event-iterator.ensures.into_iter_gives, c.zip-event-items.ensures.first) c.iter.ensures.rest in
    let second : iter_rest (zip_second c.into_iter-event-iterator.result) ≡ c.args.counts.now
    = rw c.into_iter-event-iterator.ensures.into_iter_gives c.zip-event-items.ensures.second.0 in
    let turn = zip_turn c.args.exchange.now c.args.counts.now c.loop-event.yielded c.into_iter-event-iterator.result c.loop-event.event-iterator c.next.new.self _ first second c.loop-event.yielded_by _ c.in-Some.is c.next.ensures.steps in
    rw (length_push, c.in_ok-push.ensures.items, c.in_ok-copy.ensures, c.in_ok-put_block.ensures.block, c.in_ok-put_block.ensures.left)
    (laid_out-more c.args.exchange.now c.args.counts.now (into_iter_items c.loop-event.left) c.loop-event.world.items _ (length c.loop-event.yielded) c.in-Some.event.now c.in-Some.count.now
    turn.0 turn.1 (turn.2 _) (turn.3 _) c.loop-event.invariant)

pub returns : goal.returns
returns c =
    let first : iter_rest (zip_first c.into_iter-event-iterator.result) ≡ c.args.exchange.now
    = rw (c.into_iter-event-iterator.ensures.into_iter_gives, c.zip-event-items.ensures.first) c.iter.ensures.rest in
    let second : iter_rest (zip_second c.into_iter-event-iterator.result) ≡ c.args.counts.now
    = rw c.into_iter-event-iterator.ensures.into_iter_gives c.zip-event-items.ensures.second.0 in
    let end = zip_end c.args.exchange.now c.args.counts.now c.loop-event.yielded c.into_iter-event-iterator.result c.loop-event.event-iterator c.next.new.self _ first second c.loop-event.yielded_by c.in-None.is c.next.ensures.steps in
    rw c.in_ok-put_block-2.ensures.block
    (laid_out-end c.args.exchange.now c.args.counts.now (into_iter_items c.loop-event.left) c.loop-event.world.items _ (length c.loop-event.yielded) c.len-count.result
    (omega (arith, c.requires)) (omega (arith, c.loop-event.left.rest.ok.0)) c.loop-event.invariant)
