use Rattle.std.proofs.Common.{arith, take_all}
use Rattle.hypothesis.specs.Possible.{AreAllowed, none_made}
use Rattle.hypothesis.proofs.Expanding.{are_expansions, make_one_more}
use Rattle.hypothesis.proofs.hypothesis.Hypothesis.expand.Goals as goal

pub loop-event-init : goal.loop-event-init
loop-event-init c = rw c.new-expansions.ensures none_made

pub loop-event-preserved : goal.loop-event-preserved
loop-event-preserved c =
    rw c.in_ok-push_some.ensures.ok
    (make_one_more c.args.dual.now c.args.self.now c.deref-event-items.result.now c.loop-event.expansions c.loop-event.event-index c.event-item.result
    c.in_ok-made.made (omega arith) c.event-item.is c.loop-event.invariant c.in_ok-made.ensures)

pub returns : goal.returns
returns c =
    let dual = c.args.dual.now in
    let inbox = c.args.inbox.now in
    let next = c.in_ok-next.next in
    let h = c.args.self.now in
    let listed = c.deref-event-items.result.now in
    let allowed : AreAllowed next dual.shape.conns inbox h.taken listed
    = rw (c.deref-event-items.ensures.value, ← c.as_slice.ensures, ← c.shape.ensures) c.in_ok-events.ensures in
    let make = rw (take_all c.loop-event.event-index listed c.loop-event-test.false) at c.loop-event.invariant in
    rw c.into_vec.ensures (λ exchange skeleton nothing holds stands. are_expansions dual exchange inbox skeleton h next listed c.loop-event.expansions c.nodes.ensures.tree
    c.nodes.ensures.accepted c.in_ok-next.ensures.only allowed make nothing holds stands)
