use Rattle.std.proofs.Common.{◌≡◌, ◌<◌, ◌++◌, ◌∷◌, [], length, take, sym, ◌∙◌, ap}
use Rattle.spec_model.specs.World.{client_sends}
use Rattle.net_world.specs.declared.way.Way.TheVariants.{Up}
use Rattle.net_world.specs.Net.{queue, with_queue}
use Rattle.explain_replay.proofs.Queues.{length-with_queue, sends_no_more, sends_within, sent_with, take_event}
use Rattle.explain_replay.proofs.follower.all_sent.Goals.{in-Sends+in_ok-copy+in_ok-up, in_default}
use Rattle.explain_replay.proofs.follower.all_sent.Goals as goal

pub loop-event-preserved : goal.loop-event-preserved
loop-event-preserved c =
    let exchange = c.args.exchange.now in
    let number = c.loop-event.event-index in
    let net = c.loop-event.net in
    let whole = take_event exchange number c.event-item.result c.loop-event-test.true c.event-item.is in
    elim c.match-event.branch [
      | in-Sends+in_ok-copy+in_ok-up w ↦
          let conn = w.in-Sends.conn in
          let message = w.in-Sends.message in
          let within : conn < length net
          = rw c.loop-event.invariant.conns (sends_within c.args.shape exchange number c.event-item.result conn message c.requires c.loop-event-test.true c.event-item.is w.in-Sends.is) in
          let put : c.match-event.net ≡ with_queue Up conn (queue Up conn net ++ message ∷ []) net
          = w.net-is ∙ w.in_ok-up.ensures.ok ∙ ap (λ copy. with_queue Up conn (queue Up conn net ++ copy ∷ []) net) w.in_ok-copy.ensures in
          record {
            conns = ap length put ∙ length-with_queue net conn (queue Up conn net ++ message ∷ []) ∙ c.loop-event.invariant.conns;
            sent = λ other. rw (put, whole, w.in-Sends.is) (sent_with net (take number exchange) conn message within c.loop-event.invariant.sent other);
          }
      | in_default w ↦ rw w.net-is (record {
        conns = c.loop-event.invariant.conns;
        sent = λ other. c.loop-event.invariant.sent other ∙ sym (ap (client_sends other) whole ∙ sends_no_more (take number exchange) c.event-item.result other w.in_default.not-Sends);
      })
    ]
