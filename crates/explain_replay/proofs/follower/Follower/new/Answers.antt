use Rattle.std.specs.Vec.Iter.{into_iter_items}
use Rattle.explain_replay.specs.declared.follower.Follower.{Follower}
use Rattle.explain_replay.specs.Explain.{RunPicking}
use Rattle.explain_replay.proofs.Following.{lies_ahead}
use Rattle.explain_replay.proofs.follower.Follower.new.Goals as goal

pub returns : goal.returns
returns c skeleton events picking =
    let follower : Follower = record { server = c.in_ok-new.field-0; net = c.in_ok-all_sent.field-0; texts = c.into_iter.result } in
    let same_texts : RunPicking c.args.spec.now c.args.exchange.now skeleton (into_iter_items follower.texts) events = rw c.into_iter.ensures.rest picking in
    lies_ahead c.args.spec.now c.args.exchange.now skeleton follower events c.in_ok-new.ensures.0 c.in_ok-new.ensures.1 c.in_ok-all_sent.ensures same_texts
