use Rattle.std.proofs.Common.{sym, subst}
use Rattle.explain_replay.specs.Explain.{RunPicking}
use Rattle.explain_replay.proofs.follower.events_of.Goals as goal

pub followed-requires : goal.followed-requires
followed-requires c =
    let (events, picking) = c.requires.some in
    (events, c.in_ok-follower.ensures c.args.skeleton.now events picking)

pub returns : goal.returns
returns c =
    let (events, picking) = c.requires.some in
    let same = c.in_ok-events.ensures events (c.in_ok-follower.ensures c.args.skeleton.now events picking) in
    subst (RunPicking c.args.spec.now c.args.exchange.now c.args.skeleton.now c.args.texts.items) (sym same) picking
