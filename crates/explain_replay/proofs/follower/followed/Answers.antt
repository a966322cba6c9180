use Rattle.std.proofs.Common.{◌≡◌, [], ◌∷◌, ◌++◌, take, sym, ◌∙◌, ap, arith}
use Rattle.std.proofs.lemmas.List.{drop_more, take_all}
use Rattle.explain_replay.proofs.Following.{length-ahead, made_next}
use Rattle.explain_replay.proofs.Laying.{drop_next, take_next}
use Rattle.explain_replay.proofs.follower.followed.Goals as goal

pub unreachable-requires : goal.unreachable-requires
unreachable-requires c =
    let so_far = c.loop-mark.invariant c.requires.0 c.requires.1 in
    let next = made_next c.loop-mark.follower c.go_on.new.self _ _ _ _ c.in_ok-event.field-0 (drop_more c.args.marks.now c.loop-mark.mark-index _ c.loop-mark-test.true)
    c.in_ok-event.ensures so_far.1 in
    c.in_default.not-Some next.event next.is

pub loop-mark-preserved : goal.loop-mark-preserved
loop-mark-preserved c events ahead =
    let so_far = c.loop-mark.invariant events ahead in
    let next = made_next c.loop-mark.follower c.go_on.new.self _ _ _ _ c.in_ok-event.field-0 (drop_more c.args.marks.now c.loop-mark.mark-index _ c.loop-mark-test.true)
    c.in_ok-event.ensures so_far.1 in
    let same : c.in-Some.event ≡ next.event = cc (next.is, c.in-Some.is) in (
      c.in_ok-push.ensures.items ∙ ap (λ made. made ++ c.in-Some.event ∷ []) so_far.0
          ∙ ap (λ last. take c.loop-mark.mark-index events ++ last ∷ []) same ∙ sym (take_next events next.rest next.event c.loop-mark.mark-index next.whole),
      rw (drop_next events next.rest next.event c.loop-mark.mark-index next.whole) next.ahead,
    )

pub returns : goal.returns
returns c events ahead =
    let so_far = c.loop-mark.invariant events ahead in
    so_far.0 ∙ take_all c.loop-mark.mark-index events (omega (arith, length-ahead c.args.follower c.args.marks.now events ahead))
