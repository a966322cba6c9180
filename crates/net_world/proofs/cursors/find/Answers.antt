use Rattle.std.proofs.Common.{◌≡◌, ◌+◌, ◌++◌, ◌∷◌, [], sym, ◌∙◌, ap, take, drop, arith}
use Rattle.std.proofs.lemmas.Bool.{both_ways}
use Rattle.std.proofs.lemmas.List.{take-append-drop}
use Rattle.std.proofs.lemmas.Slice.Eq.{bytes_eq-Decides}
use Rattle.net_world.specs.Way.{put_in}
use Rattle.net_world.proofs.Passing.{put_in-append, put_in-next}
use Rattle.net_world.proofs.cursors.find.Goals as goal

pub loop-place-preserved : goal.loop-place-preserved
loop-place-preserved c =
    put_in-next c.args.way c.args.conn c.args.events.now c.loop-place.place c.index-events-place.result c.loop-place-test.true c.index-events-place.is
    ∙ ap (λ list. list ++ put_in c.args.way c.args.conn (c.index-events-place.result ∷ [])) c.loop-place.invariant ∙ sym c.in_default.ensures

pub returns-then-eq : goal.returns-then-eq
returns-then-eq c =
    let next = put_in-next c.args.way c.args.conn c.args.events.now c.loop-place.place c.index-events-place.result c.loop-place-test.true c.index-events-place.is
    ∙ ap (λ list. list ++ put_in c.args.way c.args.conn (c.index-events-place.result ∷ [])) c.loop-place.invariant ∙ sym c.in-Some.ensures in
    let same = (bytes_eq-Decides c.as_slice.result.now c.as_slice-in-Some.result.now).0 (sym c.eq.ensures ∙ c.if-eq.true) in
    let message : c.in-Some.next.now ≡ c.args.message.now = sym c.as_slice.ensures ∙ same ∙ c.as_slice-in-Some.ensures in
    (omega arith, next ∙ ap (λ list. list ∷ []) message)

pub returns-else-eq : goal.returns-else-eq
returns-else-eq c =
    let way = c.args.way in
    let conn = c.args.conn in
    let events = c.args.events.now in
    let next = put_in-next way conn events c.loop-place.place c.index-events-place.result c.loop-place-test.true c.index-events-place.is
    ∙ ap (λ list. list ++ put_in way conn (c.index-events-place.result ∷ [])) c.loop-place.invariant ∙ sym c.in-Some.ensures in
    let later = put_in way conn (drop (c.loop-place.place + 1) events) in (
      c.in-Some.next.now,
      later,
      sym (ap (put_in way conn) (take-append-drop (c.loop-place.place + 1) events)) ∙ put_in-append way conn (take (c.loop-place.place + 1) events) (drop (c.loop-place.place + 1) events)
          ∙ ap (λ list. list ++ later) next,
      λ same.
          let passes = (bytes_eq-Decides c.as_slice.result.now c.as_slice-in-Some.result.now).1 (c.as_slice.ensures ∙ same ∙ sym c.as_slice-in-Some.ensures) in
          both_ways _ c.if-eq.false (c.eq.ensures ∙ passes),
    )
