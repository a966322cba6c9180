use Rattle.std.proofs.Common.{rules, ◌≡◌, ◌≤◌, length, slice_get, Some, refl, arith}
use Rattle.std.proofs.lemmas.Option.{slice_get_read}
use Rattle.hypothesis.proofs.FollowedMarks.{is_reached, is_never_refused, marks_never_end, mark_is_never_lost, goes_one_on}
use Rattle.hypothesis.proofs.along.up_to_receipt.Goals as goal

pub returns-in-Yes-clause-reaches : goal.returns-in-Yes-clause-reaches
returns-in-Yes-clause-reaches c = is_reached _ _ _ _ _ _ _ _ _ _ c.in_ok-receive.ensures.ok c.nodes.ensures.tree c.loop-end.invariant.way c.in-Yes.is

pub returns-in-No-clause-reaches : goal.returns-in-No-clause-reaches
returns-in-No-clause-reaches c = is_never_refused _ _ _ _ _ _ _ _ _ _ c.in_ok-receive.ensures.ok c.nodes.ensures.tree c.loop-end.invariant.way c.in-No.is

pub returns-in_default-clause-reaches : goal.returns-in_default-clause-reaches
returns-in_default-clause-reaches c =
    let ended : length c.args.marks.now ≤ c.loop-end.count = search rules in
    marks_never_end _ _ _ _ _ _ _ _ _ _ c.in_ok-receive.ensures.ok c.nodes.ensures.tree c.loop-end.invariant.way c.in-Nothing.is ended

pub returns-in_default-2-clause-reaches : goal.returns-in_default-2-clause-reaches
returns-in_default-2-clause-reaches c =
    let at : slice_get c.args.marks.now c.loop-end.count ≡ Some c.in-Some.mark.now
    = slice_get_read c.args.marks.now (length c.args.marks.now) c.loop-end.count c.in-Some.mark.now refl c.in-Some.ensures.lookup.3.0 c.in-Some.ensures.lookup.1 in
    mark_is_never_lost _ _ _ _ _ _ _ _ _ _ c.in_ok-receive.ensures.ok c.nodes.ensures.tree c.loop-end.invariant.way c.in-Nothing.is c.in-Some.mark.now at
    c.in_ok-next.field-0 c.in_ok-next.ensures c.in_default-2.is

pub loop-end-preserved : goal.loop-end-preserved
loop-end-preserved c =
    let within = c.in-Some.ensures.lookup.3.0 in
    let at : slice_get c.args.marks.now c.loop-end.count ≡ Some c.in-Some.mark.now
    = slice_get_read c.args.marks.now (length c.args.marks.now) c.loop-end.count c.in-Some.mark.now refl within c.in-Some.ensures.lookup.1 in
    record {
      within = omega (arith, within);
      way =
          goes_one_on _ _ _ _ _ _ _ _ _ _ c.in_ok-receive.ensures.ok c.nodes.ensures.tree c.loop-end.invariant.way c.in-Nothing.is c.in-Some.mark.now at
          c.in_ok-next.field-0 c.in_ok-next.ensures c.in-Some-2.next c.in-Some-2.is;
    }
