use Rattle.std.proofs.Common.{◌≡◌, ◌-◌, take, drop, length, sym, ◌∙◌, ap, arith}
use Rattle.std.proofs.Math.Seq.{take-length}
use Rattle.std.proofs.lemmas.List.{length-drop, length-set}
use Rattle.spec_model.proofs.Cuts.{cut_of-left, cut_of-used, empty_behind-next, item_takes-within, spans_behind-next}
use Rattle.spec_model.proofs.cut.cut.Goals as goal

pub loop-place-preserved : goal.loop-place-preserved
loop-place-preserved c =
    let message = c.args.message.now in
    let at = c.loop-place in
    let len = c.in_ok-len.len in
    let item = c.index-pattern-place.result in
    let rest : take (length message - at.start) (drop at.start message) ≡ drop at.start message =
    ap (λ n. take n (drop at.start message)) (sym (length-drop at.start message)) ∙ take-length (drop at.start message) in
    let takes = rw rest at (sym c.item_len.ensures ∙ c.in_ok-len.was) in
    let there = item_takes-within item (drop at.start message) len takes in
    let next = spans_behind-next c.args.pattern.now message at.spans at.place at.start len item c.loop-place-test.true (omega arith) c.index-pattern-place.is takes in
    record {
      within = omega (arith, length-drop at.start message);
      room = length-set at.spans at.place (at.start, len) ∙ at.invariant.room;
      empty = empty_behind-next at.spans at.place (at.start, len) at.invariant.empty;
      found = next ∙ at.invariant.found;
    }

pub returns-then-start-message : goal.returns-then-start-message
returns-then-start-message c =
    sym (cut_of-left c.args.pattern.now c.args.message.now _ c.loop-place.place c.loop-place.start c.loop-place-test.false c.if-start-message.true c.loop-place.invariant.found)

pub returns : goal.returns
returns c =
    let all : c.loop-place.place ≡ length c.args.pattern.now = omega arith in
    sym (cut_of-used c.args.pattern.now c.args.message.now c.loop-place.spans c.loop-place.start c.loop-place.invariant.room c.requires
    (rw all at c.loop-place.invariant.empty) c.if-start-message.false (rw all at c.loop-place.invariant.found))
