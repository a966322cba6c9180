use Rattle.std.proofs.Common.{◌≡◌, ◌+◌, ◌<◌, ◌++◌, ◌∷◌, [], get_or, length, slice_index_or, vec_len, ap, ◌∙◌, arith}
use Rattle.std.proofs.lemmas.Bool.{both_ways}
use Rattle.std.proofs.lemmas.List.{get_or_default}
use Rattle.std.proofs.lemmas.Option.{slice_get-get_or}
use Rattle.spec_model.specs.declared.event.Mark.TheVariants.{Take}
use Rattle.trail_store.specs.declared.step.Step.{Step}
use Rattle.trail_store.proofs.Renumbering.{IsRenumbered-dropped, IsRenumbered-kept, IsRenumbered-none, renumbered_step}
use Rattle.trail_store.proofs.keep.kept_steps.Goals as goal
use Rattle.trail_store.proofs.keep.kept_steps.Goals.{then-kept-below+in_ok-push-2, else-kept-below}

pub loop-below-init : goal.loop-below-init
loop-below-init c =
    let numbers : c.push.new.self.items ≡ 0 ∷ [] = c.in_ok-push.ensures.items ∙ ap (λ numbers. numbers ++ 0 ∷ []) c.in_ok-numbers.ensures.items in
    rw (c.new-left.ensures.items, numbers) (IsRenumbered-none c.args.steps.now c.args.kept.now c.requires.closed)

pub index-requires : goal.index-requires
index-requires c =
    let steps = c.args.steps.now in
    let place = c.loop-below.below in
    let fits : (d : Step) → (slice_index_or steps place d).parent < vec_len c.loop-below.numbers =
    λ d. omega (arith, c.requires.steps.earlier place (slice_index_or steps place d) (slice_get-get_or steps place d c.loop-below-test.true), c.loop-below.invariant.each) in
    fits _

pub loop-below-preserved : goal.loop-below-preserved
loop-below-preserved c =
    let steps = c.args.steps.now in
    let kept = c.args.kept.now in
    let place = c.loop-below.below in
    let left = c.loop-below.left.items in
    let numbers = c.loop-below.numbers.items in
    let none : Step = record { parent = 0; mark = Take 0 } in
    let step : Step = get_or steps place none in
    let there = slice_get-get_or steps place none c.loop-below-test.true in
    let so_far = c.loop-below.invariant in
    elim c.if-kept-below.branch [
      | then-kept-below+in_ok-push-2 w ↦
          let within : step.parent < length numbers = omega (arith, c.requires.steps.earlier place step there, so_far.each) in
          let parent_is : w.index.result.now ≡ get_or numbers step.parent 0 = w.index.ensures ∙ get_or_default numbers step.parent w.index.result.now 0 within in
          let left_is : c.if-kept-below.left.items ≡ left ++ renumbered_step numbers step ∷ [] =
          ap (λ list. list.items) w.left-is ∙ w.in_ok-push-2.ensures.items ∙ ap (λ parent. left ++ (record { parent = parent; mark = step.mark }) ∷ []) parent_is in
          let count : c.len.result ≡ length left + 1 = omega (arith, ap vec_len w.left-is, w.in_ok-push-2.ensures.len) in
          let numbers_are = c.in_ok-push-3.ensures.items ∙ ap (λ number. numbers ++ number ∷ []) count in
          rw (left_is, numbers_are) (IsRenumbered-kept steps kept place left numbers step there c.requires.closed so_far c.requires.steps w.if-kept-below.true)
      | else-kept-below w ↦
          let count : c.len.result ≡ length left = omega (arith, ap vec_len w.left-is) in
          let numbers_are = c.in_ok-push-3.ensures.items ∙ ap (λ number. numbers ++ number ∷ []) count in
          rw (w.left-is, numbers_are) (IsRenumbered-dropped steps kept place left numbers step there c.requires.closed so_far (both_ways _ w.if-kept-below.false))
    ]
