-- What is left of steps, one step more.
use Rattle.std.proofs.Common.{◌≡◌, ◌⊎◌, ℕ, zero, suc, ◌+◌, ◌^◌, ◌<◌, ◌≤◌, Bool, true, false, List, [], ◌∷◌, ◌++◌, Some, get_or, inl, inr, length, slice_get, take, sym, refl, ap, ◌∙◌, subst, arith, lit<}
use Rattle.std.proofs.lemmas.Bool.{cases_lt}
use Rattle.std.proofs.lemmas.List.{get_or_append_left, get_or_push, length_push, take_more}
use Rattle.std.proofs.lemmas.List.Elements.{All-cons, All-nil, All-push}
use Rattle.std.proofs.lemmas.List.Sums.{count_by_more_no, count_by_more_yes}
use Rattle.std.proofs.lemmas.Option.{slice_get_within}
use Rattle.spec_model.specs.declared.event.Mark.{Mark}
use Rattle.trail_store.specs.declared.step.Step.{Step}
use Rattle.trail_store.specs.Keep.{IsClosed, IsKept, IsPathOfKept, IsRenumbered, IsSameStep}
use Rattle.trail_store.specs.Path.{path_at}
use Rattle.trail_store.specs.Steps.{AreSteps, paths_of}
use Rattle.trail_store.proofs.PathsOfSteps.{length-paths_of, path_at-first, path_at-push, path_at-step, paths_of-nil, paths_of-push}
use Rattle.trail_store.proofs.Sublists.{IsSublistOf-longer, IsSublistOf-nil, IsSublistOf-push}

-- the item at a place, with one item more
slice_get-push : {A : Type 0} (items : List A) (last item : A) (place : ℕ) → slice_get (items ++ last ∷ []) place ≡ Some item
    → (slice_get items place ≡ Some item) ⊎ ((place ≡ length items) × (last ≡ item))
slice_get-push [] last item zero there = inr (refl, cc)
slice_get-push [] last item (suc place) there = absurd cc
slice_get-push (first ∷ items) last item zero there = inl there
slice_get-push (first ∷ items) last item (suc place) there =
    elim (slice_get-push items last item place there) [ inl before ↦ inl before | inr here ↦ inr (ap suc here.0, here.1) ]

pub AreSteps-nil : AreSteps []
AreSteps-nil = record { fit = lit< tt; earlier = λ place step there. absurd cc }

pub AreSteps-push : (steps : List Step) (step : Step) → AreSteps steps → length steps + 1 < 2 ^ 32 → step.parent ≤ length steps → AreSteps (steps ++ step ∷ [])
AreSteps-push steps step are room before = record {
  fit = omega (arith, length_push steps step);
  earlier = λ place other there.
      elim (slice_get-push steps step other place there) [
        | inl older ↦ are.earlier place other older
        | inr last ↦
            let behind : length steps ≤ place = omega (arith, last.0) in
            let its_parent : step.parent ≡ other.parent = ap (λ (s : Step). s.parent) last.1 in
            omega (arith, its_parent)
      ];
}

-- of no steps step 0 is left, where it is kept
pub IsRenumbered-none : (steps : List Step) (kept : List Bool) → IsClosed steps kept → IsRenumbered steps kept 0 [] (0 ∷ [])
IsRenumbered-none steps kept closed = record {
  steps_left = AreSteps-nil;
  fewer = omega arith;
  counted = sym (count_by_more_yes (λ is_kept. is_kept) kept 0 false (omega (arith, closed.each)) closed.first);
  each = refl;
  numbered = numbered;
  only = rw paths_of-nil (All-cons (IsPathOfKept steps kept) [] [] (0, closed.first, sym (path_at-first steps)) (All-nil (IsPathOfKept steps kept)));
  once = rw (paths_of-nil, take_first) (IsSublistOf-push [] (IsSublistOf-nil []));
}
  where
    take_first : take (0 + 1) (paths_of steps) ≡ [] ∷ []
    take_first = take_more (paths_of steps) 0 [] (omega (arith, length-paths_of steps)) ∙ ap (λ (path : List Mark). path ∷ []) (path_at-first steps)

    numbered : (number : ℕ) → number ≤ 0 → IsKept kept number → IsSameStep [] steps (get_or (0 ∷ []) number 0) number
    numbered zero none is_kept = record { there = omega arith; same = path_at-first [] ∙ sym (path_at-first steps) }
    numbered (suc number) none is_kept = absurd (omega arith)

-- the step with its parent's new number
abbrev pub renumbered_step : List ℕ → Step → Step
renumbered_step numbers step = record { parent = get_or numbers step.parent 0; mark = step.mark }

is_false : (b : Bool) → (b ≡ true → ⊥) → b ≡ false
is_false true not_true = absurd (not_true refl)
is_false false not_true = refl

module _ (steps : List Step) (kept : List Bool) (place : ℕ) (left : List Step) (numbers : List ℕ) (step : Step) (there : slice_get steps place ≡ Some step)
    (closed : IsClosed steps kept) (so_far : IsRenumbered steps kept place left numbers) where
  one_more : take (place + 1 + 1) (paths_of steps) ≡ take (place + 1) (paths_of steps) ++ path_at (paths_of steps) (place + 1) ∷ []
  one_more = take_more (paths_of steps) (place + 1) [] (omega (arith, length-paths_of steps, slice_get_within steps place step there))

  within : place + 1 < length kept
  within = omega (arith, closed.each, slice_get_within steps place step there)

  -- the older steps keep their new numbers, whatever number comes next
  older : (next number : ℕ) → number ≤ place → get_or (numbers ++ next ∷ []) number 0 ≡ get_or numbers number 0
  older next number before = get_or_append_left numbers (next ∷ []) 0 number (omega (arith, so_far.each))

  -- a step that is not kept
  pub IsRenumbered-dropped : (IsKept kept (place + 1) → ⊥) → IsRenumbered steps kept (place + 1) left (numbers ++ length left ∷ [])
  IsRenumbered-dropped dropped = record {
    steps_left = so_far.steps_left;
    fewer = omega (arith, so_far.fewer);
    counted = so_far.counted ∙ sym (count_by_more_no (λ is_kept. is_kept) kept (place + 1) false within (is_false _ dropped));
    each = omega (arith, so_far.each, length_push numbers (length left));
    numbered = λ number before is_kept.
        elim (cases_lt place number) [
          | inl last ↦ let is_last : number ≡ place + 1 = omega arith in absurd (dropped (subst (IsKept kept) is_last is_kept))
          | inr older_one ↦ rw (older (length left) number older_one) (so_far.numbered number older_one is_kept)
        ];
    only = so_far.only;
    once = rw one_more (IsSublistOf-longer _ so_far.once);
  }

  module _ (all : AreSteps steps) (is_kept : IsKept kept (place + 1)) where
    before : step.parent ≤ place
    before = all.earlier place step there

    parent_same : IsSameStep left steps (get_or numbers step.parent 0) step.parent
    parent_same = so_far.numbered step.parent before (closed.parents place step there is_kept)

    path_is : path_at (paths_of left) (get_or numbers step.parent 0) ++ step.mark ∷ [] ≡ path_at (paths_of steps) (place + 1)
    path_is = ap (λ (path : List Mark). path ++ step.mark ∷ []) parent_same.same ∙ sym (path_at-step steps place step there before)

    paths_are : paths_of (left ++ renumbered_step numbers step ∷ []) ≡ paths_of left ++ path_at (paths_of steps) (place + 1) ∷ []
    paths_are = paths_of-push left (renumbered_step numbers step) ∙ ap (λ (path : List Mark). paths_of left ++ path ∷ []) path_is

    same_still : (new old : ℕ) → IsSameStep left steps new old → IsSameStep (left ++ renumbered_step numbers step ∷ []) steps new old
    same_still new old same = record {
      there = omega (arith, same.there, length_push left (renumbered_step numbers step));
      same = rw paths_are (path_at-push (paths_of left) _ new (omega (arith, same.there, length-paths_of left)) ∙ same.same);
    }

    last_same : IsSameStep (left ++ renumbered_step numbers step ∷ []) steps (get_or (numbers ++ (length left + 1) ∷ []) (place + 1) 0) (place + 1)
    last_same = rw (get_or_push numbers (length left + 1) 0 (place + 1) so_far.each) record {
      there = omega (arith, length_push left (renumbered_step numbers step));
      same = rw paths_are (get_or_push (paths_of left) _ [] (length left + 1) (length-paths_of left));
    }

    -- a kept step, behind what it goes on from
    pub IsRenumbered-kept : IsRenumbered steps kept (place + 1) (left ++ renumbered_step numbers step ∷ []) (numbers ++ (length left + 1) ∷ [])
    IsRenumbered-kept = record {
      steps_left = AreSteps-push left (renumbered_step numbers step) so_far.steps_left
          (omega (arith, so_far.fewer, all.fit, slice_get_within steps place step there)) parent_same.there;
      fewer = omega (arith, so_far.fewer, length_push left (renumbered_step numbers step));
      counted = omega (arith, so_far.counted, length_push left (renumbered_step numbers step), count_by_more_yes (λ is_kept. is_kept) kept (place + 1) false within is_kept);
      each = omega (arith, so_far.each, length_push numbers (length left + 1));
      numbered = λ number at_most number_kept.
          elim (cases_lt place number) [
            | inl last ↦
                let is_last : place + 1 ≡ number = omega arith in
                subst (λ (n : ℕ). IsSameStep (left ++ renumbered_step numbers step ∷ []) steps (get_or (numbers ++ (length left + 1) ∷ []) n 0) n) is_last last_same
            | inr older_one ↦ rw (older (length left + 1) number older_one) (same_still _ number (so_far.numbered number older_one number_kept))
          ];
      only = rw paths_are (All-push (IsPathOfKept steps kept) (paths_of left) _ so_far.only (place + 1, is_kept, refl));
      once = rw (paths_are, one_more) (IsSublistOf-push _ so_far.once);
    }
