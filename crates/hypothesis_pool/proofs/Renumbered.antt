-- What hypotheses keep where the steps of their trail are numbered anew.
use Rattle.std.proofs.Common.{◌≡◌, ℕ, zero, suc, ◌<◌, All, AllPairs, List, [], ◌∷◌, ◌++◌, None, drop, get_or, length, map, option_to_list, set, take, refl, sym, ◌∙◌, ap, subst, arith}
use Rattle.std.proofs.lemmas.List.{length-map}
use Rattle.std.proofs.lemmas.List.Elements.{All-cons, All-head, All-nil, All-tail}
use Rattle.std.proofs.lemmas.List.Kept.{AllPairs-cons}
use Rattle.spec_model.specs.declared.event.ClientEvent.{ClientEvent}
use Rattle.spec_model.specs.declared.event.Mark.{Mark}
use Rattle.dual_tree.specs.Dual.{DualFields}
use Rattle.trail_store.specs.Path.{path_at}
use Rattle.hypothesis.specs.declared.hypothesis.Hypothesis.{Hypothesis}
use Rattle.hypothesis.specs.Left.{IsAlike}
use Rattle.hypothesis.specs.Stands.{StandsFor}
use Rattle.hypothesis_pool.specs.Standing.{StandForAll, Stands, skeleton_in, skeletons_in}
use Rattle.hypothesis_pool.specs.Thinning.{KeepTheirSkeletons, with_steps}
use Rattle.hypothesis_pool.proofs.Lists.{AllPairs-head, AllPairs-none, AllPairs-tail}
use Rattle.hypothesis_pool.proofs.Noting.{stands_at_step}

-- with no steps there are no hypotheses
pub with_no_steps : (hs : List Hypothesis) → with_steps hs [] ≡ []
with_no_steps [] = refl
with_no_steps (h ∷ hs) = refl

-- the next one gets its step
pub next_with_step : (hs : List Hypothesis) (steps : List ℕ) (place : ℕ) (other : Hypothesis) → place < length steps → length steps ≡ length hs
    → set (with_steps hs (take place steps) ++ drop place hs) place (record (get_or (with_steps hs (take place steps) ++ drop place hs) place other) { step = get_or steps place 0 })
    ≡ with_steps hs (take (suc place) steps) ++ drop (suc place) hs
next_with_step [] steps place other within same = absurd (omega (arith, within, same))
next_with_step (first ∷ hs) [] place other within same = absurd (omega (arith, within))
next_with_step (first ∷ hs) (step ∷ steps) zero other within same = ap (λ rest. record first { step = step } ∷ rest ++ hs) (sym (with_no_steps hs))
next_with_step (first ∷ hs) (step ∷ steps) (suc place) other within same =
    ap (λ rest. record first { step = step } ∷ rest) (next_with_step hs steps place other (omega (arith, within)) (omega (arith, same)))

-- Each step of these is one of the trail.
abbrev AreWithin : List (List Mark) → List ℕ → Type 0
AreWithin paths steps = All (λ step. step < length paths) steps

-- The steps as they were are those of the hypotheses.
pub keep_all : (paths : List (List Mark)) (hs : List Hypothesis) → All (λ (h : Hypothesis). h.step < length paths) hs → KeepTheirSkeletons paths paths hs hs
keep_all paths hs within = record {
  steps = map (λ (h : Hypothesis). h.step) hs;
  with_them = same_with_steps hs;
  one_each = length-map hs (λ (h : Hypothesis). h.step);
  within = steps_within hs within;
  skeletons = refl;
}
  where
    same_with_steps : (hs : List Hypothesis) → hs ≡ with_steps hs (map (λ (h : Hypothesis). h.step) hs)
    same_with_steps [] = refl
    same_with_steps (h ∷ hs) = ap (λ rest. h ∷ rest) (same_with_steps hs)

    steps_within : (hs : List Hypothesis) → All (λ (h : Hypothesis). h.step < length paths) hs → AreWithin paths (map (λ (h : Hypothesis). h.step) hs)
    steps_within [] all = All-nil (λ step. step < length paths)
    steps_within (h ∷ hs) all =
        All-cons (λ step. step < length paths) h.step (map (λ (h : Hypothesis). h.step) hs) (All-head (λ (h : Hypothesis). h.step < length paths) h hs all)
        (steps_within hs (All-tail (λ (h : Hypothesis). h.step < length paths) h hs all))

-- Where the new steps have the paths of the old ones, the skeletons are the same.
skeletons_with : (paths new_paths : List (List Mark)) (hs : List Hypothesis) (steps : List ℕ) → length steps ≡ length hs
    → map (path_at new_paths) steps ≡ map (path_at paths) (map (λ (h : Hypothesis). h.step) hs) → skeletons_in new_paths (with_steps hs steps) ≡ skeletons_in paths hs
skeletons_with paths new_paths [] [] one_each same = refl
skeletons_with paths new_paths [] (step ∷ steps) one_each same = absurd (omega (arith, one_each))
skeletons_with paths new_paths (h ∷ hs) [] one_each same = absurd (omega (arith, one_each))
skeletons_with paths new_paths (h ∷ hs) (step ∷ steps) one_each same =
    let first : path_at new_paths step ≡ path_at paths h.step = cc in
    let others : map (path_at new_paths) steps ≡ map (path_at paths) (map (λ (h : Hypothesis). h.step) hs) = cc in
    ap (λ path. (path ++ option_to_list h.mark) ∷ skeletons_in new_paths (with_steps hs steps)) first
    ∙ ap (λ rest. skeleton_in paths h ∷ rest) (skeletons_with paths new_paths hs steps (omega (arith, one_each)) others)

pub keep_with : (paths new_paths : List (List Mark)) (hs : List Hypothesis) (steps : List ℕ) → length steps ≡ length hs → AreWithin new_paths steps
    → map (path_at new_paths) steps ≡ map (path_at paths) (map (λ (h : Hypothesis). h.step) hs) → KeepTheirSkeletons paths new_paths hs (with_steps hs steps)
keep_with paths new_paths hs steps one_each within same = record {
  steps = steps;
  with_them = refl;
  one_each = one_each;
  within = within;
  skeletons = skeletons_with paths new_paths hs steps one_each same;
}

-- So they still stand for all.
module _ (dual : DualFields) (exchange : List ClientEvent) (paths new_paths : List (List Mark)) where
  each_with : (hs : List Hypothesis) (steps : List ℕ) → length steps ≡ length hs → AreWithin new_paths steps → skeletons_in new_paths (with_steps hs steps) ≡ skeletons_in paths hs
      → All (Stands dual exchange paths) hs → All (Stands dual exchange new_paths) (with_steps hs steps)
  each_with [] [] one_each within same all = All-nil (Stands dual exchange new_paths)
  each_with [] (step ∷ steps) one_each within same all = absurd (omega (arith, one_each))
  each_with (h ∷ hs) [] one_each within same all = absurd (omega (arith, one_each))
  each_with (h ∷ hs) (step ∷ steps) one_each within same all =
      let new : Hypothesis = record h { step = step } in
      let first : skeleton_in new_paths new ≡ skeleton_in paths h = cc in
      let others : skeletons_in new_paths (with_steps hs steps) ≡ skeletons_in paths hs = cc in
      let stands = All-head (Stands dual exchange paths) h hs all in
      All-cons (Stands dual exchange new_paths) new (with_steps hs steps)
      (record {
        within = All-head (λ step. step < length new_paths) step steps within;
        stands = subst (λ skeleton. StandsFor dual exchange skeleton new) (sym first) (stands_at_step dual exchange (skeleton_in paths h) h step h.mark stands.stands);
      })
      (each_with hs steps (omega (arith, one_each)) (All-tail (λ step. step < length new_paths) step steps within) others (All-tail (Stands dual exchange paths) h hs all))

  noted_with : (hs : List Hypothesis) (steps : List ℕ) → All (λ (h : Hypothesis). h.mark ≡ None) hs → All (λ (h : Hypothesis). h.mark ≡ None) (with_steps hs steps)
  noted_with [] steps all = All-nil (λ (h : Hypothesis). h.mark ≡ None)
  noted_with (h ∷ hs) [] all = All-nil (λ (h : Hypothesis). h.mark ≡ None)
  noted_with (h ∷ hs) (step ∷ steps) all =
      All-cons (λ (h : Hypothesis). h.mark ≡ None) (record h { step = step }) (with_steps hs steps) (All-head (λ (h : Hypothesis). h.mark ≡ None) h hs all)
      (noted_with hs steps (All-tail (λ (h : Hypothesis). h.mark ≡ None) h hs all))

  apart_from : (h : Hypothesis) (step : ℕ) (hs : List Hypothesis) (steps : List ℕ) → All (λ other. ¬ IsAlike h other) hs
      → All (λ other. ¬ IsAlike (record h { step = step }) other) (with_steps hs steps)
  apart_from h step [] steps all = All-nil (λ other. ¬ IsAlike (record h { step = step }) other)
  apart_from h step (other ∷ hs) [] all = All-nil (λ other. ¬ IsAlike (record h { step = step }) other)
  apart_from h step (other ∷ hs) (next ∷ steps) all =
      All-cons (λ other. ¬ IsAlike (record h { step = step }) other) (record other { step = next }) (with_steps hs steps)
      (λ alike. All-head (λ other. ¬ IsAlike h other) other hs all (record { state = alike.state; taken = alike.taken }))
      (apart_from h step hs steps (All-tail (λ other. ¬ IsAlike h other) other hs all))

  apart_with : (hs : List Hypothesis) (steps : List ℕ) → AllPairs (λ h other. ¬ IsAlike h other) hs → AllPairs (λ h other. ¬ IsAlike h other) (with_steps hs steps)
  apart_with [] steps pairs = AllPairs-none (λ h other. ¬ IsAlike h other)
  apart_with (h ∷ hs) [] pairs = AllPairs-none (λ h other. ¬ IsAlike h other)
  apart_with (h ∷ hs) (step ∷ steps) pairs =
      AllPairs-cons (λ h other. ¬ IsAlike h other) (record h { step = step }) (with_steps hs steps)
      (apart_from h step hs steps (AllPairs-head (λ h other. ¬ IsAlike h other) h hs pairs)) (apart_with hs steps (AllPairs-tail (λ h other. ¬ IsAlike h other) h hs pairs))

  pub stand_for_all_renumbered : (hs new : List Hypothesis) → KeepTheirSkeletons paths new_paths hs new → StandForAll dual exchange paths hs → StandForAll dual exchange new_paths new
  stand_for_all_renumbered hs new keep stand =
      let skeletons : skeletons_in new_paths (with_steps hs keep.steps) ≡ skeletons_in paths hs
      = ap (skeletons_in new_paths) (sym keep.with_them) ∙ keep.skeletons in
      rw keep.with_them (record {
        each = each_with hs keep.steps keep.one_each keep.within skeletons stand.each;
        noted = noted_with hs keep.steps stand.noted;
        kept = rw skeletons stand.kept;
        ordered = rw skeletons stand.ordered;
        apart = apart_with hs keep.steps stand.apart;
        all = rw skeletons stand.all;
      })
