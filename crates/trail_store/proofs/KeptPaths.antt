-- The paths of a trail without the steps that no given one reaches.
use Rattle.std.proofs.Common.{◌≡◌, ℕ, ◌+◌, ◌<◌, ◌≤◌, All, Bool, List, [], ◌∷◌, get_or, length, map, refl, slice_index, sum_by, ap, arith}
use Rattle.std.proofs.lemmas.List.{take_all}
use Rattle.std.proofs.lemmas.List.Elements.{All-head, All-map, All-tail, All-weaker}
use Rattle.spec_model.specs.declared.event.Mark.{Mark}
use Rattle.trail_store.specs.declared.step.Step.{Step}
use Rattle.trail_store.specs.Keep.{AreReached, IsPathOfKept, IsRenumbered, IsSameStep, kept_count}
use Rattle.trail_store.specs.Path.{BeginsOne, IsSublistOf, path_at}
use Rattle.trail_store.specs.Steps.{paths_of}
use Rattle.trail_store.proofs.PathsOfSteps.{length-paths_of}

map-map_same : {A B C : Type 0} (f : A → B) (g : B → C) (h : A → C) (items : List A) → All (λ item. g (f item) ≡ h item) items → map g (map f items) ≡ map h items
map-map_same f g h [] same = refl
map-map_same f g h (item ∷ items) same =
    let first = All-head (λ x. g (f x) ≡ h x) item items same in
    let others = map-map_same f g h items (All-tail (λ x. g (f x) ≡ h x) item items same) in
    cc

-- what a trail with these paths becomes, and what is written for the given numbers
pub record IsKeptOnly (old : List (List Mark)) (given : List ℕ) (new : List (List Mark)) (written : List ℕ) : Type 0 where
  pub numbers : All (λ number. number < length new) written
  pub kept : map (path_at new) written ≡ map (path_at old) given
  pub reached : All (BeginsOne (map (path_at old) given)) new
  pub once : IsSublistOf new old
  pub few : length new ≤ 1 + sum_by length (map (path_at old) given)

module _ (steps : List Step) (given : List ℕ) (kept : List Bool) (left : List Step) (numbers : List ℕ) (among : All (λ number. number < length steps + 1) given)
    (reached : AreReached steps given kept) (renumbered : IsRenumbered steps kept (length steps) left numbers) where
  same_steps : All (λ number. IsSameStep left steps (slice_index numbers number) number) given
  same_steps k d within =
      let below : get_or given k d ≤ length steps = omega (arith, among k d within) in
      renumbered.numbered (get_or given k d) below (reached.reached k d within)

  pub IsKeptOnly-renumbered : IsKeptOnly (paths_of steps) given (paths_of left) (map (slice_index numbers) given)
  IsKeptOnly-renumbered =
      let no_more : length (paths_of steps) ≤ length steps + 1 = omega (arith, length-paths_of steps) in
      record {
        numbers = All-map (λ number. number < length (paths_of left)) (slice_index numbers) given
            (λ k d within. omega (arith, (same_steps k d within).there, length-paths_of left));
        kept = map-map_same (slice_index numbers) (path_at (paths_of left)) (path_at (paths_of steps)) given (λ k d within. (same_steps k d within).same);
        reached = All-weaker (IsPathOfKept steps kept) (BeginsOne (map (path_at (paths_of steps)) given))
            (λ path of_kept. rw of_kept.2 (reached.only of_kept.0 of_kept.1)) (paths_of left) renumbered.only;
        once = rw take_all at renumbered.once;
        few = omega (arith, length-paths_of left, renumbered.counted, ap kept_count (take_all (length steps + 1) kept (omega (arith, reached.closed.each))), reached.few);
      }
