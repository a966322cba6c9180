-- Which steps are kept, and what is left without the others.
use Rattle.std.specs.Prelude.{◌≡◌, ◌⊎◌, ℕ, ◌+◌, ◌≤◌, All, Bool, List, Some, count_by, false, length, map, slice_get, slice_index, slice_index_or, sum_by, take, true}
use Rattle.spec_model.specs.declared.event.Mark.{Mark}
use Rattle.spec_model.specs.World.{IsPrefixOf}
use Rattle.trail_store.specs.declared.step.Step.{Step}
use Rattle.trail_store.specs.Path.{BeginsOne, IsSublistOf, path_at}
use Rattle.trail_store.specs.Steps.{AreSteps, paths_of}

-- The step of this number is kept.
abbrev pub IsKept : List Bool → ℕ → Type 0
IsKept kept number = slice_index_or kept number false ≡ true

-- how many steps are kept
abbrev pub kept_count : List Bool → ℕ
kept_count kept = count_by (λ is_kept. is_kept) kept

-- It is said of each step whether it is kept. Step 0 is, and with each other one what it goes on from.
pub record IsClosed (steps : List Step) (kept : List Bool) : Type 0 where
  pub each : length kept ≡ length steps + 1
  pub first : IsKept kept 0
  pub parents : (place : ℕ) (step : Step) → slice_get steps place ≡ Some step → IsKept kept (place + 1) → IsKept kept step.parent

-- The step of this number is kept beside those that were, with what it goes on from, and nothing else.
pub record IsAlsoKept (steps : List Step) (old : List Bool) (number : ℕ) (new : List Bool) : Type 0 where
  pub closed : IsClosed steps new
  pub stay : (other : ℕ) → IsKept old other → IsKept new other
  pub too : IsKept new number
  pub only : (other : ℕ) → IsKept new other → IsKept old other ⊎ IsPrefixOf (path_at (paths_of steps) other) (path_at (paths_of steps) number)
  pub few : kept_count new ≤ kept_count old + length (path_at (paths_of steps) number)

-- Kept are step 0 and the given steps, with what they go on from, and nothing else.
pub record AreReached (steps : List Step) (given : List ℕ) (kept : List Bool) : Type 0 where
  pub closed : IsClosed steps kept
  pub reached : All (IsKept kept) given
  pub only : (number : ℕ) → IsKept kept number → BeginsOne (map (path_at (paths_of steps)) given) (path_at (paths_of steps) number)
  pub few : kept_count kept ≤ 1 + sum_by length (map (path_at (paths_of steps)) given)

-- The step of the old number has the path of that of the new number.
pub record IsSameStep (left steps : List Step) (new old : ℕ) : Type 0 where
  pub there : new ≤ length left
  pub same : path_at (paths_of left) new ≡ path_at (paths_of steps) old

-- The path is that of a step that is kept.
abbrev pub IsPathOfKept : List Step → List Bool → List Mark → Type 0
IsPathOfKept steps kept path = (number : ℕ) × IsKept kept number × (path ≡ path_at (paths_of steps) number)

-- What is left of the first so many steps are those that are kept, in order, and each has its new number.
pub record IsRenumbered (steps : List Step) (kept : List Bool) (count : ℕ) (left : List Step) (numbers : List ℕ) : Type 0 where
  pub steps_left : AreSteps left
  pub fewer : length left ≤ count
  pub counted : length left + 1 ≡ kept_count (take (count + 1) kept)
  pub each : length numbers ≡ count + 1
  pub numbered : (number : ℕ) → number ≤ count → IsKept kept number → IsSameStep left steps (slice_index numbers number) number
  pub only : All (IsPathOfKept steps kept) (paths_of left)
  pub once : IsSublistOf (paths_of left) (take (count + 1) (paths_of steps))
