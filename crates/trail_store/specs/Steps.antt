-- Steps, and the paths that they stand for.
use Rattle.std.specs.Prelude.{◌≡◌, ℕ, ◌^◌, ◌<◌, ◌≤◌, List, [], ◌∷◌, ◌++◌, Some, fold, length, slice_get}
use Rattle.spec_model.specs.declared.event.Mark.{Mark}
use Rattle.trail_store.specs.declared.step.Step.{Step}
use Rattle.trail_store.specs.Path.{path_at}

-- the paths with that of one step more
abbrev pub with_step : List (List Mark) → Step → List (List Mark)
with_step paths step = paths ++ (path_at paths step.parent ++ step.mark ∷ []) ∷ []

-- the paths by number: first the empty one, and then that of each of these steps
unfoldable pub paths_of : List Step → List (List Mark)
paths_of steps = fold with_step ([] ∷ []) steps

-- Each of these steps, which are numbered from 1, goes on from an earlier one, and their numbers have 32 bits.
pub record AreSteps (steps : List Step) : Type 0 where
  pub fit : length steps < 2 ^ 32
  pub earlier : (place : ℕ) (step : Step) → slice_get steps place ≡ Some step → step.parent ≤ place
