-- How many short skeletons explain an exchange that differ.
use Rattle.std.specs.Prelude.{◌≡◌, ℕ, All, AllPairs, Any, List, length}
use Rattle.spec_model.specs.declared.event.ClientEvent.{ClientEvent}
use Rattle.spec_model.specs.declared.event.Mark.{Mark}
use Rattle.spec_model.specs.declared.tree.Spec.{Spec}
use Rattle.spec_model.specs.Alike.{AreAlike}
use Rattle.spec_model.specs.Least.{IsKeptSkeleton}

-- So many short skeletons explain the exchange, if alike ones are counted once.
pub record CountsUnalike (spec : Spec) (exchange : List ClientEvent) (count : ℕ) : Type 0 where
  pub skeletons : List (List Mark)
  pub many : length skeletons ≡ count
  pub each : All (IsKeptSkeleton spec exchange) skeletons
  pub none_alike : AllPairs (λ skeleton other. ¬ AreAlike spec exchange skeleton other) skeletons
  pub all : (other : List Mark) → IsKeptSkeleton spec exchange other → Any (λ skeleton. AreAlike spec exchange skeleton other) skeletons
