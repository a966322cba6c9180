-- What hypotheses stand for, where their skeletons lie in a trail.
use Rattle.std.specs.Prelude.{◌≡◌, ◌<◌, ◌⊎◌, All, AllPairs, Any, List, ◌++◌, None, length, map}
use Rattle.std.specs.Option.{option_to_list}
use Rattle.spec_model.specs.declared.event.ClientEvent.{ClientEvent}
use Rattle.spec_model.specs.declared.event.Mark.{Mark}
use Rattle.spec_model.specs.declared.tree.Spec.{Spec}
use Rattle.spec_model.specs.Alike.{AreAlike}
use Rattle.spec_model.specs.Least.{IsKeptSkeleton}
use Rattle.spec_model.specs.Skeleton.{Precedes}
use Rattle.dual_tree.specs.Dual.{DualFields}
use Rattle.trail_store.specs.Path.{path_at}
use Rattle.hypothesis.specs.declared.hypothesis.Hypothesis.{Hypothesis}
use Rattle.hypothesis.specs.Left.{IsAlike}
use Rattle.hypothesis.specs.Stands.{StandsFor}

-- The skeleton of a hypothesis: the path of its step, and the mark that the trail does not have yet.
abbrev pub skeleton_in : List (List Mark) → Hypothesis → List Mark
skeleton_in paths h = path_at paths h.step ++ option_to_list h.mark

abbrev pub skeletons_in : List (List Mark) → List Hypothesis → List (List Mark)
skeletons_in paths hs = map (skeleton_in paths) hs

-- A hypothesis has a step of the trail, and stands for its skeleton.
pub record Stands (dual : DualFields) (exchange : List ClientEvent) (paths : List (List Mark)) (h : Hypothesis) : Type 0 where
  pub within : h.step < length paths
  pub stands : StandsFor dual exchange (skeleton_in paths h) h

-- One skeleton stands in for another where they are alike, and it is the same or comes before.
pub record StandsIn (spec : Spec) (exchange : List ClientEvent) (skeleton other : List Mark) : Type 0 where
  pub alike : AreAlike spec exchange skeleton other
  pub order : (skeleton ≡ other) ⊎ Precedes skeleton other

-- Hypotheses stand for all short skeletons that explain the exchange: each stands for one of them, in skeleton order and no two
-- alike, and for each of them the skeleton of one stands in. All their marks lie in the trail.
pub record StandForAll (dual : DualFields) (exchange : List ClientEvent) (paths : List (List Mark)) (hs : List Hypothesis) : Type 0 where
  pub each : All (Stands dual exchange paths) hs
  pub noted : All (λ (h : Hypothesis). h.mark ≡ None) hs
  pub kept : All (IsKeptSkeleton dual.spec exchange) (skeletons_in paths hs)
  pub ordered : AllPairs Precedes (skeletons_in paths hs)
  pub apart : AllPairs (λ h other. ¬ IsAlike h other) hs
  pub all : (skeleton : List Mark) → IsKeptSkeleton dual.spec exchange skeleton
      → Any (λ other. StandsIn dual.spec exchange other skeleton) (skeletons_in paths hs)
