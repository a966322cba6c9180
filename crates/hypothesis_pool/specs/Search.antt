-- The search for the skeletons that explain a receipt.
use Rattle.std.specs.Prelude.{◌≡◌, ℕ, ◌^◌, ◌<◌, ◌⊎◌, All, AllPairs, Any, Contains, List, [], ◌∷◌, ◌++◌, None, length, reverse}
use Rattle.spec_model.specs.declared.event.ClientEvent.{ClientEvent}
use Rattle.spec_model.specs.declared.event.Mark.{Mark}
use Rattle.spec_model.specs.declared.tree.Spec.{Spec}
use Rattle.spec_model.specs.Alike.{SkeletonExplains}
use Rattle.spec_model.specs.Least.{IsKeptSkeleton}
use Rattle.spec_model.specs.Skeleton.{Precedes, sends_in}
use Rattle.spec_model.specs.World.{IsPrefixOf, client_receipts}
use Rattle.dual_tree.specs.Dual.{DualFields}
use Rattle.hypothesis.specs.declared.hypothesis.Hypothesis.{Hypothesis}
use Rattle.hypothesis.specs.Left.{IsAlike}
use Rattle.hypothesis.specs.Received.{with_receipt}
use Rattle.hypothesis.specs.Stands.{StandsFor}
use Rattle.hypothesis_pool.specs.Standing.{Stands, StandsIn, skeleton_in, skeletons_in}

-- But for its last mark, the skeleton sends as many messages on the connection as were received there.
pub record GoesOnFromReceived (exchange : List ClientEvent) (conn : ℕ) (skeleton : List Mark) : Type 0 where
  pub before : List Mark
  pub last : Mark
  pub whole : skeleton ≡ before ++ last ∷ []
  pub all_received : sends_in conn before ≡ length (client_receipts conn exchange)

-- A skeleton that explains the exchange is on its way to explain a receipt more.
pub record IsOnItsWay (spec : Spec) (exchange : List ClientEvent) (conn : ℕ) (skeleton : List Mark) : Type 0 where
  pub explains : SkeletonExplains spec exchange skeleton
  pub way : IsKeptSkeleton spec exchange skeleton ⊎ GoesOnFromReceived exchange conn skeleton

-- For a skeleton one stands in that is short and explains the exchange; it is found already, or goes on from one that is ahead.
pub record IsCovered (spec : Spec) (exchange : List ClientEvent) (found ahead : List (List Mark)) (skeleton : List Mark) : Type 0 where
  pub by : List Mark
  pub kept : IsKeptSkeleton spec exchange by
  pub stands_in : StandsIn spec exchange by skeleton
  pub place : Contains found by ⊎ Any (λ front. IsPrefixOf front by) ahead

-- One skeleton comes before the other, or the other goes on from it.
abbrev pub IsFollowedBy : List Mark → List Mark → Type 0
IsFollowedBy skeleton other = Precedes skeleton other ⊎ ((mark : Mark) × (more : List Mark) × (other ≡ skeleton ++ mark ∷ more))

-- How a search stands: some skeletons were met and had to go on, some were found that explain the receipt, and some are still ahead,
-- in skeleton order. Each short skeleton that explains the receipt is covered by those found and ahead.
pub record Searches (spec : Spec) (exchange : List ClientEvent) (conn : ℕ) (message : List ℕ) (met found ahead : List (List Mark)) : Type 0 where
  pub found_kept : All (IsKeptSkeleton spec (with_receipt exchange conn message)) found
  pub on_their_way : All (IsOnItsWay spec exchange conn) ahead
  pub ordered : AllPairs Precedes (found ++ ahead)
  pub followed : All (λ skeleton. All (IsFollowedBy skeleton) ahead) met
  pub all : (skeleton : List Mark) → IsKeptSkeleton spec (with_receipt exchange conn message) skeleton
      → IsCovered spec (with_receipt exchange conn message) found ahead skeleton

-- The hypotheses of a search stand for such skeletons, and no two of those found are alike.
pub record IsUnderWay (dual : DualFields) (exchange : List ClientEvent) (conn : ℕ) (message : List ℕ) (paths : List (List Mark)) (met found ahead : List Hypothesis) : Type 0 where
  pub met_stand : All (Stands dual exchange paths) met
  pub found_stand : All (Stands dual (with_receipt exchange conn message) paths) found
  pub ahead_stand : All (Stands dual exchange paths) ahead
  pub noted : All (λ (h : Hypothesis). h.mark ≡ None) found
  pub apart : AllPairs (λ h other. ¬ IsAlike h other) found
  pub searches : Searches dual.spec exchange conn message (skeletons_in paths met) (skeletons_in paths found) (skeletons_in paths ahead)

-- The new hypothesis stands for a skeleton of one mark more.
pub record IsOneFurther (dual : DualFields) (exchange : List ClientEvent) (old new : Hypothesis) : Type 0 where
  pub skeleton : List Mark
  pub mark : Mark
  pub stands : StandsFor dual exchange skeleton old
  pub further : StandsFor dual exchange (skeleton ++ mark ∷ []) new

-- In place of the hypothesis that was taken from those ahead stand some that are one further; the last of the list come first.
pub record ReplacesLast (dual : DualFields) (exchange : List ClientEvent) (taken : Hypothesis) (old new : List Hypothesis) : Type 0 where
  pub more : List Hypothesis
  pub whole : new ≡ old ++ reverse more
  pub few : length more < 2 ^ 64
  pub further : All (IsOneFurther dual exchange taken) more

-- The mark of a hypothesis lies in the trail, which may have got longer: the skeleton is as it was, and so is all else.
pub record IsNoted (paths new_paths : List (List Mark)) (old new : Hypothesis) : Type 0 where
  pub same : new ≡ record old { step = new.step; mark = None }
  pub within : new.step < length new_paths
  pub skeleton : skeleton_in new_paths new ≡ skeleton_in paths old

-- A list has one item more at its end, or is as it was.
abbrev pub MayGetOneMore : Hypothesis → List Hypothesis → List Hypothesis → Type 0
MayGetOneMore h old new = (new ≡ old ++ h ∷ []) ⊎ (new ≡ old)
