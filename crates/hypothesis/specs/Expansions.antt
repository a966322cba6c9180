-- The expansions of a hypothesis.
use Rattle.std.specs.Prelude.{◌≡◌, ℕ, ◌<◌, List, [], ◌∷◌, ◌++◌, slice_index_or, Option, Some}
use Rattle.std.specs.List.{All, AllPairs, Any}
use Rattle.spec_model.specs.declared.event.ClientEvent.{ClientEvent}
use Rattle.spec_model.specs.declared.event.Mark.{Mark}
use Rattle.spec_model.specs.Alike.{SkeletonExplains}
use Rattle.spec_model.specs.Skeleton.{ComesBefore}
use Rattle.spec_model.specs.World.{client_sends}
use Rattle.dual_tree.specs.Dual.{DualFields}
use Rattle.hypothesis.specs.declared.hypothesis.Hypothesis.{Hypothesis}
use Rattle.hypothesis.specs.Stands.{StandsFor}

-- An inbox holds what the clients sent in the exchange on each of so many connections.
abbrev pub HoldsSends : List ClientEvent → ℕ → List (List (List ℕ)) → Type 0
HoldsSends exchange conns inbox = (conn : ℕ) → conn < conns → slice_index_or inbox conn [] ≡ client_sends conn exchange

-- A hypothesis has gone on by a mark: it stands for the skeleton with the mark, which its step does not have yet.
pub record GoesOneFurther (dual : DualFields) (exchange : List ClientEvent) (skeleton : List Mark) (old new : Hypothesis) : Type 0 where
  pub mark : Mark
  pub by : new.mark ≡ Some mark
  pub step : new.step ≡ old.step
  pub stands : StandsFor dual exchange (skeleton ++ mark ∷ []) new

-- the first was made by a mark that comes before that of the other
abbrev pub MadeBefore : Hypothesis → Hypothesis → Type 0
MadeBefore h other = MarkedBefore h.mark other.mark
  where
    MarkedBefore : Option Mark → Option Mark → Type 0
    MarkedBefore (Some mark) (Some other) = ComesBefore mark other
    MarkedBefore _ _ = ⊥

-- In skeleton order, one hypothesis for each mark by which the skeleton goes on and still explains the exchange; it stands for the
-- skeleton that has gone on.
pub record AreExpansions (dual : DualFields) (exchange : List ClientEvent) (skeleton : List Mark) (h : Hypothesis) (hs : List Hypothesis) : Type 0 where
  pub each : All (GoesOneFurther dual exchange skeleton h) hs
  pub all : (mark : Mark) → SkeletonExplains dual.spec exchange (skeleton ++ mark ∷ []) → Any (λ (made : Hypothesis). made.mark ≡ Some mark) hs
  pub ordered : AllPairs MadeBefore hs
