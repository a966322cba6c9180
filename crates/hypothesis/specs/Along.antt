-- How a skeleton is followed along a dual.
use Rattle.std.specs.Prelude.{◌≡◌, ℕ, ◌≤◌, ◌<◌, IsSomeAnd, List, [], ◌∷◌, ◌++◌, length, take, Option, Some}
use Rattle.spec_model.specs.declared.event.ClientEvent.{ClientEvent}
use Rattle.spec_model.specs.declared.event.Mark.{Mark}
use Rattle.spec_model.specs.declared.event.ServerEvent.{ServerEvent}
use Rattle.spec_model.specs.declared.tree.Spec.{Spec}
use Rattle.spec_model.specs.Alike.{RunWith, SkeletonExplains}
use Rattle.spec_model.specs.Layout.{LaysOutLate}
use Rattle.spec_model.specs.Least.{IsKeptSkeleton}
use Rattle.spec_model.specs.Skeleton.{sends_in}
use Rattle.spec_model.specs.World.{client_receipts}
use Rattle.dual_tree.specs.Dual.{DualFields}
use Rattle.hypothesis.specs.declared.course.Along.{Along}
use Rattle.hypothesis.specs.declared.along.Reached.{Reached}
use Rattle.hypothesis.specs.declared.along.Way.{Way}
use Rattle.hypothesis.specs.declared.hypothesis.Hypothesis.{Hypothesis}
use Rattle.hypothesis.specs.Expansions.{HoldsSends}
use Rattle.hypothesis.specs.Judged.{PicksNothing}
use Rattle.hypothesis.specs.Received.{with_receipt}
use Rattle.hypothesis.specs.Stands.{StandsFor}

-- Its end stands for the skeleton, and its blocks lay the events of each run with the skeleton that explains the exchange out late.
pub record GoesAlong (dual : DualFields) (exchange : List ClientEvent) (skeleton : List Mark) (along : Along) : Type 0 where
  pub stands : StandsFor dual exchange skeleton along.end
  pub late : (events : List ServerEvent) → RunWith dual.spec exchange skeleton events → LaysOutLate exchange along.blocks.items events

-- expand made it by this mark
abbrev pub IsMadeBy : Mark → Hypothesis → Type 0
IsMadeBy mark h = h.mark ≡ Some mark

-- What a mark makes of a hypothesis, where clients sent what the inbox holds: one that stands for the skeleton with the mark; or none,
-- where the skeleton with the mark does not explain the exchange.
abbrev pub GoesOnBy : DualFields → List (List (List ℕ)) → Hypothesis → Mark → Option Hypothesis → Type 0
GoesOnBy dual inbox h mark next =
    (exchange : List ClientEvent) (skeleton : List Mark) → PicksNothing dual.spec → HoldsSends exchange dual.shape.conns inbox
    → StandsFor dual exchange skeleton h → SkeletonExplains dual.spec exchange (skeleton ++ mark ∷ [])
    → IsSomeAnd next (StandsFor dual exchange (skeleton ++ mark ∷ []))

-- Behind so many marks more the skeleton has sent the message that a client receives next on the connection, and not before.
pub record SendsBehind (spec : Spec) (exchange : List ClientEvent) (conn : ℕ) (message : List ℕ) (skeleton marks : List Mark) (count : ℕ) : Type 0 where
  pub within : count ≤ length marks
  pub explains : SkeletonExplains spec (with_receipt exchange conn message) (skeleton ++ take count marks)
  pub before : (fewer : ℕ) → fewer < count → sends_in conn (skeleton ++ take fewer marks) ≡ length (client_receipts conn exchange)

-- Where the skeleton sends the message behind so many of the marks, these are made, and the hypothesis behind them has received it.
abbrev pub ReachesReceipt : DualFields → List (List (List ℕ)) → Hypothesis → List Mark → ℕ → List ℕ → Option Reached → Type 0
ReachesReceipt dual inbox h marks conn message reached =
    (exchange : List ClientEvent) (skeleton : List Mark) (count : ℕ) → PicksNothing dual.spec → HoldsSends exchange dual.shape.conns inbox
    → StandsFor dual exchange skeleton h → SendsBehind dual.spec exchange conn message skeleton marks count
    → IsSomeAnd reached (λ (r : Reached). (r.count ≡ count) × StandsFor dual (with_receipt exchange conn message) (skeleton ++ take count marks) r.end)

-- The marks made are the skeleton of a short run that explains the exchange, and they are followed along it.
pub record IsAt (dual : DualFields) (exchange : List ClientEvent) (skeleton : List Mark) (way : Way) : Type 0 where
  pub within : way.made ≤ length skeleton
  pub kept : IsKeptSkeleton dual.spec exchange (take way.made skeleton)
  pub goes : GoesAlong dual exchange (take way.made skeleton) way.along

-- A skeleton that explains a longer exchange, and is followed along a first part of it, is followed along one event more.
abbrev pub FollowsOn : DualFields → List Mark → ClientEvent → List (List (List ℕ)) → List (List (List ℕ)) → Way → Option Way → Type 0
FollowsOn dual skeleton event inbox new_inbox way next =
    (exchange more : List ClientEvent) → PicksNothing dual.spec → HoldsSends exchange dual.shape.conns inbox → IsAt dual exchange skeleton way
    → IsKeptSkeleton dual.spec (exchange ++ event ∷ more) skeleton
    → HoldsSends (exchange ++ event ∷ []) dual.shape.conns new_inbox × IsSomeAnd next (IsAt dual (exchange ++ event ∷ []) skeleton)
