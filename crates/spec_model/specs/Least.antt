-- The least explanation.
use Rattle.std.specs.Prelude.{◌≡◌, ◌⊎◌, List}
use Rattle.spec_model.specs.declared.event.ClientEvent.{ClientEvent}
use Rattle.spec_model.specs.declared.event.Mark.{Mark}
use Rattle.spec_model.specs.declared.event.ServerEvent.{ServerEvent}
use Rattle.spec_model.specs.declared.event.WorldEvent.{WorldEvent}
use Rattle.spec_model.specs.declared.tree.Spec.{Spec}
use Rattle.spec_model.specs.Alike.{RunWith}
use Rattle.spec_model.specs.Layout.{IsKept, IsLate}
use Rattle.spec_model.specs.Order.{AreTextsUpTo}
use Rattle.spec_model.specs.Run.{IsRun}
use Rattle.spec_model.specs.Skeleton.{Precedes, picks_of, skeleton_of}
use Rattle.spec_model.specs.World.{Explains, server_of}

-- A short run that explains the exchange.
pub record KeptRun (spec : Spec) (exchange : List ClientEvent) (events : List ServerEvent) : Type 0 where
  pub kept : IsKept exchange events
  pub run : IsRun spec events

-- the skeleton of such a run
pub record IsKeptSkeleton (spec : Spec) (exchange : List ClientEvent) (skeleton : List Mark) : Type 0 where
  pub events : List ServerEvent
  pub has : skeleton_of events ≡ skeleton
  pub kept : KeptRun spec exchange events

-- It is such a skeleton, and comes before each other one.
pub record IsLeastSkeleton (spec : Spec) (exchange : List ClientEvent) (skeleton : List Mark) : Type 0 where
  pub kept : IsKeptSkeleton spec exchange skeleton
  pub least : (other : List Mark) → IsKeptSkeleton spec exchange other → (other ≡ skeleton) ⊎ Precedes skeleton other

-- The world explains the exchange by a run with this skeleton, and in it the server moves as late as it can. Of all runs with the
-- skeleton that explain the exchange this one picks the least texts, in the order of the picks and by their bytes.
pub record IsLeastWorld (spec : Spec) (exchange : List ClientEvent) (skeleton : List Mark) (world : List WorldEvent) : Type 0 where
  pub explains : Explains spec world exchange
  pub has : skeleton_of (server_of world) ≡ skeleton
  pub picks : (events : List ServerEvent) → RunWith spec exchange skeleton events → AreTextsUpTo (picks_of (server_of world)) (picks_of events)
  pub late : IsLate world

-- The least explanation: the least world with the least skeleton of a short run that explains the exchange.
pub record IsLeastExplanation (spec : Spec) (world : List WorldEvent) (exchange : List ClientEvent) : Type 0 where
  pub skeleton : List Mark
  pub least : IsLeastSkeleton spec exchange skeleton
  pub least_world : IsLeastWorld spec exchange skeleton world
