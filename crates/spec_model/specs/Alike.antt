-- Which skeletons explain an exchange, and which of them are alike: their runs leave the same.
use Rattle.std.specs.Prelude.{◌≡◌, ◌↔◌, List}
use Rattle.spec_model.specs.declared.config.Config.{Config}
use Rattle.spec_model.specs.declared.event.ClientEvent.{ClientEvent}
use Rattle.spec_model.specs.declared.event.Mark.{Mark}
use Rattle.spec_model.specs.declared.event.ServerEvent.{ServerEvent}
use Rattle.spec_model.specs.declared.tree.Spec.{Spec}
use Rattle.spec_model.specs.Layout.{RunExplains}
use Rattle.spec_model.specs.Remainder.{Remainder, remainder_of}
use Rattle.spec_model.specs.Run.{RunsTo}
use Rattle.spec_model.specs.Skeleton.{skeleton_of}

-- The events are a run with this skeleton, and it explains the exchange.
pub record RunWith (spec : Spec) (exchange : List ClientEvent) (skeleton : List Mark) (events : List ServerEvent) : Type 0 where
  pub has : skeleton_of events ≡ skeleton
  pub explains : RunExplains spec exchange events

-- A skeleton explains an exchange where some run that has it does.
abbrev pub SkeletonExplains : Spec → List ClientEvent → List Mark → Type 0
SkeletonExplains spec exchange skeleton = (events : List ServerEvent) × RunWith spec exchange skeleton events

-- Some run with the skeleton that explains the exchange ends so that this is left.
pub record Leaves (spec : Spec) (exchange : List ClientEvent) (skeleton : List Mark) (remainder : Remainder) : Type 0 where
  pub events : List ServerEvent
  pub run : RunWith spec exchange skeleton events
  pub end : Config
  pub ends : RunsTo spec events end
  pub leaves : remainder_of exchange end ≡ remainder

-- Two skeletons are alike at an exchange where the runs with the one that explain it leave the same as those with the other.
abbrev pub AreAlike : Spec → List ClientEvent → List Mark → List Mark → Type 0
AreAlike spec exchange skeleton other = (remainder : Remainder) → Leaves spec exchange skeleton remainder ↔ Leaves spec exchange other remainder
