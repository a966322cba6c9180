-- How a server follows a skeleton.
use Rattle.std.specs.Prelude.{◌≡◌, ℕ, List, ◌∷◌, Option, Some}
use Rattle.std.specs.Vec.Iter.{into_iter_items}
use Rattle.spec_model.specs.declared.config.Config.{Config}
use Rattle.spec_model.specs.declared.event.ClientEvent.{ClientEvent}
use Rattle.spec_model.specs.declared.event.Mark.{Mark}
use Rattle.spec_model.specs.declared.event.ServerEvent.{ServerEvent}
use Rattle.spec_model.specs.declared.tree.Spec.{Spec}
use Rattle.spec_model.specs.Alike.{RunWith}
use Rattle.spec_model.specs.Run.{Steps}
use Rattle.spec_model.specs.Skeleton.{mark_of, picks_of, skeleton_of}
use Rattle.spec_model.specs.World.{IsPrefixOf, server_takes}
use Rattle.net_world.specs.declared.way.Way.TheVariants.{Up}
use Rattle.net_world.specs.Net.{UnderWay, queue}
use Rattle.server_run.specs.Options.{HasStep}
use Rattle.explain_replay.specs.declared.follower.Follower.{Follower}

-- The events are a run with the skeleton that explains the exchange, and they pick these texts.
pub record RunPicking (spec : Spec) (exchange : List ClientEvent) (skeleton : List Mark) (texts : List (List ℕ)) (events : List ServerEvent) : Type 0 where
  pub run : RunWith spec exchange skeleton events
  pub picks : picks_of events ≡ texts

-- What the events take on each connection is the first that is under way to the server, and they pick these texts.
pub record AreSupplied (net : List UnderWay) (texts : List (List ℕ)) (events : List ServerEvent) : Type 0 where
  pub takes : (conn : ℕ) → IsPrefixOf (server_takes conn events) (queue Up conn net)
  pub picks : picks_of events ≡ texts

-- The events lie ahead of a follower: they have these marks, its server goes on by them, and it has what they take and pick.
pub record LieAhead (follower : Follower) (marks : List Mark) (events : List ServerEvent) : Type 0 where
  pub has : skeleton_of events ≡ marks
  pub end : Config
  pub steps : Steps follower.server.spec follower.server.config events end
  pub supplied : AreSupplied follower.net (into_iter_items follower.texts) events

-- The next event is the one with this mark where one such event lies ahead: what it takes or picks is then used up.
abbrev pub FindsNext : Follower → Mark → Follower → Option ServerEvent → Type 0
FindsNext old mark new found =
    (event : ServerEvent) (events : List ServerEvent) → mark_of event ≡ mark → HasStep old.server.spec old.server.config event
    → AreSupplied old.net (into_iter_items old.texts) (event ∷ events)
    → (found ≡ Some event) × AreSupplied new.net (into_iter_items new.texts) events

-- Where an event with this mark lies ahead it is made, and what lay behind it then lies ahead.
abbrev pub GoesOn : Follower → Mark → Follower → Option ServerEvent → Type 0
GoesOn old mark new made =
    (marks : List Mark) (event : ServerEvent) (events : List ServerEvent) → LieAhead old (mark ∷ marks) (event ∷ events)
    → (made ≡ Some event) × LieAhead new marks events
