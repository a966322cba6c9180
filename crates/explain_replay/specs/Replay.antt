-- Why a world does not explain an exchange.
use Rattle.std.specs.Prelude.{◌≡◌, ◌≢◌, ℕ, ◌-◌, ◌<◌, List, take, slice_get}
use Rattle.spec_model.specs.declared.event.ClientEvent.{ClientEvent}
use Rattle.spec_model.specs.declared.event.WorldEvent.{WorldEvent}
use Rattle.spec_model.specs.declared.tree.Spec.{Spec}
use Rattle.spec_model.specs.Run.{IsRun}
use Rattle.spec_model.specs.World.{IsLegal, clients_of, server_of}
use Rattle.net_world.specs.declared.Why.{Why}
use Rattle.net_world.specs.Legality.{EndsAt}
use Rattle.explain_replay.specs.declared.replay.ReplayRefusal.{ReplayRefusal}
use Rattle.explain_replay.specs.declared.replay.ReplayRefusal.TheVariants.{NotLegal, NotServer, NotExchange, Memory}

-- The event at this place of a world, from 1, is the first server event that is no step: the server events before it are a run, and
-- with it they are none.
pub record FirstNoStep (spec : Spec) (world : List WorldEvent) (place : ℕ) : Type 0 where
  pub from_one : 0 < place
  pub before : IsRun spec (server_of (take (place - 1) world))
  pub ends : ¬ IsRun spec (server_of (take place world))

-- At this place, from 1, two lists differ first; one of them may have no item there.
pub record FirstDifference {A : Type 0} (first second : List A) (place : ℕ) : Type 0 where
  pub from_one : 0 < place
  pub before : take (place - 1) first ≡ take (place - 1) second
  pub differs : slice_get first (place - 1) ≢ slice_get second (place - 1)

-- Why the world does not explain the exchange: it is not legal; or it is, and its server events are no run; or they are one, and its
-- client events are not the exchange. Each with the place at which that is first seen. Want of memory says nothing.
abbrev pub IsRefused : Spec → List ClientEvent → List WorldEvent → ReplayRefusal → Type 0
IsRefused spec exchange world (NotLegal place) = (why : Why) × EndsAt world place why
IsRefused spec exchange world (NotServer place) = IsLegal world × FirstNoStep spec world place
IsRefused spec exchange world (NotExchange place) =
    IsLegal world × IsRun spec (server_of world) × FirstDifference exchange (clients_of world) place
IsRefused spec exchange world Memory = Unit {0}
