-- Where the legality of a world ends, and why.
use Rattle.std.specs.Prelude.{◌≡◌, ◌≢◌, ℕ, ◌<◌, ◌-◌, Bool, true, nat_lt, List, take, slice_get, Some, None}
use Rattle.net_world.specs.declared.Why.{Why}
use Rattle.net_world.specs.declared.Why.TheVariants.{Ahead, Differs, Garbled}
use Rattle.net_world.specs.declared.way.Way.{Way}
use Rattle.net_world.specs.declared.way.Way.TheVariants.{Up, Down}
use Rattle.net_world.specs.Way.{next_out}
use Rattle.spec_model.specs.declared.event.ClientEvent.TheVariants as clients
use Rattle.spec_model.specs.declared.event.ServerEvent.TheVariants as servers
use Rattle.spec_model.specs.declared.event.WorldEvent.{WorldEvent}
use Rattle.spec_model.specs.declared.event.WorldEvent.TheVariants.{Client, Server}
use Rattle.spec_model.specs.World.{IsLegal}

-- whether the connection of an event, if it has one, is below a number
abbrev pub is_below : ℕ → WorldEvent → Bool
is_below count (Client (clients.Sends conn message)) = nat_lt conn count
is_below count (Client (clients.Receives conn message)) = nat_lt conn count
is_below count (Client (clients.Garbles conn)) = nat_lt conn count
is_below count (Server (servers.Take conn message)) = nat_lt conn count
is_below count (Server (servers.Send conn message)) = nat_lt conn count
is_below count _ = true

-- Why this message may not come out behind this world: nothing is under way, or another message is to come out next.
abbrev pub MayNotCome : Way → List WorldEvent → ℕ → List ℕ → Why → Type 0
MayNotCome way world conn message Ahead = next_out way conn world ≡ None
MayNotCome way world conn message Differs = (next : List ℕ) × (next_out way conn world ≡ Some next) × (next ≢ message)
MayNotCome way world conn message Garbled = ⊥

-- garbled bytes may come nowhere, and for that reason alone
abbrev pub IsGarbledBytes : Why → Type 0
IsGarbledBytes Garbled = Unit {0}
IsGarbledBytes _ = ⊥

-- Why this event may not follow this world.
abbrev pub MayNotFollow : List WorldEvent → WorldEvent → Why → Type 0
MayNotFollow world (Server (servers.Take conn message)) why = MayNotCome Up world conn message why
MayNotFollow world (Client (clients.Receives conn message)) why = MayNotCome Down world conn message why
MayNotFollow world (Client (clients.Garbles conn)) why = IsGarbledBytes why
MayNotFollow world _ why = ⊥

-- Legality ends at this place, from 1, for this reason: what stands before it is legal, and with the event there it is not.
pub record EndsAt (world : List WorldEvent) (place : ℕ) (why : Why) : Type 0 where
  pub from_one : 0 < place
  pub before : IsLegal (take (place - 1) world)
  pub ends : ¬ IsLegal (take place world)
  pub event : WorldEvent
  pub there : slice_get world (place - 1) ≡ Some event
  pub reason : MayNotFollow (take (place - 1) world) event why
