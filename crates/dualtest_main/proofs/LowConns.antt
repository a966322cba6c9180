-- The connections of a world that fits the shape of an accepted specification are low.
use Rattle.std.proofs.Common.{◌≡◌, ◌<◌, ◌≤◌, ℕ, List, [], ◌∷◌, true, nat_lt, refl, arith}
use Rattle.std.specs.List.{AllByRecursion, list_all}
use Rattle.std.proofs.lemmas.Bool.{lt-ltb}
use Rattle.spec_model.specs.declared.event.ClientEvent.TheVariants as clients
use Rattle.spec_model.specs.declared.event.ServerEvent.TheVariants as servers
use Rattle.spec_model.specs.declared.event.Shape.{Shape}
use Rattle.spec_model.specs.declared.event.WorldEvent.{WorldEvent}
use Rattle.spec_model.specs.declared.event.WorldEvent.TheVariants.{Client, Server}
use Rattle.net_world.specs.declared.TheConstants.{CONNS}
use Rattle.net_world.specs.Legality.{is_below}
use Rattle.exchange_text.specs.WorldText.{IsWorldEvent}

module _ (shape : Shape) (few : shape.conns ≤ CONNS) where
  low : (conn : ℕ) → conn < shape.conns → nat_lt conn CONNS ≡ true
  low conn within = lt-ltb conn CONNS (omega (arith, few, within))

  event_low : (event : WorldEvent) → IsWorldEvent shape event → is_below CONNS event ≡ true
  event_low (Client (clients.Sends conn message)) fits = low conn fits.0
  event_low (Client (clients.Receives conn message)) fits = low conn fits.0
  event_low (Client (clients.Garbles conn)) fits = low conn fits
  event_low (Server (servers.Take conn message)) fits = low conn fits.0
  event_low (Server (servers.Send conn message)) fits = low conn fits.0
  event_low (Server (servers.Arm arm)) fits = refl
  event_low (Server (servers.Test outcome)) fits = refl
  event_low (Server (servers.Pick text)) fits = refl

  pub world_low : (world : List WorldEvent) → AllByRecursion (IsWorldEvent shape) world → list_all (is_below CONNS) world ≡ true
  world_low [] fits = refl
  world_low (event ∷ world) fits = rw (event_low event fits.0, world_low world fits.1) refl
