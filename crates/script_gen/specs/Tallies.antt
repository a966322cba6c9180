-- How connections stand behind actions, which private functions cite alone.
use Rattle.std.specs.Prelude.{◌≡◌, ℕ, ◌+◌, ◌<◌, true, false, List, length, slice_get, Some}
use Rattle.exchange_text.specs.declared.action.Action.{Action}
use Rattle.exchange_text.specs.declared.action.Action.TheVariants.{Send, Await}
use Rattle.script_gen.specs.declared.draft.Tally.{Tally}
use Rattle.script_gen.specs.Generator.{ends_in_send, sends_on}

abbrev pub tally_of : List (ℕ × Action) → ℕ → Tally
tally_of actions conn = record { sends = sends_on conn actions; ends_in_send = ends_in_send conn actions }

-- one action of the connection more
abbrev pub tally_behind : Tally → Action → Tally
tally_behind tally (Send parts) = record { sends = tally.sends + 1; ends_in_send = true }
tally_behind tally (Await count) = record { sends = tally.sends; ends_in_send = false }

-- There is a tally for each of so many connections, which says how it stands.
pub record AreTallies (conns : ℕ) (actions : List (ℕ × Action)) (tallies : List Tally) : Type 0 where
  pub all : length tallies ≡ conns
  pub each : (conn : ℕ) → conn < conns → slice_get tallies conn ≡ Some (tally_of actions conn)
