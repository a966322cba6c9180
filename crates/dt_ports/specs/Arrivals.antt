-- Where a link in memory stands among its receive steps.
use Rattle.std.specs.Prelude.{ℕ, ◌≤◌, List, [], ◌∷◌, ◌++◌, length, take, drop, flat_map}
use Rattle.dt_ports.specs.declared.steps.Incoming.{Incoming}
use Rattle.dt_ports.specs.declared.steps.Incoming.TheVariants.{Piece, NotReady, Failed, End}
use Rattle.dt_ports.specs.MemLink.{Arrival}

-- the bytes that a step gives, and those that the first of some steps gives
abbrev pub bytes_of_step : Incoming → List ℕ
bytes_of_step (Piece bytes) = bytes
bytes_of_step NotReady = []
bytes_of_step Failed = []
bytes_of_step End = []

abbrev pub first_bytes : List Incoming → List ℕ
first_bytes [] = []
first_bytes (step ∷ later) = bytes_of_step step

-- the steps after so many first bytes of the first of them were taken
abbrev pub step_without : ℕ → Incoming → Incoming
step_without taken (Piece bytes) = Piece (drop taken bytes)
step_without taken NotReady = NotReady
step_without taken Failed = Failed
step_without taken End = End

abbrev pub steps_without : ℕ → List Incoming → List Incoming
steps_without taken [] = []
steps_without taken (step ∷ later) = step_without taken step ∷ later

-- what is left, and what came, where some steps and some bytes of the next one are done
abbrev pub arrival_at : List Incoming → ℕ → ℕ → Arrival
arrival_at steps passed taken = record {
  left = steps_without taken (drop passed steps);
  got = flat_map bytes_of_step (take passed steps) ++ take taken (first_bytes (drop passed steps));
}

-- No more bytes of a step are done than it has.
abbrev pub IsWithinStep : List Incoming → ℕ → ℕ → Type 0
IsWithinStep steps passed taken = taken ≤ length (first_bytes (drop passed steps))
