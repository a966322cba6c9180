-- Counts of answers.
use Rattle.std.specs.Prelude.{ℕ, ◌+◌, ◌-◌, ◌^◌, ◌<◌, nat_lt, if◌then◌else◌, Result, Ok, Err}
use Rattle.dt_ports.specs.declared.count.Failed.{Failed}

-- the greatest number of 64 bits, at which a count stands still
abbrev pub last_count : ℕ
last_count = 2 ^ 64 - 1

-- the count after one more answer: one more, but a count that stands at the greatest number stands there still
abbrev pub next_count : ℕ → ℕ
next_count count = if nat_lt count last_count then count + 1 else count

-- The count rose, unless it stood at its last value.
abbrev pub Rose : ℕ → ℕ → Type 0
Rose old new = old < last_count → old < new

-- the count of faults after an answer of a call whose one fault is Failed
abbrev pub faults_after : {A : Type 0} → Result A Failed → ℕ → ℕ
faults_after (Ok value) faults = faults
faults_after (Err failed) faults = next_count faults
