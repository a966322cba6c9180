-- A dialer in memory.
use Rattle.std.specs.Prelude.{ℕ, ◌≤◌, Bool, ◌&&◌, nat_lt, nat_le, List, length, Contains}
use Rattle.dt_ports.specs.declared.dialer.Request.{Request}
use Rattle.dt_ports.specs.declared.dialer.TheConstants.{ADDRESS_LIMIT}
use Rattle.dt_ports.specs.Count.{next_count}

-- The links left to give, the numbers of the calls that fail, how many calls were made, the addresses that it was given,
-- how many there may ever be, whether it listens, and how many calls failed.
pub record DialerInMemory (L : Type 0) : Type 0 where
  pub links : List L
  pub failing : List ℕ
  pub made : ℕ
  pub requests : List Request
  pub room : ℕ
  pub is_listening : Bool
  pub faults : ℕ

-- the dialer after one more call was counted, and after one that failed
abbrev pub after_call : {L : Type 0} → DialerInMemory L → DialerInMemory L
after_call dialer = record dialer { made = next_count dialer.made }

abbrev pub after_fault : {L : Type 0} → DialerInMemory L → DialerInMemory L
after_fault dialer = record dialer { made = next_count dialer.made; faults = next_count dialer.faults }

-- The next call is one of those that fail.
abbrev pub NextFails : {L : Type 0} → DialerInMemory L → Type 0
NextFails dialer = Contains dialer.failing (next_count dialer.made)

-- whether there is room for an address
abbrev pub has_room : {L : Type 0} → DialerInMemory L → List ℕ → Bool
has_room dialer address = nat_lt (length dialer.requests) dialer.room && nat_le (length address) ADDRESS_LIMIT
