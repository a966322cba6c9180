-- What a link tells and counts.
use Rattle.std.specs.Prelude.{◌≡◌, ℕ, ◌<◌, ◌≤◌, List, [], take, Option, IfSome}
use Rattle.dt_ports.specs.declared.link.LinkCounts.{LinkCounts}
use Rattle.dt_ports.specs.declared.link.RecvStep.{RecvStep}
use Rattle.dt_ports.specs.declared.link.RecvStep.TheVariants as receives
use Rattle.dt_ports.specs.declared.link.SendStep.{SendStep}
use Rattle.dt_ports.specs.declared.link.SendStep.TheVariants as sends
use Rattle.dt_ports.specs.Count.{next_count}
use Rattle.dt_ports.specs.Told.{told_with}

-- Of a piece of so many bytes a send takes one at least.
abbrev pub TakesSome : ℕ → SendStep → Type 0
TakesSome length (sends.Took count) = (0 < count) × (count ≤ length)
TakesSome length sends.NotReady = Unit {0}
TakesSome length sends.Failed = Unit {0}

-- Into a room of so many bytes a receive puts one at least.
abbrev pub GetsSome : ℕ → RecvStep → Type 0
GetsSome length (receives.Got count) = (0 < count) × (count ≤ length)
GetsSome length receives.NotReady = Unit {0}
GetsSome length receives.End = Unit {0}
GetsSome length receives.Failed = Unit {0}

-- what is told to be sent after a send of a piece
abbrev pub sent_after : List ℕ → SendStep → Option (List ℕ) → Option (List ℕ)
sent_after piece (sends.Took count) told = told_with (take count piece) told
sent_after piece sends.NotReady told = told
sent_after piece sends.Failed told = told

-- what is told to be got after a receive that left these bytes in the room
abbrev pub got_after : List ℕ → RecvStep → Option (List ℕ) → Option (List ℕ)
got_after room (receives.Got count) told = told_with (take count room) told
got_after room receives.NotReady told = told
got_after room receives.End told = told
got_after room receives.Failed told = told

-- the counts of a link that gave no answer yet
abbrev pub no_answers : LinkCounts
no_answers = record { faults = 0; sends_not_ready = 0; receives_not_ready = 0; ends = 0 }

-- the counts after the answer to a send, and to a receive
abbrev pub counts_after_send : SendStep → LinkCounts → LinkCounts
counts_after_send (sends.Took count) counts = counts
counts_after_send sends.NotReady counts = record counts { sends_not_ready = next_count counts.sends_not_ready }
counts_after_send sends.Failed counts = record counts { faults = next_count counts.faults }

abbrev pub counts_after_receive : RecvStep → LinkCounts → LinkCounts
counts_after_receive (receives.Got count) counts = counts
counts_after_receive receives.NotReady counts =
    record counts { receives_not_ready = next_count counts.receives_not_ready }
counts_after_receive receives.End counts = record counts { ends = next_count counts.ends }
counts_after_receive receives.Failed counts = record counts { faults = next_count counts.faults }

-- what a link shows: the bytes sent and got, where it tells them, and the counts
pub record LinkShows : Type 0 where
  pub sent : Option (List ℕ)
  pub got : Option (List ℕ)
  pub counts : LinkCounts

-- A link with these counts, which tells this of what it sent and got, is fresh where it gave no answer yet and, where it
-- tells, sent and got nothing.
abbrev pub IsFresh : LinkCounts → Option (List ℕ) → Option (List ℕ) → Type 0
IsFresh counts sent got =
    (counts ≡ no_answers) × IfSome sent (λ bytes. bytes ≡ []) × IfSome got (λ bytes. bytes ≡ [])

-- No count of a link fell.
pub record NoLinkCountFell (old new : LinkCounts) : Type 0 where
  pub faults : old.faults ≤ new.faults
  pub sends_not_ready : old.sends_not_ready ≤ new.sends_not_ready
  pub receives_not_ready : old.receives_not_ready ≤ new.receives_not_ready
  pub ends : old.ends ≤ new.ends
