-- What a part of a turn saw, and what it left.
use Rattle.std.specs.Prelude.{◌≡◌, ◌≢◌, ℕ, ◌≤◌, Bool, true, false, not, ◌&&◌, ◌||◌, if◌then◌else◌, MatchBool, is_none, List, [], length, Option, Some, None}
use Rattle.std.specs.List.{slice_get}
use Rattle.conn_worker.specs.declared.seen.Seen.{Seen}
use Rattle.conn_worker.specs.Driving.{Course, Fits}
use Rattle.conn_worker.specs.Turn.{AddsOn, Moment, Moved, SameTask}
use Rattle.dt_ports.specs.Count.{Rose, next_count}
use Rattle.dt_ports.specs.Link.{LinkShows}
use Rattle.dt_ports.specs.declared.book.BookCounts.{BookCounts}
use Rattle.dt_ports.specs.declared.end.End.{End}
use Rattle.dt_ports.specs.declared.end.End.TheVariants as ends
use Rattle.dt_ports.specs.declared.link.LinkCounts.{LinkCounts}
use Rattle.dt_ports.specs.declared.link.RecvStep.{RecvStep}
use Rattle.dt_ports.specs.declared.link.RecvStep.TheVariants as receives
use Rattle.exchange_text.specs.declared.action.Action.{Action}
use Rattle.exchange_text.specs.declared.action.Action.TheVariants.{Send, Await}
use Rattle.spec_model.specs.declared.event.ClientEvent.{ClientEvent}
use Rattle.spec_model.specs.declared.event.Verdict.{Verdict}
use Rattle.spec_model.specs.declared.event.Verdict.TheVariants.{Open, Reject, Inconclusive}

abbrev pub nothing_seen : Seen
nothing_seen = record { failed = false; full = false; garbled = false; ended = false; stopped = false; moved = false }

-- what the answer to a receive shows
abbrev pub received_seen : RecvStep → Seen
received_seen (receives.Got count) = record nothing_seen { moved = true }
received_seen receives.NotReady = nothing_seen
received_seen receives.End = record nothing_seen { ended = true }
received_seen receives.Failed = record nothing_seen { failed = true }

-- whether a verdict ends the driving
abbrev pub stops : Verdict → Bool
stops Open = false
stops (Reject event) = true
stops (Inconclusive event) = true

abbrev pub both_seen : Seen → Seen → Seen
both_seen first later = record {
  failed = first.failed || later.failed;
  full = first.full || later.full;
  garbled = first.garbled || later.garbled;
  ended = first.ended || later.ended;
  stopped = first.stopped || later.stopped;
  moved = first.moved || later.moved;
}

-- the end that is due, the first one in order
abbrev pub end_seen : Seen → Option End
end_seen seen =
    if seen.failed then Some ends.Failed else
    if seen.full then Some ends.Full else
    if seen.garbled then Some ends.Garbled else
    if seen.ended then Some ends.Ended else
    if seen.stopped then Some ends.Stopped else None

-- A count rose where that is said, and else it stood still.
abbrev pub Tells : Bool → ℕ → ℕ → Type 0
Tells true old new = (old ≤ new) × Rose old new
Tells false old new = new ≡ old

-- What is told is no shorter.
abbrev pub NoShorter : Option (List ℕ) → Option (List ℕ) → Type 0
NoShorter (Some old) (Some new) = length old ≤ length new
NoShorter (Some old) None = ⊥
NoShorter None (Some new) = ⊥
NoShorter None None = Unit {0}

abbrev pub shows : Option (List ℕ) → Option (List ℕ) → LinkCounts → LinkShows
shows sent got counts = record { sent = sent; got = got; counts = counts }

-- a driver of this link, with a book that keeps these events
abbrev pub at : LinkShows → Course → List ClientEvent → BookCounts → Moment
at link course events counts =
    record { driving = record { link = link; course = course }; events = events; counts = counts }

-- What each part of a turn keeps.
pub record Keeps (old new : Moment) : Type 0 where
  pub task : SameTask old.driving.course new.driving.course
  pub adds : AddsOn old.driving.course.conn old.events new.events
  pub fits : Fits old.driving old.events → Fits new.driving new.events

-- Nothing moved.
pub record IsStill (old new : Moment) : Type 0 where
  pub events : new.events ≡ old.events
  pub passed : new.driving.course.passed ≡ old.driving.course.passed
  pub output : new.driving.course.output ≡ old.driving.course.output
  pub idle : new.driving.course.idle ≡ old.driving.course.idle

-- A part of a turn saw this.
pub record Saw (old new : Moment) (seen : Seen) : Type 0 where
  pub keeps : Keeps old new
  pub failed : Tells seen.failed old.driving.link.counts.faults new.driving.link.counts.faults
  pub full : Tells seen.full old.counts.fulls new.counts.fulls
  pub ended : Tells seen.ended old.driving.link.counts.ends new.driving.link.counts.ends
  pub stopped : Tells seen.stopped old.counts.stops new.counts.stops
  pub sent : NoShorter old.driving.link.sent new.driving.link.sent
  pub got : NoShorter old.driving.link.got new.driving.link.got
  pub given_up : new.driving.course.given_up ≡ old.driving.course.given_up
  pub moved : MatchBool seen.moved (Moved old new) (IsStill old new)

-- whether a part of a turn saw nothing at all
abbrev pub is_quiet : Seen → Bool
is_quiet seen = is_none (end_seen seen) && not seen.moved

-- The next action is no send.
abbrev pub IsNoSend : Option Action → Type 0
IsNoSend None = Unit {0}
IsNoSend (Some (Await count)) = Unit {0}
IsNoSend (Some (Send parts)) = ⊥

-- Where all parts of a turn saw nothing, each call on the link answered that it is not ready.
pub record Waited (old new : Moment) (seen : Seen) : Type 0 where
  pub receives : is_quiet seen ≡ true → new.driving.link.counts.receives_not_ready ≡ next_count old.driving.link.counts.receives_not_ready
  pub sends : is_quiet seen ≡ true → new.driving.course.output ≢ [] →
      new.driving.link.counts.sends_not_ready ≡ next_count old.driving.link.counts.sends_not_ready
  pub next : is_quiet seen ≡ true → new.driving.course.output ≡ [] →
      IsNoSend (slice_get new.driving.course.actions new.driving.course.passed)
