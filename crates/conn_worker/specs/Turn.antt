-- What a turn of a driver does, and why it answers what it answers.
use Rattle.std.specs.Prelude.{◌≡◌, ◌≢◌, ◌⊎◌, ℕ, ◌+◌, ◌-◌, ◌<◌, ◌≤◌, Bool, true, false, List, [], ◌∷◌, ◌++◌, length, Option, Some, None, IfSome, Result, Ok, Err}
use Rattle.std.specs.List.{AllByRecursion, slice_get}
use Rattle.conn_worker.specs.declared.DriverState.{DriverState}
use Rattle.conn_worker.specs.declared.DriverState.TheVariants.{Going, Over}
use Rattle.conn_worker.specs.declared.TheConstants.{IDLE_TURNS}
use Rattle.conn_worker.specs.Driving.{Course, Driving, conn_of, is_garbled_on}
use Rattle.conn_worker.specs.Parts.{can_be_done, next_action}
use Rattle.dt_ports.specs.Count.{Rose}
use Rattle.dt_ports.specs.Flow.{Flows}
use Rattle.dt_ports.specs.declared.book.BookCounts.{BookCounts}
use Rattle.dt_ports.specs.declared.end.End.{End}
use Rattle.dt_ports.specs.declared.end.End.TheVariants as ends
use Rattle.frame_cut.specs.Frame.{IsGarbled, IsUnfinished}
use Rattle.spec_model.specs.Message.{frames_of}
use Rattle.spec_model.specs.World.{client_receipts, client_sends}
use Rattle.spec_model.specs.declared.event.ClientEvent.{ClientEvent}
use Rattle.spec_model.specs.declared.event.ClientEvent.TheVariants.{Garbles}
use Rattle.spec_model.specs.declared.event.Shape.{Shape}

-- a driver with its book: the events that the book's holder appended, and the counts of the book's answers
pub record Moment : Type 0 where
  pub driving : Driving
  pub events : List ClientEvent
  pub counts : BookCounts

abbrev pub moment : Driving → List ClientEvent → BookCounts → Moment
moment driving events counts = record { driving = driving; events = events; counts = counts }

-- A driver is of the same connection, shape and actions as another.
pub record SameTask (old new : Course) : Type 0 where
  pub shape : new.shape ≡ old.shape
  pub conn : new.conn ≡ old.conn
  pub actions : new.actions ≡ old.actions

-- The new events are the old ones, and behind them only events of this connection.
abbrev pub AddsOn : ℕ → List ClientEvent → List ClientEvent → Type 0
AddsOn conn old new = (more : List ClientEvent) × (new ≡ old ++ more) × AllByRecursion (λ event. conn_of event ≡ conn) more

-- What is told became more. Of what is not told nothing is known.
abbrev pub Grew : Option (List ℕ) → Option (List ℕ) → Type 0
Grew (Some old) (Some new) = length old < length new
Grew (Some old) None = ⊥
Grew None new = Unit {0}

-- In a turn bytes were handed over, bytes came, or an event was appended.
abbrev pub Moved : Moment → Moment → Type 0
Moved old new =
    Grew old.driving.link.sent new.driving.link.sent
    ⊎ (Grew old.driving.link.got new.driving.link.got ⊎ (length old.events < length new.events))

-- The turn was one more idle one, and left nothing undone that could be done.
pub record Waits (old new : Moment) : Type 0 where
  pub idle : new.driving.course.idle ≡ old.driving.course.idle + 1
  pub not_ready : Rose old.driving.link.counts.receives_not_ready new.driving.link.counts.receives_not_ready
  pub undone : new.driving.course.output ≡ [] → can_be_done (length new.driving.course.receipts) (next_action new.driving.course) ≡ false

-- The turn is the last of as many idle turns in a row as end the driving or give an await up: nothing was appended in it.
pub record IsLastIdle (old new : Moment) : Type 0 where
  pub before : old.driving.course.idle + 1 ≡ IDLE_TURNS
  pub events : new.events ≡ old.events

-- After idle turns an await was given up that is not met, and nothing was to be handed over.
pub record GaveUp (old new : Moment) : Type 0 where
  pub last_idle : IsLastIdle old new
  pub given_up : new.driving.course.given_up ≡ old.driving.course.given_up + 1
  pub handed_over : new.driving.course.output ≡ []
  pub unmet : can_be_done (length new.driving.course.receipts) (slice_get new.driving.course.actions (new.driving.course.passed - 1)) ≡ false

-- The turn got on, or gave up an await; the count of idle turns begins anew.
pub record GetsOn (old new : Moment) : Type 0 where
  pub idle : new.driving.course.idle ≡ 0
  pub why : Moved old new ⊎ GaveUp old new

-- no call on the link failed, no event was refused, nothing garbled came, the link did not end, and no verdict was shown that stops
abbrev pub IsFaultless : Moment → Moment → Type 0
IsFaultless old new = new.driving.link.counts.faults ≡ old.driving.link.counts.faults

abbrev pub IsKept : Moment → Moment → Type 0
IsKept old new = new.counts.fulls ≡ old.counts.fulls

abbrev pub IsUngarbled : Moment → Type 0
IsUngarbled new = is_garbled_on new.driving.course.conn new.events ≡ false

abbrev pub IsUnended : Moment → Moment → Type 0
IsUnended old new = new.driving.link.counts.ends ≡ old.driving.link.counts.ends

abbrev pub IsUnstopped : Moment → Moment → Type 0
IsUnstopped old new = new.counts.stops ≡ old.counts.stops

-- Nothing of that kind ends the driving.
pub record GoesOn (old new : Moment) : Type 0 where
  pub faultless : IsFaultless old new
  pub kept : IsKept old new
  pub ungarbled : IsUngarbled new
  pub unended : IsUnended old new
  pub unstopped : IsUnstopped old new

-- The last event is that garbled bytes came on this connection.
abbrev pub EndsGarbled : ℕ → List ClientEvent → Type 0
EndsGarbled conn events = (before : List ClientEvent) × (events ≡ before ++ Garbles conn ∷ [])

-- All was done: each action is passed, all is handed over, and the last turns were idle.
pub record IsDone (old new : Moment) : Type 0 where
  pub last_idle : IsLastIdle old new
  pub passed : new.driving.course.passed ≡ length new.driving.course.actions
  pub handed_over : new.driving.course.output ≡ []
  pub sent : IfSome new.driving.link.sent (λ bytes.
      bytes ≡ frames_of new.driving.course.shape.framing (client_sends new.driving.course.conn new.events))
  pub idle : new.driving.course.idle ≡ IDLE_TURNS
  pub not_ready : IDLE_TURNS ≤ new.driving.link.counts.receives_not_ready

-- There is output, and the last turns were idle.
pub record IsIdle (old new : Moment) : Type 0 where
  pub last_idle : IsLastIdle old new
  pub output : new.driving.course.output ≢ []
  pub idle : new.driving.course.idle ≡ IDLE_TURNS
  pub not_ready : IDLE_TURNS ≤ new.driving.link.counts.sends_not_ready

-- Why a turn answers an end. Where several are due, the first of these is answered: Failed, Full, Garbled, Ended, Stopped.
abbrev pub HasEnd : Moment → Moment → End → Type 0
HasEnd old new ends.Done = GoesOn old new × IsDone old new
HasEnd old new ends.Idle = GoesOn old new × IsIdle old new
HasEnd old new ends.Failed = Rose old.driving.link.counts.faults new.driving.link.counts.faults
HasEnd old new ends.Full = IsFaultless old new × Rose old.counts.fulls new.counts.fulls
HasEnd old new ends.Garbled = IsFaultless old new × IsKept old new × EndsGarbled new.driving.course.conn new.events
HasEnd old new ends.Ended =
    IsFaultless old new × IsKept old new × IsUngarbled new × Rose old.driving.link.counts.ends new.driving.link.counts.ends
HasEnd old new ends.Stopped =
    IsFaultless old new × IsKept old new × IsUngarbled new × IsUnended old new × Rose old.counts.stops new.counts.stops
HasEnd old new ends.Memory = ⊥

-- Why a turn answers what it answers.
abbrev pub HasCause : Moment → Moment → DriverState → Type 0
HasCause old new Going = GoesOn old new × (Waits old new ⊎ GetsOn old new)
HasCause old new (Over end) = HasEnd old new end

abbrev pub is_over : DriverState → Bool
is_over Going = false
is_over (Over end) = true

-- what the bytes behind the last message are: bytes that begin no message where garbled bytes came, any bytes where a turn was cut
-- short, and else an unfinished frame
abbrev pub IsRestAt : End → Shape → List ℕ → Type 0
IsRestAt ends.Full shape rest = Unit {0}
IsRestAt ends.Failed shape rest = Unit {0}
IsRestAt ends.Memory shape rest = Unit {0}
IsRestAt ends.Garbled shape rest = IsGarbled shape rest
IsRestAt ends.Done shape rest = IsUnfinished shape rest
IsRestAt ends.Idle shape rest = IsUnfinished shape rest
IsRestAt ends.Ended shape rest = IsUnfinished shape rest
IsRestAt ends.Stopped shape rest = IsUnfinished shape rest

abbrev pub IsRestOf : {E : Type 0} → Result DriverState E → Shape → List ℕ → Type 0
IsRestOf (Ok Going) shape rest = IsUnfinished shape rest
IsRestOf (Ok (Over end)) shape rest = IsRestAt end shape rest
IsRestOf (Err memory) shape rest = Unit {0}

abbrev pub IsRest : {E : Type 0} → Bool → Result DriverState E → Shape → List ℕ → Type 0
IsRest true answer shape rest = IsGarbled shape rest
IsRest false answer shape rest = IsRestOf answer shape rest

-- The flow of a driver's link after a turn, by the events of its connection.
abbrev pub HasFlow : {E : Type 0} → Result DriverState E → Moment → Type 0
HasFlow answer now =
    Flows now.driving.course.shape.framing now.driving.link.sent now.driving.link.got
    (client_sends now.driving.course.conn now.events) (client_receipts now.driving.course.conn now.events)
    (IsRest (is_garbled_on now.driving.course.conn now.events) answer now.driving.course.shape)
