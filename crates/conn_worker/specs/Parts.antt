-- What the parts of a turn do with how far a driver is.
use Rattle.std.specs.Prelude.{◌≡◌, ℕ, nat_le, Bool, true, false, List, [], ◌∷◌, length, take, Option, Some, None}
use Rattle.std.specs.List.{slice_get}
use Rattle.conn_worker.specs.Driving.{Course, Fits}
use Rattle.dt_ports.specs.Link.{LinkShows}
use Rattle.dt_ports.specs.declared.link.RecvStep.{RecvStep}
use Rattle.dt_ports.specs.declared.link.RecvStep.TheVariants.{Got, NotReady, End, Failed}
use Rattle.exchange_text.specs.Resolved.{resolved}
use Rattle.exchange_text.specs.declared.action.Action.{Action}
use Rattle.exchange_text.specs.declared.action.Action.TheVariants.{Send, Await}
use Rattle.spec_model.specs.declared.event.ClientEvent.{ClientEvent}

abbrev pub next_action : Course → Option Action
next_action course = slice_get course.actions course.passed

-- whether an action is an await of no more than so many messages
abbrev pub is_met : ℕ → Option Action → Bool
is_met received None = false
is_met received (Some (Await count)) = nat_le count received
is_met received (Some (Send parts)) = false

-- whether an action can be done once nothing is to be handed over: a send, and an await of no more than so many messages
abbrev pub can_be_done : ℕ → Option Action → Bool
can_be_done received None = false
can_be_done received (Some (Await count)) = nat_le count received
can_be_done received (Some (Send parts)) = true

-- the message that is to be sent now: that of the next action, where it is a send and nothing is to be handed over
abbrev pub due_message : List ℕ → Option Action → List (List ℕ) → Option (List ℕ)
due_message [] (Some (Send parts)) receipts = Some (resolved parts receipts)
due_message [] (Some (Await count)) receipts = None
due_message [] None receipts = None
due_message (byte ∷ output) action receipts = None

-- Some actions are passed, and a driver that fitted a book fits it still.
pub record PassesSome (old new : Course) : Type 0 where
  pub only : new ≡ record old { passed = new.passed }
  pub fits : (link : LinkShows) (events : List ClientEvent) → Fits (record { link = link; course = old }) events →
      Fits (record { link = link; course = new }) events

-- The met awaits are passed.
pub record PassesAwaits (old new : Course) : Type 0 where
  pub some : PassesSome old new
  pub all : is_met (length new.receipts) (next_action new) ≡ false

-- the bytes that a receive put at the front of a room
abbrev pub bytes_got : List ℕ → RecvStep → List ℕ
bytes_got room (Got count) = take count room
bytes_got room NotReady = []
bytes_got room End = []
bytes_got room Failed = []
