-- What the end of a turn leaves and answers.
use Rattle.std.specs.Prelude.{◌≡◌, ◌≢◌, ◌⊎◌, ◌+◌, ◌<◌, true, MatchBool, [], length, MatchOption}
use Rattle.conn_worker.specs.declared.DriverState.{DriverState}
use Rattle.conn_worker.specs.declared.DriverState.TheVariants.{Going, Over}
use Rattle.conn_worker.specs.declared.TheConstants.{IDLE_TURNS}
use Rattle.conn_worker.specs.declared.seen.Seen.{Seen}
use Rattle.conn_worker.specs.Driving.{Course}
use Rattle.conn_worker.specs.Seen.{end_seen}
use Rattle.dt_ports.specs.declared.end.End.{End}
use Rattle.dt_ports.specs.declared.end.End.TheVariants as ends

-- It is over, with this end.
pub record IsOverWith (end : End) (old new : Course) (state : DriverState) : Type 0 where
  pub answer : state ≡ Over end
  pub course : new ≡ record old { is_over = true }

-- It goes on, and the count of idle turns begins anew.
pub record BeginsAnew (old new : Course) (state : DriverState) : Type 0 where
  pub answer : state ≡ Going
  pub course : new ≡ record old { idle = 0 }

-- It goes on, after one more idle turn.
pub record IdlesOn (old new : Course) (state : DriverState) : Type 0 where
  pub few : old.idle + 1 < IDLE_TURNS
  pub answer : state ≡ Going
  pub course : new ≡ record old { idle = old.idle + 1 }

-- There is nothing to hand over, and an action is left: it is passed as given up.
pub record GivesUp (old new : Course) (state : DriverState) : Type 0 where
  pub many : old.idle + 1 ≡ IDLE_TURNS
  pub handed_over : old.output ≡ []
  pub left : old.passed < length old.actions
  pub answer : state ≡ Going
  pub course : new ≡ record old { passed = old.passed + 1; given_up = old.given_up + 1; idle = 0 }

-- There is nothing to hand over, and no action is left.
pub record EndsDone (old new : Course) (state : DriverState) : Type 0 where
  pub many : old.idle + 1 ≡ IDLE_TURNS
  pub handed_over : old.output ≡ []
  pub passed : old.passed ≡ length old.actions
  pub answer : state ≡ Over ends.Done
  pub course : new ≡ record old { idle = old.idle + 1; is_over = true }

-- There is something to hand over.
pub record EndsIdle (old new : Course) (state : DriverState) : Type 0 where
  pub many : old.idle + 1 ≡ IDLE_TURNS
  pub output : old.output ≢ []
  pub answer : state ≡ Over ends.Idle
  pub course : new ≡ record old { idle = old.idle + 1; is_over = true }

-- the end of an idle turn
abbrev pub Idles : Course → Course → DriverState → Type 0
Idles old new state =
    IdlesOn old new state ⊎ (GivesUp old new state ⊎ (EndsDone old new state ⊎ EndsIdle old new state))

-- the end of a turn that saw this
abbrev pub Settles : Course → Course → Seen → DriverState → Type 0
Settles old new seen state =
    MatchOption (end_seen seen) (MatchBool seen.moved (BeginsAnew old new state) (Idles old new state))
    (λ end. IsOverWith end old new state)
