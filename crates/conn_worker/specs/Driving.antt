-- What a driver of one connection is to do and has done, and when it fits what a book keeps.
use Rattle.std.specs.Prelude.{◌≡◌, ◌≢◌, ℕ, ◌+◌, ◌*◌, ◌<◌, ◌≤◌, ◌==◌, Bool, true, false, List, [], ◌++◌, length, take, IfSome}
use Rattle.std.specs.List.{AllByRecursion, list_any}
use Rattle.conn_worker.specs.declared.TheConstants.{IDLE_TURNS, MOST_ACTIONS}
use Rattle.dt_ports.specs.Link.{LinkShows}
use Rattle.exchange_text.specs.Actions.{IsAction}
use Rattle.exchange_text.specs.Follows.{Follows, sends_of, unmet_awaits}
use Rattle.exchange_text.specs.declared.action.Action.{Action}
use Rattle.frame_cut.specs.Frame.{IsGarbled}
use Rattle.spec_model.specs.Message.{IsMessage, frames_of}
use Rattle.spec_model.specs.World.{client_receipts, client_sends}
use Rattle.spec_model.specs.declared.event.ClientEvent.{ClientEvent}
use Rattle.spec_model.specs.declared.event.ClientEvent.TheVariants.{Sends, Receives, Garbles}
use Rattle.spec_model.specs.declared.event.Shape.{Shape}

-- How far a connection is driven: its shape, its number and its actions; how many of the actions are passed, and how many of
-- the awaits among them were given up; the messages received, the bytes that are to be handed over, and the bytes that came
-- behind the last message; how many turns in a row were idle, and whether a turn answered that it is over.
pub record Course : Type 0 where
  pub shape : Shape
  pub conn : ℕ
  pub actions : List Action
  pub passed : ℕ
  pub given_up : ℕ
  pub receipts : List (List ℕ)
  pub output : List ℕ
  pub at_hand : List ℕ
  pub idle : ℕ
  pub is_over : Bool

-- a driver: what its link shows, and how far it is
pub record Driving : Type 0 where
  pub link : LinkShows
  pub course : Course

-- actions that a script of this shape may have on a connection
pub record AreActions (shape : Shape) (actions : List Action) : Type 0 where
  pub each : AllByRecursion (IsAction shape) actions
  pub few : length actions ≤ MOST_ACTIONS

-- What holds of every driver.
pub record IsCourse (course : Course) : Type 0 where
  pub conn : course.conn < course.shape.conns
  pub actions : AreActions course.shape course.actions
  pub passed : course.passed ≤ length course.actions
  pub given_up : course.given_up ≤ course.passed
  pub receipts : AllByRecursion (IsMessage course.shape) course.receipts
  pub idle : course.idle ≤ IDLE_TURNS
  pub goes_on : course.is_over ≡ false → course.idle < IDLE_TURNS

-- a driver of which no turn was made
abbrev pub new_course : Shape → ℕ → List Action → Course
new_course shape conn actions = record {
  shape = shape;
  conn = conn;
  actions = actions;
  passed = 0;
  given_up = 0;
  receipts = [];
  output = [];
  at_hand = [];
  idle = 0;
  is_over = false;
}

-- the connection of an event
abbrev pub conn_of : ClientEvent → ℕ
conn_of (Sends conn message) = conn
conn_of (Receives conn message) = conn
conn_of (Garbles conn) = conn

-- No event is of this connection.
abbrev pub HasNone : ℕ → List ClientEvent → Type 0
HasNone conn events = AllByRecursion (λ event. conn_of event ≢ conn) events

-- whether garbled bytes came on a connection
abbrev pub garbles_on : ℕ → ClientEvent → Bool
garbles_on conn (Garbles other) = other == conn
garbles_on conn (Sends other message) = false
garbles_on conn (Receives other message) = false

abbrev pub is_garbled_on : ℕ → List ClientEvent → Bool
is_garbled_on conn events = list_any (garbles_on conn) events

-- A driver fits the events of a book. Events of other connections play no part.
pub record Fits (driving : Driving) (events : List ClientEvent) : Type 0 where
  -- The events of its connection follow its actions, and there are as many sent messages as there are sends among the actions
  -- that it passed.
  pub follows : Follows driving.course.conn driving.course.actions events
  pub sends : length (client_sends driving.course.conn events) ≡ length (sends_of (take driving.course.passed driving.course.actions))
  -- The messages received are those that it keeps.
  pub receipts : client_receipts driving.course.conn events ≡ driving.course.receipts
  -- Where its link tells: what was sent and what is to be handed over are the frames of the messages sent, and what was got are
  -- the frames of the messages received and the bytes behind them.
  pub sent : IfSome driving.link.sent (λ bytes.
      bytes ++ driving.course.output ≡ frames_of driving.course.shape.framing (client_sends driving.course.conn events))
  pub got : IfSome driving.link.got (λ bytes.
      bytes ≡ frames_of driving.course.shape.framing driving.course.receipts ++ driving.course.at_hand)
  -- Where garbled bytes came, it has bytes that begin no message.
  pub garbled : is_garbled_on driving.course.conn events ≡ true → IsGarbled driving.course.shape driving.course.at_hand
  -- No more awaits that it passed are unmet than it gave up, and for each of these its link was not ready to give in 50 turns, and
  -- in each idle turn since. Nor was it ready to take in each idle turn since there is output.
  pub unmet : unmet_awaits driving.course.conn (take driving.course.passed driving.course.actions) events ≤ driving.course.given_up
  pub waited : driving.course.idle + IDLE_TURNS * driving.course.given_up ≤ driving.link.counts.receives_not_ready
  pub blocked : driving.course.output ≢ [] → driving.course.idle ≤ driving.link.counts.sends_not_ready
