-- How far the messages that came out have used up those that were put in.
use Rattle.std.specs.Prelude.{◌≡◌, ◌≢◌, ℕ, ◌+◌, ◌<◌, ◌≤◌, List, [], ◌∷◌, length, take, slice_index, slice_set, Result, Ok, Err}
use Rattle.net_world.specs.declared.Why.{Why}
use Rattle.net_world.specs.declared.Why.TheVariants.{Ahead, Differs, Garbled}
use Rattle.net_world.specs.declared.cursors.Cursors.{Cursors}
use Rattle.net_world.specs.declared.way.Way.{Way}
use Rattle.net_world.specs.declared.way.Way.TheVariants.{Up, Down}
use Rattle.net_world.specs.Way.{came_out, put_in}
use Rattle.net_world.specs.Legality.{MayNotFollow}
use Rattle.spec_model.specs.declared.event.WorldEvent.{WorldEvent}
use Rattle.spec_model.specs.World.{IsLegal}

-- what a message finds that comes out: up to which event of these it is the only one put in, or why it may not come
abbrev pub Finds : Way → ℕ → List ℕ → List WorldEvent → Result ℕ Why → Type 0
Finds way conn message events (Ok count) = (count ≤ length events) × (put_in way conn (take count events) ≡ message ∷ [])
Finds way conn message events (Err Ahead) = put_in way conn events ≡ []
Finds way conn message events (Err Differs) = (next : List ℕ) × (later : List (List ℕ)) × (put_in way conn events ≡ next ∷ later) × (next ≢ message)
Finds way conn message events (Err Garbled) = ⊥

-- where a connection's cursor stands
abbrev pub cursor : Way → Cursors → ℕ → ℕ
cursor Up cursors conn = slice_index cursors.up conn
cursor Down cursors conn = slice_index cursors.down conn

-- the cursors with that one at this place
abbrev pub moved : Way → Cursors → ℕ → ℕ → Cursors
moved Up cursors conn at = record cursors { up = slice_set cursors.up conn at }
moved Down cursors conn at = record cursors { down = slice_set cursors.down conn at }

-- The cursor goes on behind the event that put in the message that comes out, or the message may not come.
abbrev pub Passes : Way → ℕ → List ℕ → List WorldEvent → Cursors → Cursors → Result Unit Why → Type 0
Passes way conn message events old new (Ok _) =
    (count : ℕ) × Finds way conn message events (Ok count) × (new ≡ moved way old conn (cursor way old conn + count))
Passes way conn message events old new (Err why) = Finds way conn message events (Err why)

-- The messages that came out of a connection are those put in before its cursor.
pub record IsRead (way : Way) (conn : ℕ) (world : List WorldEvent) (place at : ℕ) : Type 0 where
  pub within : at ≤ place
  pub read : came_out way conn (take place world) ≡ put_in way conn (take at world)

-- Each cursor stands so.
pub record AllRead (cursors : Cursors) (world : List WorldEvent) (place : ℕ) : Type 0 where
  pub room_up : length cursors.up ≡ 16
  pub room_down : length cursors.down ≡ 16
  pub read : (way : Way) (conn : ℕ) → conn < 16 → IsRead way conn world place (cursor way cursors conn)

-- Behind the event at this place the world is legal and each cursor stands so; or for this reason the event may not follow.
abbrev pub Follows : List WorldEvent → ℕ → WorldEvent → Cursors → Result Unit Why → Type 0
Follows world place event cursors (Ok _) = IsLegal (take (place + 1) world) × AllRead cursors world (place + 1)
Follows world place event cursors (Err why) = MayNotFollow (take place world) event why × (IsLegal (take (place + 1) world) → ⊥)
