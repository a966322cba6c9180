-- What contracts see of a lock, of a seat and of a turn.
use Rattle.std.specs.Prelude.{◌≡◌, ◌≢◌, ℕ, Bool, true, false, List, [], ◌∷◌, length, Option, Some, None, MatchOption}
use Rattle.atomic_table.specs.Seated.{TableId}
use Rattle.atomic_table.specs.declared.shared.Seat.{Seat}
use Rattle.turn_lock.specs.declared.view.Placed.{Placed}
use Rattle.turn_lock.specs.Places.{BeginsWith}
use Rattle.turn_lock.specs.declared.view.View.{View}
use Rattle.turn_lock.specs.declared.view.Role.{Role}
use Rattle.turn_lock.specs.declared.view.Role.TheVariants.{First, Other, Spent}

-- which lock it is, and the fixed part of its value
pub record LockName (F : Type 0) : Type 0 where
  pub table : TableId
  pub fixed : F

-- What the holder of a seat knows: which lock the seat is of, and what follows
pub record SeatState (E F : Type 0) : Type 0 where
  pub table : TableId
  pub fixed : Option F
  -- it is the seat that `open` gave
  pub is_first : Bool
  -- the entries that it left, in its order
  pub own : List (Placed E)
  -- the own entries of each seat that it took over
  pub joined : List (List (Placed E))
  -- the list as it stood when it last left a turn
  pub front : List E
  -- while it holds the turn, the list that it found
  pub found : Option (List E)
  -- how many seats it gave
  pub gave : ℕ

-- the value that a turn has, and how many entries were found with it
pub record TurnState (V : Type 0) : Type 0 where
  pub value : V
  pub count : ℕ

abbrev pub is_first_role : Role → Bool
is_first_role First = true
is_first_role Other = false
is_first_role Spent = false

module _ {E F : Type 0} where
  -- what a contract shows of a view
  abbrev pub known_at : TableId → View E F → SeatState E F
  known_at table v = record {
    table = table;
    fixed = v.fixed;
    is_first = is_first_role v.role;
    own = v.own;
    joined = v.joined;
    front = v.front;
    found = v.found;
    gave = v.gave;
  }

  -- the seat is one of this lock
  abbrev pub IsSeatOf : LockName F → SeatState E F → Type 0
  IsSeatOf lock seat = (seat.table ≡ lock.table) × (seat.fixed ≡ Some lock.fixed)

  -- the seat is one of this lock, and holds no turn
  abbrev pub IsIdleSeatOf : LockName F → SeatState E F → Type 0
  IsIdleSeatOf lock seat = IsSeatOf lock seat × (seat.found ≡ None)

  -- a seat of this lock that knows of no entries
  abbrev pub new_seat : Bool → LockName F → SeatState E F
  new_seat is_first lock = record {
    table = lock.table;
    fixed = Some lock.fixed;
    is_first = is_first;
    own = [];
    joined = [];
    front = [];
    found = None;
    gave = 0;
  }

  abbrev pub first_seat : LockName F → SeatState E F
  first_seat = new_seat true

  abbrev pub another_seat : LockName F → SeatState E F
  another_seat = new_seat false

  -- the seat holds this turn
  abbrev pub HoldsTurn : {V : Type 0} → SeatState E F → TurnState V → Type 0
  HoldsTurn seat turn = (list : List E) × (seat.found ≡ Some list) × (turn.count ≡ length list)

module _ {V E F : Type 0} where
  abbrev pub state_of : Seat (Option V) (View E F) → SeatState E F
  state_of at = known_at at.table_id at.me.0

  -- the seat was not joined away, and it has the slot, with nothing in it, exactly while it holds the
  -- turn
  pub record IsInUse (at : Seat (Option V) (View E F)) : Type 0 where
    pub alive : at.me.0.role ≢ Spent
    pub slot : MatchOption at.me.0.found (at.me.1 ≡ []) (λ _. at.me.1 ≡ (0, None) ∷ [])

  -- The turn was taken: its value stands for a list that begins with what the seat saw last, and has the
  -- lock's fixed part
  pub record IsTaken (entries : V → List E) (fixed : V → F) (lock : LockName F)
      (old new : SeatState E F) (turn : TurnState V) : Type 0 where
    pub found : new ≡ record old { found = Some (entries turn.value) }
    pub count : turn.count ≡ length (entries turn.value)
    pub front : BeginsWith (entries turn.value) old.front
    pub part : fixed turn.value ≡ lock.fixed
