-- What a seat's view says, and how each step changes it.
use Rattle.std.specs.Prelude.{ℕ, ◌+◌, List, [], ◌∷◌, ◌++◌, length, if◌then◌else◌, nat_lt, Option, Some, None, sum_by}
use Rattle.turn_lock.specs.declared.view.Placed.{Placed}
use Rattle.turn_lock.specs.declared.view.View.{View}
use Rattle.turn_lock.specs.declared.view.Role.{Role}
use Rattle.turn_lock.specs.declared.view.Role.TheVariants.{First, Other, Spent}

-- 1 for the first seat, and 0 for each other one
abbrev pub if_first : Role → ℕ
if_first First = 1
if_first Other = 0
if_first Spent = 0

-- 1 for a seat that is neither first nor spent
abbrev pub if_other : Role → ℕ
if_other First = 0
if_other Other = 1
if_other Spent = 0

abbrev pub placed : {E : Type 0} → ℕ → E → Placed E
placed place entry = record { place = place; entry = entry }

-- the longer of two lists
abbrev pub longer : {E : Type 0} → List E → List E → List E
longer xs ys = if nat_lt (length xs) (length ys) then ys else xs

-- 1 for a seat that holds the turn, which it found with some list
abbrev pub if_holder : {E : Type 0} → Option (List E) → ℕ
if_holder None = 0
if_holder (Some list) = 1

module _ {E F : Type 0} where
  -- the seat's own entries, and those of each seat that it took over
  abbrev pub lists_of : View E F → List (List (Placed E))
  lists_of v = v.own ∷ v.joined

  -- how many seats hold the turn
  abbrev pub holders : List (View E F) → ℕ
  holders views = sum_by (λ v. if_holder v.found) views

  -- a seat that has no entries and never took the turn
  abbrev pub blank : Role → Option F → View E F
  blank role part = record {
    role = role;
    fixed = part;
    own = [];
    joined = [];
    front = [];
    met = [];
    found = None;
    gave = 0;
  }

  -- the seat took the turn and found this list
  abbrev pub having_found : View E F → List E → View E F
  having_found v list = record v { found = Some list }

  -- it left the turn with an entry behind the list that it had found
  abbrev pub having_added : View E F → List E → E → View E F
  having_added v list entry = record v {
    own = v.own ++ placed (length list + 1) entry ∷ [];
    front = list ++ entry ∷ [];
    found = None;
  }

  -- it left the turn with the list that it had found
  abbrev pub having_left : View E F → List E → View E F
  having_left v list = record v { front = list; found = None }

  -- the first seat gave another one
  abbrev pub having_given : View E F → View E F
  having_given v = record v { gave = v.gave + 1 }

  -- the first seat took over another one, whose front it has not yet compared with its own
  abbrev pub having_taken_over : View E F → View E F → View E F
  having_taken_over v w = record v { joined = v.joined ++ w.own ∷ []; met = w.front }

  -- it compared the two
  abbrev pub having_compared : View E F → View E F
  having_compared v = record v { front = longer v.front v.met }
