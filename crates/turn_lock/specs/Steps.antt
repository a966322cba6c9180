-- What each step on the lock's table tells the seat that makes it: of the step, the seat before, the
-- number found and the seat after. A split and the first half of a join tell nothing.
use Rattle.std.specs.Prelude.{◌≡◌, ◌≢◌, ℕ, ◌*◌, List, [], ◌∷◌, ◌++◌, length, Option, Some}
use Rattle.atomic_table.specs.Table.{Step, Me}
use Rattle.turn_lock.specs.declared.view.View.{View}
use Rattle.turn_lock.specs.Places.{BeginsWith}
use Rattle.turn_lock.specs.Views.{longer, having_found, having_added, having_left, having_compared}

-- a seat at the table: what it knows, and the slots that it has
abbrev pub Sat : Type 0 → Type 0 → Type 0 → Type 0
Sat V E F = Me (Option V) (View E F)

module _ {V E F : Type 0} where
  -- the seat keeps the list that it left, and holds nothing
  abbrev pub left : Step (Option V) → Sat V E F → ℕ → Sat V E F → Type 0
  left st m r n = (list : List E) → m.0.found ≡ Some list → n ≡ (having_left m.0 list, [])

  -- the seat's front is the longer of the two that it had, and begins with both
  abbrev pub compared : Step (Option V) → Sat V E F → ℕ → Sat V E F → Type 0
  compared st m r n =
      (n ≡ (having_compared m.0, m.1))
      × BeginsWith (longer m.0.front m.0.met) m.0.front
      × BeginsWith (longer m.0.front m.0.met) m.0.met

  module _ (entries : V → List E) (fixed : V → F) where
    -- the seat holds the turn and the slot, whose value stands for the list that was found
    abbrev pub TakesTurn : Sat V E F → ℕ → Sat V E F → Type 0
    TakesTurn m word n =
        (list : List E) × (value : V)
        × (n ≡ (having_found m.0 list, (0, Some value) ∷ m.1))
        × (word ≡ 2 * length list)
        × BeginsWith list m.0.front
        × (entries value ≡ list)
        × (m.0.fixed ≡ Some (fixed value))

    -- a failed try changes nothing
    abbrev pub tried : Step (Option V) → Sat V E F → ℕ → Sat V E F → Type 0
    tried st m r n = (r ≡ st.first → TakesTurn m r n) × (r ≢ st.first → n ≡ m)

    -- the seat gains the entry, at its place, and holds nothing
    abbrev pub added : Step (Option V) → Sat V E F → ℕ → Sat V E F → Type 0
    added st m r n =
        (list : List E) (entry : E) (value : V)
        → m.0.found ≡ Some list → m.1 ≡ (0, Some value) ∷ [] → entries value ≡ list ++ entry ∷ []
        → n ≡ (having_added m.0 list entry, [])
