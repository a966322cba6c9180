-- The rule of the lock's table, which holds between any two steps.
use Rattle.std.specs.Prelude.{◌≡◌, ◌≢◌, ℕ, ◌+◌, ◌*◌, ◌<◌, ◌≤◌, List, [], ◌∷◌, length, All, Option, Some, None, sum_by}
use Rattle.std.specs.Option.{ForSome}
use mathlib.Core.Option.{some}
use lib.ListN.{get_elem?}
use Rattle.atomic_table.specs.Table.{State}
use Rattle.turn_lock.specs.declared.view.View.{View}
use Rattle.turn_lock.specs.declared.view.Role.TheVariants.{First, Spent}
use Rattle.turn_lock.specs.Places.{BeginsWith, IsKeptIn, times_in_all}
use Rattle.turn_lock.specs.Views.{if_first, if_other, lists_of, holders, blank}

-- a slot as the table sees it: at home with what it holds, or out with a seat
abbrev pub Home : Type 0 → Type 0
Home V = mathlib.Core.Option.Option (Option V)

module _ {E F : Type 0} where
  -- The entries of the seat, and of those that it took over, stand in the history at their places, which
  -- ascend in each list
  abbrev pub HasPlaces : List E → View E F → Type 0
  HasPlaces history v = All (IsKeptIn history) (lists_of v)

  -- Each place of the history belongs to one seat, once
  pub record IsShared (history : List E) (views : List (View E F)) : Type 0 where
    pub once : (k : ℕ) → k < length history → sum_by (λ v. times_in_all (k + 1) (lists_of v)) views ≡ 1
    pub kept : All (HasPlaces history) views

  -- The word is twice the number of entries, and one more while a seat holds the turn. No two seats hold
  -- it
  pub record ShowsTurn (history : List E) (words : List ℕ) (views : List (View E F)) : Type 0 where
    pub word : words ≡ (2 * length history + holders views) ∷ []
    pub one_holder : holders views ≤ 1

  -- While the seat holds the turn, the list that it found is the history
  abbrev pub HasFound : List E → View E F → Type 0
  HasFound history v = ForSome v.found (λ list. list ≡ history)

  -- The history begins with what the seat saw last, and with what the seat that it took over last had
  -- seen last
  abbrev pub HasSeen : List E → View E F → Type 0
  HasSeen history v = BeginsWith history v.front × BeginsWith history v.met

  -- A seat that was joined away owns nothing, holds nothing and has seen nothing
  abbrev pub IsBlankIfSpent : View E F → Type 0
  IsBlankIfSpent v = v.role ≡ Spent → v ≡ blank Spent None

  -- Only the first seat gave seats or took any over
  abbrev pub GaveIfFirst : View E F → Type 0
  GaveIfFirst v = v.role ≢ First → (v.gave ≡ 0) × (v.joined ≡ [])

  -- One seat is the first. As many seats are neither first nor spent as it gave less those it took over
  pub record IsCounted (views : List (View E F)) : Type 0 where
    pub one_first : sum_by (λ v. if_first v.role) views ≡ 1
    pub only_first : All GaveIfFirst views
    pub out : sum_by (λ v. v.gave) views
        ≡ sum_by (λ v. if_other v.role) views + sum_by (λ v. length v.joined) views

  -- A seat that is not spent knows the fixed part
  abbrev pub Knows : F → View E F → Type 0
  Knows part v = v.role ≢ Spent → v.fixed ≡ Some part

  module _ {V : Type 0} (entries : V → List E) (fixed : V → F) where
    -- the value stands for this list, and has this fixed part
    abbrev pub StandsFor : List E → F → V → Type 0
    StandsFor list part value = (entries value ≡ list) × (fixed value ≡ part)

    -- While no seat holds the turn, the slot is at home with a value that stands for the history. Of the
    -- slot while it is out the rule says nothing
    pub record HasValue (part : F) (history : List E) (homes : List (Home V)) (views : List (View E F)) : Type 0 where
      pub home : holders views ≡ 0
          → (value : V) × (get_elem? homes 0 ≡ some (some (Some value))) × StandsFor history part value
      pub found : All (HasFound history) views

    -- The entries of all seats spell one history, whose length the word tells and for which the value
    -- stands
    pub record Rule (part : F) (s : State (Option V) (View E F)) : Type 0 where
      pub history : List E
      pub shared : IsShared history s.views
      pub turn : ShowsTurn history s.words s.views
      pub value : HasValue part history s.homes s.views
      pub seen : All (HasSeen history) s.views
      pub spent : All IsBlankIfSpent s.views
      pub counted : IsCounted s.views
      pub told : All (Knows part) s.views
