-- Entries at their places, and the one list in which they stand. Places are counted from 1.
use Rattle.std.specs.Prelude.{◌≡◌, ℕ, ◌+◌, ◌-◌, ◌<◌, ◌==◌, List, ◌++◌, length, map, All, Some, slice_get, sum_by, count_by}
use Rattle.std.specs.List.Sorted.{IsStrictlyIncreasing}
use Rattle.turn_lock.specs.declared.view.Placed.{Placed}

module _ {E : Type 0} where
  -- the list begins with this front
  abbrev pub BeginsWith : List E → List E → Type 0
  BeginsWith list front = (rest : List E) × (list ≡ front ++ rest)

  -- the entry stands in the list at its place
  abbrev pub StandsIn : List E → Placed E → Type 0
  StandsIn list it = (0 < it.place) × (slice_get list (it.place - 1) ≡ Some it.entry)

  -- the entries stand in the list at their places, and the places ascend
  pub record IsKeptIn (list : List E) (own : List (Placed E)) : Type 0 where
    pub standing : All (StandsIn list) own
    pub ascending : IsStrictlyIncreasing (map (λ it. it.place) own)

  -- how many of these entries have this place
  abbrev pub times : ℕ → List (Placed E) → ℕ
  times place own = count_by (λ it. it.place == place) own

  -- the same of several lists of entries
  abbrev pub times_in_all : ℕ → List (List (Placed E)) → ℕ
  times_in_all place lists = sum_by (times place) lists

  -- The list keeps each of these lists of entries, and each of its own entries stands at a place of
  -- exactly one of them, once
  pub record IsSpelledBy (list : List E) (lists : List (List (Placed E))) : Type 0 where
    pub kept : All (IsKeptIn list) lists
    pub no_strangers : (k : ℕ) → k < length list → times_in_all (k + 1) lists ≡ 1
