-- The first of what is bad.
use Rattle.std.specs.Prelude.{◌≡◌, ℕ, ◌⊎◌, true, List, [], ◌∷◌, Option, Some, None}
use Rattle.spec_rules.specs.declared.fault.Fault.{Fault}
use Rattle.spec_rules.specs.Fault.{IsBefore}
use Rattle.spec_check.specs.declared.found.Found.{Found}
use Rattle.spec_check.specs.declared.found.Tested.{Tested}

-- What was found does not come behind this fault.
abbrev pub IsNotBehind : Option Found → Fault → ℕ → Type 0
IsNotBehind None fault at = ⊥
IsNotBehind (Some found) fault at = ¬ IsBefore at fault found.at found.fault

-- What was found stands there.
abbrev pub FindsOne : (Fault → ℕ → Type 0) → Option Found → Type 0
FindsOne Stands None = Unit {0}
FindsOne Stands (Some found) = Stands found.fault found.at

-- What was found is the first fault that stands so, and nothing was found where none does.
pub record IsFirst (Stands : Fault → ℕ → Type 0) (found : Option Found) : Type 0 where
  pub one : FindsOne Stands found
  pub first : (fault : Fault) (at : ℕ) → Stands fault at → IsNotBehind found fault at

-- The same of a search that has still to see what is left.
pub record IsFirstBut (IsLeft Stands : Fault → ℕ → Type 0) (found : Option Found) : Type 0 where
  pub one : FindsOne Stands found
  pub first : (fault : Fault) (at : ℕ) → Stands fault at → IsLeft fault at ⊎ IsNotBehind found fault at
  pub left : (fault : Fault) (at : ℕ) → IsLeft fault at → Stands fault at

-- The earlier of two is one of them, and comes behind nothing that either does not come behind.
pub record IsEarlier (left right found : Option Found) : Type 0 where
  pub one : (found ≡ left) ⊎ (found ≡ right)
  pub not_behind_left : (fault : Fault) (at : ℕ) → IsNotBehind left fault at → IsNotBehind found fault at
  pub not_behind_right : (fault : Fault) (at : ℕ) → IsNotBehind right fault at → IsNotBehind found fault at

-- The test found this fault.
abbrev pub IsTold : Tested → Fault → Type 0
IsTold tested fault = (tested.stands ≡ true) × (tested.fault ≡ fault)

-- The same, at the place of the test.
abbrev pub IsToldAt : Tested → ℕ → Fault → ℕ → Type 0
IsToldAt tested place fault at = IsTold tested fault × (place ≡ at)

-- One of the tests found this fault.
abbrev pub IsListed : List Tested → Fault → Type 0
IsListed [] fault = ⊥
IsListed (tested ∷ tests) fault = IsTold tested fault ⊎ IsListed tests fault

abbrev pub IsListedAt : List Tested → ℕ → Fault → ℕ → Type 0
IsListedAt tests place fault at = IsListed tests fault × (place ≡ at)
