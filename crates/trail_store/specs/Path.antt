-- The paths of a trail: its skeletons by number.
use Rattle.std.specs.Prelude.{◌≡◌, ◌⊎◌, ℕ, Any, List, [], ◌∷◌, slice_index_or}
use Rattle.spec_model.specs.declared.event.Mark.{Mark}
use Rattle.spec_model.specs.World.{IsPrefixOf}

-- the path of the step of this number
abbrev pub path_at : List (List Mark) → ℕ → List Mark
path_at paths number = slice_index_or paths number []

-- The path is the empty one, or one of these begins with it.
abbrev pub BeginsOne : List (List Mark) → List Mark → Type 0
BeginsOne paths path = (path ≡ []) ⊎ Any (IsPrefixOf path) paths

-- The first list is the second with some of its items left out.
pub data IsSublistOf {A : Type 0} : List A → List A → Type 0 where
  nothing : IsSublistOf [] []
  kept : {item : A} {items whole : List A} → IsSublistOf items whole → IsSublistOf (item ∷ items) (item ∷ whole)
  left_out : {item : A} {items whole : List A} → IsSublistOf items whole → IsSublistOf items (item ∷ whole)
