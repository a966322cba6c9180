-- Lists with some of their items left out.
use Rattle.std.proofs.Common.{List, [], ◌∷◌, ◌++◌}
use Rattle.trail_store.specs.Path.{IsSublistOf}
use Rattle.trail_store.specs.Path.IsSublistOf.{nothing, kept, left_out}

pub IsSublistOf-nil : {A : Type 0} (whole : List A) → IsSublistOf [] whole
IsSublistOf-nil [] = nothing
IsSublistOf-nil (item ∷ whole) = left_out (IsSublistOf-nil whole)

-- with one item more in both
pub IsSublistOf-push : {A : Type 0} {items whole : List A} (item : A) → IsSublistOf items whole → IsSublistOf (items ++ item ∷ []) (whole ++ item ∷ [])
IsSublistOf-push item nothing = kept nothing
IsSublistOf-push item (kept sublist) = kept (IsSublistOf-push item sublist)
IsSublistOf-push item (left_out sublist) = left_out (IsSublistOf-push item sublist)

-- with one item more that is left out
pub IsSublistOf-longer : {A : Type 0} {items whole : List A} (item : A) → IsSublistOf items whole → IsSublistOf items (whole ++ item ∷ [])
IsSublistOf-longer item nothing = left_out nothing
IsSublistOf-longer item (kept sublist) = kept (IsSublistOf-longer item sublist)
IsSublistOf-longer item (left_out sublist) = left_out (IsSublistOf-longer item sublist)
