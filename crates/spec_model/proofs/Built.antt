-- Lists read from their end.
use Rattle.std.proofs.Common.{◌≡◌, List, [], ◌∷◌, ◌++◌, length, sym, ap, subst, append_assoc, append-nil, arith, length-append}

-- A list is empty, or a list with one item more at its end.
pub data Built {A : Type 0} : List A → Type 0 where
  start : Built []
  then : (front : List A) (item : A) → Built front → Built (front ++ item ∷ [])

built_on : {A : Type 0} (front back : List A) → Built front → Built (front ++ back)
built_on front [] known = subst (λ whole. Built whole) (sym (append-nil front)) known
built_on front (item ∷ back) known =
    subst (λ whole. Built whole) (append_assoc front (item ∷ []) back) (built_on (front ++ item ∷ []) back (then front item known))

-- each list is built so
pub built : {A : Type 0} (list : List A) → Built list
built list = built_on [] list start

-- a list with one item more is not empty
pub push_not_nil : {A : Type 0} (front : List A) (item : A) → front ++ item ∷ [] ≡ [] → ⊥
push_not_nil front item is = omega (arith, ap length is, length-append front (item ∷ []))
