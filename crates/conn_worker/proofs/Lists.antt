-- Lists with one item more, and results.
use Rattle.std.proofs.Common.{◌≡◌, ℕ, zero, suc, ◌+◌, List, [], ◌∷◌, ◌++◌, take, Some, Result, Ok, Err, OnErr, ap, subst, add-one}
use Rattle.std.specs.List.{AllByRecursion, slice_get}

-- one item more at the end of the first ones
pub take_next : {A : Type 0} (items : List A) (place : ℕ) (item : A) → slice_get items place ≡ Some item → take (place + 1) items ≡ take place items ++ item ∷ []
take_next {A} items place item at = rw add-one (go items place at)
  where
    go : (items : List A) (place : ℕ) → slice_get items place ≡ Some item → take (suc place) items ≡ take place items ++ item ∷ []
    go [] place at = absurd (cc)
    go (first ∷ items) zero at = cc
    go (first ∷ items) (suc place) at = ap (λ rest. first ∷ rest) (go items place at)

-- what holds of each item of two lists holds of each of both
pub all_of_both : {A : Type 0} (P : A → Type 0) (items more : List A) → AllByRecursion P items → AllByRecursion P more → AllByRecursion P (items ++ more)
all_of_both P [] more each others = others
all_of_both P (item ∷ items) more each others = (each.0, all_of_both P items more each.1 others)

-- what holds of each item holds of the one at a place
pub item_of_all : {A : Type 0} (P : A → Type 0) (items : List A) (place : ℕ) (item : A) → AllByRecursion P items → slice_get items place ≡ Some item → P item
item_of_all P [] place item each at = absurd (cc)
item_of_all P (first ∷ items) zero item each at = let same : first ≡ item = cc in subst P same each.0
item_of_all P (first ∷ items) (suc place) item each at = item_of_all P items place item each.1 at

-- what holds anyway holds where a result is an error
pub on_err : {A E : Type 0} (result : Result A E) (P : Type 0) → P → OnErr result P
on_err (Ok value) P holds = tt
on_err (Err error) P holds = holds
