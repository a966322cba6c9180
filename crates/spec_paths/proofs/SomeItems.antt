-- Items of lists, by their numbers.
use Rattle.std.proofs.Common.{◌≡◌, ℕ, zero, suc, ◌+◌, ◌⊎◌, inl, inr, List, [], ◌∷◌, ◌++◌, length, Some, slice_get, refl, ◌∙◌, ap, subst, arith}
use Rattle.spec_paths.specs.Ahead.{SomeItem}

-- An item of the first of two lists is one of both, and so is one of the second.
pub found_first : {A : Type 0} (first second : List A) (number : ℕ) (item : A) → slice_get first number ≡ Some item → slice_get (first ++ second) number ≡ Some item
found_first [] second number item is = absurd (cc)
found_first (one ∷ first) second zero item is = is
found_first (one ∷ first) second (suc number) item is = found_first first second number item is

pub found_later : {A : Type 0} (first second : List A) (number : ℕ) → slice_get (first ++ second) (length first + number) ≡ slice_get second number
found_later [] second number = ap (slice_get second) (omega arith)
found_later (one ∷ first) second number =
    let next : length (one ∷ first) + number ≡ suc (length first + number) = omega arith in
    ap (slice_get (one ∷ (first ++ second))) next ∙ found_later first second number

pub in_first : {A : Type 0} (P : A → Type 0) (first second : List A) → SomeItem P first → SomeItem P (first ++ second)
in_first P first second some = record { number = some.number; item = some.item; is = found_first first second some.number some.item some.is; has = some.has }

pub in_second : {A : Type 0} (P : A → Type 0) (first second : List A) → SomeItem P second → SomeItem P (first ++ second)
in_second P first second some =
    record { number = length first + some.number; item = some.item; is = found_later first second some.number ∙ some.is; has = some.has }

-- an item of two lists is one of the first or one of the second
pub in_either : {A : Type 0} (P : A → Type 0) (first second : List A) → SomeItem P (first ++ second) → SomeItem P first ⊎ SomeItem P second
in_either P [] second some = inr some
in_either {A = A} P (one ∷ first) second some = by_number some.number some.item some.is some.has (in_either P first second)
  where
    shifted : SomeItem P first ⊎ SomeItem P second → SomeItem P (one ∷ first) ⊎ SomeItem P second
    shifted (inl there) = inl (record { number = suc there.number; item = there.item; is = there.is; has = there.has })
    shifted (inr there) = inr there

    by_number : (number : ℕ) (item : A) → slice_get (one ∷ (first ++ second)) number ≡ Some item → P item
        → (SomeItem P (first ++ second) → SomeItem P first ⊎ SomeItem P second) → SomeItem P (one ∷ first) ⊎ SomeItem P second
    by_number zero item is has among = inl (record { number = 0; item = item; is = is; has = has })
    by_number (suc number) item is has among = shifted (among (record { number = number; item = item; is = is; has = has }))

pub alone : {A : Type 0} (P : A → Type 0) (item : A) → P item → SomeItem P (item ∷ [])
alone P item has = record { number = 0; item = item; is = refl; has = has }

pub only : {A : Type 0} (P : A → Type 0) (item : A) → SomeItem P (item ∷ []) → P item
only {A = A} P item some = by_number some.number some.item some.is some.has
  where
    by_number : (number : ℕ) (one : A) → slice_get (item ∷ []) number ≡ Some one → P one → P item
    by_number zero one is has = (let same : one ≡ item = cc in subst P same has)
    by_number (suc number) one is has = absurd (cc)

pub nobody : {A : Type 0} (P : A → Type 0) → SomeItem P [] → ⊥
nobody P some = let none = some.is in absurd (cc)
