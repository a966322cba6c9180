-- Items of lists.
use Rattle.std.proofs.Common.{◌≡◌, ℕ, zero, suc, ◌+◌, ◌<◌, ◌≤◌, List, [], ◌∷◌, ◌++◌, length, take, filter_map, slice_get, slice_index_or, Option, Some, None, refl, sym, ◌∙◌, ap, arith, inl, inr}
use Rattle.std.specs.List.{cons_option}
use Rattle.std.specs.Option.{option_to_list}
use Rattle.std.proofs.lemmas.List.{take_more}
use Rattle.std.proofs.lemmas.List.Elements.{filter_map-append}
use Rattle.constraint_set.specs.Known.{IsIn}

-- an item of the first of two joined lists
pub slice_get_first : {A : Type 0} → (xs ys : List A) (k : ℕ) → k < length xs → slice_get (xs ++ ys) k ≡ slice_get xs k
slice_get_first [] ys k within = absurd (omega arith)
slice_get_first (x ∷ xs) ys zero within = refl
slice_get_first (x ∷ xs) ys (suc k) within = slice_get_first xs ys k (omega arith)

-- the first item of the second
pub slice_get_seam : {A : Type 0} → (xs : List A) (y : A) (ys : List A) (k : ℕ) → k ≡ length xs → slice_get (xs ++ y ∷ ys) k ≡ Some y
slice_get_seam [] y ys zero is = refl
slice_get_seam [] y ys (suc k) is = absurd (omega arith)
slice_get_seam (x ∷ xs) y ys zero is = absurd (omega arith)
slice_get_seam (x ∷ xs) y ys (suc k) is = slice_get_seam xs y ys k (omega arith)

-- a front, and the item behind it
pub take_one_more : {A : Type 0} → (xs : List A) (n : ℕ) (x : A) → slice_get xs n ≡ Some x → take (suc n) xs ≡ take n xs ++ x ∷ []
take_one_more [] n x at = absurd (cc)
take_one_more (y ∷ ys) zero x at = let same : y ≡ x = cc in ap (λ z. z ∷ []) same
take_one_more (y ∷ ys) (suc n) x at = ap (λ front. y ∷ front) (take_one_more ys n x at)

-- an item of a front is one of the whole
pub slice_get-take : {A : Type 0} → (xs : List A) (n k : ℕ) → k < n → slice_get (take n xs) k ≡ slice_get xs k
slice_get-take xs zero k below = absurd (omega arith)
slice_get-take [] (suc n) k below = refl
slice_get-take (x ∷ xs) (suc n) zero below = refl
slice_get-take (x ∷ xs) (suc n) (suc k) below = slice_get-take xs n k (omega arith)

-- what a function gives of an item is among what it gives of the items
pub given_is_in : {A B : Type 0} → (f : A → Option B) (xs : List A) (x : A) (y : B) → IsIn x xs → f x ≡ Some y → IsIn y (filter_map f xs)
given_is_in f [] x y is_in gives = absurd is_in
given_is_in f (z ∷ xs) x y (inl same) gives = go (f z) (ap f (sym same) ∙ gives)
  where
    go : (o : Option _) → o ≡ Some y → IsIn y (cons_option o (filter_map f xs))
    go None gives = absurd (cc)
    go (Some w) gives = inl (cc)
given_is_in f (z ∷ xs) x y (inr later) gives = go (f z) (given_is_in f xs x y later gives)
  where
    go : (o : Option _) → IsIn y (filter_map f xs) → IsIn y (cons_option o (filter_map f xs))
    go None is_in = is_in
    go (Some w) is_in = inr is_in

pub given_by_one : {A B : Type 0} → (f : A → Option B) (xs : List A) (y : B) → IsIn y (filter_map f xs) → (x : A) × IsIn x xs × (f x ≡ Some y)
given_by_one f [] y is_in = absurd is_in
given_by_one f (z ∷ xs) y is_in = go (f z) refl is_in (λ later. given_by_one f xs y later)
  where
    go : (o : Option _) → f z ≡ o → IsIn y (cons_option o (filter_map f xs)) → (IsIn y (filter_map f xs) → (x : _) × IsIn x xs × (f x ≡ Some y)) → (x : _) × IsIn x (z ∷ xs) × (f x ≡ Some y)
    go None is is_in later = let found = later is_in in (found.0, inr found.1, found.2)
    go (Some w) is (inl same) later = (z, inl refl, is ∙ ap Some (sym same))
    go (Some w) is (inr is_in) later = let found = later is_in in (found.0, inr found.1, found.2)

pub length-filter_map : {A B : Type 0} → (f : A → Option B) (xs : List A) → length (filter_map f xs) ≤ length xs
length-filter_map f [] = omega arith
length-filter_map f (z ∷ xs) = go (f z) (length-filter_map f xs)
  where
    go : (o : Option _) → length (filter_map f xs) ≤ length xs → length (cons_option o (filter_map f xs)) ≤ suc (length xs)
    go None short = omega arith
    go (Some w) short = omega arith

-- one place has one item
pub same_place : {A : Type 0} → (xs : List A) (k j : ℕ) (x y : A) → k ≡ j → slice_get xs k ≡ Some x → slice_get xs j ≡ Some y → y ≡ x
same_place xs k j x y same at_k at_j = let both : Some x ≡ Some y = sym at_k ∙ ap (slice_get xs) same ∙ at_j in cc

as_list : {B : Type 0} → (o : Option B) → cons_option o [] ≡ option_to_list o
as_list None = refl
as_list (Some y) = refl

-- what a function gives of one item more
pub filter_map_more : {A B : Type 0} → (f : A → Option B) (xs : List A) (k : ℕ) (x : A) → k < length xs → x ≡ slice_index_or xs k x
    → filter_map f (take (k + 1) xs) ≡ filter_map f (take k xs) ++ option_to_list (f x)
filter_map_more f xs k x within is =
    ap (filter_map f) (take_more xs k x within ∙ ap (λ y. take k xs ++ y ∷ []) (sym is)) ∙ filter_map-append f (take k xs) (x ∷ []) ∙ ap (λ more. filter_map f (take k xs) ++ more) (as_list (f x))

-- lists with the same items at the same places are the same
pub same_lists : {A : Type 0} → (xs ys : List A) → length xs ≡ length ys → ((k : ℕ) (x y : A) → slice_get xs k ≡ Some x → slice_get ys k ≡ Some y → x ≡ y) → xs ≡ ys
same_lists [] [] long each = refl
same_lists [] (y ∷ ys) long each = absurd (omega arith)
same_lists (x ∷ xs) [] long each = absurd (omega arith)
same_lists (x ∷ xs) (y ∷ ys) long each =
    let first = each 0 x y refl refl in
    let rest = same_lists xs ys (omega arith) (λ k a b at_a at_b. each (suc k) a b at_a at_b) in
    cc
