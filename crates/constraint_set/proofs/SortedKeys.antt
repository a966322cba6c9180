-- Lists in strict order that have the same items are the same.
use Rattle.std.proofs.Common.{◌≡◌, ℕ, zero, suc, ◌<◌, List, [], ◌∷◌, Contains, Ordering, bytes_eq, length, nat_cmp, slice_index_or, arith, refl, sym, ◌∙◌, ap, subst, inl, inr}
use Rattle.std.proofs.lemmas.List.Filters.{dedup_is}
use Rattle.std.proofs.lemmas.List.Kept.{Contains-dedup, Contains-from_dedup, IsStrictlySortedBy-dedup}
use Rattle.std.proofs.lemmas.List.Sorted.{Contains-permutation, IsPermutation-sym}
use Rattle.std.proofs.lemmas.Slice.Eq.{bytes_eq-Decides}
use Rattle.std.specs.Cmp.Lexicographic.{nat_list_cmp_total, nat_list_eq_equiv, slice_cmp, texts_ties}
use Rattle.std.specs.declared.cmp.Ordering.TheVariants.{Less, Greater}
use Rattle.std.specs.Cmp.{IsTotalOrder}
use Rattle.std.specs.List.{AllByRecursion, dedup}
use Rattle.std.specs.List.Retain.{DiffersFromLast, IsFiltered}
use Rattle.std.specs.List.Sorted.{IsPermutation, IsSorted, IsStrictlySortedBy}
use Rattle.std.specs.Ordering.{ordering_reverse}
use Rattle.constraint_set.specs.Known.{IsIn}

below_each : {A : Type 0} → (c : A → A → Ordering) (x y : A) (ys : List A) → AllByRecursion (λ z. c x z ≡ Less) ys → IsIn y ys → c x y ≡ Less
below_each c x y [] all is_in = absurd is_in
below_each c x y (z ∷ ys) all (inl same) = ap (c x) same ∙ all.0
below_each c x y (z ∷ ys) all (inr later) = below_each c x y ys all.1 later

head_below : {A : Type 0} → (c : A → A → Ordering) (x y : A) (xs : List A) → IsStrictlySortedBy c (x ∷ xs) → IsIn y xs → c x y ≡ Less
unfolding IsStrictlySortedBy
head_below c x y xs sorted is_in = below_each c x y xs sorted.0 is_in

tail_sorted : {A : Type 0} → (c : A → A → Ordering) (x : A) (xs : List A) → IsStrictlySortedBy c (x ∷ xs) → IsStrictlySortedBy c xs
unfolding IsStrictlySortedBy
tail_sorted c x xs sorted = sorted.1

not_both : {A : Type 0} → {c : A → A → Ordering} → IsTotalOrder c → (x y : A) → c x y ≡ Less → c y x ≡ Less → ⊥
not_both {c = c} order x y less more = let wrong : Less ≡ Greater = sym less ∙ order.antisymm x y ∙ ap ordering_reverse more in cc

pub same_sorted : {A : Type 0} → {c : A → A → Ordering} → IsTotalOrder c → (xs ys : List A) → IsStrictlySortedBy c xs → IsStrictlySortedBy c ys
    → ((x : A) → IsIn x xs → IsIn x ys) → ((x : A) → IsIn x ys → IsIn x xs) → xs ≡ ys
same_sorted order [] [] xs_sorted ys_sorted forth back = refl
same_sorted order [] (y ∷ ys) xs_sorted ys_sorted forth back = absurd (back y (inl refl))
same_sorted order (x ∷ xs) [] xs_sorted ys_sorted forth back = absurd (forth x (inl refl))
same_sorted {c = c} order (x ∷ xs) (y ∷ ys) xs_sorted ys_sorted forth back =
    let rest = same_sorted order xs ys (tail_sorted c x xs xs_sorted) (tail_sorted c y ys ys_sorted)
    (λ z z_in. elim (forth z (inr z_in)) [
      | inl same ↦ absurd (let less = head_below c x z xs xs_sorted z_in in let itself : c z z ≡ Less = ap (λ w. c w z) (same ∙ sym heads) ∙ less in not_both order z z itself itself)
      | inr later ↦ later
    ])
    (λ z z_in. elim (back z (inr z_in)) [
      | inl same ↦ absurd (let less = head_below c y z ys ys_sorted z_in in let itself : c z z ≡ Less = ap (λ w. c w z) (same ∙ heads) ∙ less in not_both order z z itself itself)
      | inr later ↦ later
    ]) in
    let first = heads in
    cc
  where
    heads : x ≡ y
    heads = elim (forth x (inl refl)) [
      | inl same ↦ same
      | inr later ↦ elim (back y (inl refl)) [
        | inl same ↦ sym same
        | inr y_later ↦ absurd (not_both order x y (head_below c x y xs xs_sorted y_later) (head_below c y x ys ys_sorted later))
      ]
    ]

-- the two ways to say that an item is in a list
pub contains_from : {A : Type 0} → (xs : List A) (x : A) → IsIn x xs → Contains xs x
contains_from [] x is_in = absurd is_in
contains_from (y ∷ ys) x (inl same) = (0, omega arith, sym same)
contains_from (y ∷ ys) x (inr later) = let found = contains_from ys x later in let within = found.1 in (suc found.0, omega arith, found.2)

pub contains_to : {A : Type 0} → (xs : List A) (x : A) → Contains xs x → IsIn x xs
contains_to xs x contains = go xs contains.0 contains.1 contains.2
  where
    go : (xs : List _) (k : ℕ) → k < length xs → slice_index_or xs k x ≡ x → IsIn x xs
    go [] k within at = absurd (omega arith)
    go (y ∷ ys) zero within at = inl (sym at)
    go (y ∷ ys) (suc k) within at = inr (go ys k (omega arith) at)

-- keys that were sorted and kept once each are in strict order, and are the same keys
pub record IsInOrder (keys sorted : List (List ℕ)) : Type 0 where
  pub strictly : IsStrictlySortedBy (slice_cmp nat_cmp) sorted
  pub all : (key : List ℕ) → IsIn key keys → IsIn key sorted
  pub only : (key : List ℕ) → IsIn key sorted → IsIn key keys

pub in_order : (keys moved sorted : List (List ℕ)) → IsPermutation keys moved → IsSorted (slice_cmp nat_cmp) moved → IsFiltered (DiffersFromLast bytes_eq) [] moved sorted → IsInOrder keys sorted
in_order keys moved sorted permutation in_place filtered =
    let is = dedup_is bytes_eq moved sorted filtered in
    subst (IsInOrder keys) (sym is) (record {
      strictly = IsStrictlySortedBy-dedup nat_list_cmp_total texts_ties moved in_place;
      all = λ key key_in. contains_to (dedup bytes_eq moved) key
          (Contains-dedup nat_list_eq_equiv (λ x y same. (bytes_eq-Decides x y).0 same) moved key (Contains-permutation keys moved key permutation (contains_from keys key key_in)));
      only = λ key key_in. contains_to keys key
          (Contains-permutation moved keys key (IsPermutation-sym keys moved permutation) (Contains-from_dedup bytes_eq moved key (contains_from (dedup bytes_eq moved) key key_in)));
    })
