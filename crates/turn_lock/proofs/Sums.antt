-- Sums over a list and facts about each of its elements, where one element changes.
use Rattle.std.proofs.Common.{◌≡◌, ℕ, zero, suc, ◌+◌, ◌≤◌, List, [], ◌∷◌, set, sym, refl, ap, subst, arith}
use Rattle.std.specs.Prelude.{All, sum_by}
use Rattle.std.proofs.lemmas.List.Sums.{sum_by-cons}
use Rattle.std.proofs.lemmas.List.Elements.{All-nil, All-head, All-tail, All-cons}
use mathlib.Core.Option.{some, some-injective, some-ne-none}
use lib.ListN.{get_elem?}

module _ {A : Type 0} where
  pub All-at : (P : A → Type 0) (xs : List A) (i : ℕ) (v : A) → get_elem? xs i ≡ some v → All P xs → P v
  All-at P [] i v at all = absurd (some-ne-none v (sym at))
  All-at P (x ∷ xs) zero v at all = subst P (some-injective x v at) (All-head P x xs all)
  All-at P (x ∷ xs) (suc i) v at all = All-at P xs i v at (All-tail P x xs all)

  pub sum_by-none : (f : A → ℕ) (xs : List A) → All (λ x. f x ≡ 0) xs → sum_by f xs ≡ 0
  sum_by-none f [] none = refl
  sum_by-none f (x ∷ xs) none = omega (arith, sum_by-cons f x xs, All-head (λ x. f x ≡ 0) x xs none, sum_by-none f xs (All-tail (λ x. f x ≡ 0) x xs none))

  module _ (f : A → ℕ) where
    -- what the sum of a list loses and gains where an element changes
    pub sum_by-set_at : (xs : List A) (i : ℕ) (v w : A) → get_elem? xs i ≡ some v → sum_by f (set xs i w) + f v ≡ sum_by f xs + f w
    sum_by-set_at [] i v w at = absurd (some-ne-none v (sym at))
    sum_by-set_at (x ∷ xs) zero v w at = omega (arith, sum_by-cons f x xs, sum_by-cons f w xs, ap f (some-injective x v at))
    sum_by-set_at (x ∷ xs) (suc i) v w at = omega (arith, sum_by-cons f x xs, sum_by-cons f x (set xs i w), sum_by-set_at xs i v w at)

    -- an element that weighs the same changes no sum
    pub sum_by-set_same : (xs : List A) (i : ℕ) (v w : A) → get_elem? xs i ≡ some v → f w ≡ f v → sum_by f (set xs i w) ≡ sum_by f xs
    sum_by-set_same xs i v w at same = omega (arith, sum_by-set_at xs i v w at)

    pub at-le-sum_by : (xs : List A) (i : ℕ) (v : A) → get_elem? xs i ≡ some v → f v ≤ sum_by f xs
    at-le-sum_by [] i v at = absurd (some-ne-none v (sym at))
    at-le-sum_by (x ∷ xs) zero v at = omega (arith, sum_by-cons f x xs, ap f (some-injective x v at))
    at-le-sum_by (x ∷ xs) (suc i) v at = omega (arith, sum_by-cons f x xs, at-le-sum_by xs i v at)

    pub none-sum_by : (xs : List A) → sum_by f xs ≡ 0 → All (λ x. f x ≡ 0) xs
    none-sum_by [] none = All-nil (λ x. f x ≡ 0)
    none-sum_by (x ∷ xs) none =
        let step = sum_by-cons f x xs in
        All-cons (λ x. f x ≡ 0) x xs (omega arith) (none-sum_by xs (omega arith))

    -- where the sum is one element's weight, each other element weighs nothing
    pub All-set_only : (P Q : A → Type 0) → ((x : A) → f x ≡ 0 → P x → Q x) → (xs : List A) (i : ℕ) (v w : A) → get_elem? xs i ≡ some v
        → sum_by f xs ≤ f v → All P xs → Q w → All Q (set xs i w)
    All-set_only P Q others [] i v w at only all mine = absurd (some-ne-none v (sym at))
    All-set_only P Q others (x ∷ xs) zero v w at only all mine =
        let step = sum_by-cons f x xs in
        let same : f x ≡ f v = ap f (some-injective x v at) in
        let rest : All (λ x. f x ≡ 0) xs = none-sum_by xs (omega arith) in
        All-cons Q w xs mine (λ k d h. others _ (rest k d h) (All-tail P x xs all k d h))
    All-set_only P Q others (x ∷ xs) (suc i) v w at only all mine =
        let step = sum_by-cons f x xs in
        let part = at-le-sum_by xs i v at in
        All-cons Q x (set xs i w) (others x (omega arith) (All-head P x xs all)) (All-set_only P Q others xs i v w at (omega arith) (All-tail P x xs all) mine)

    -- what weighs nothing by f counts nothing by g: the sum by g is the count of the one element that weighs
    pub sum_by-only : (g : A → ℕ) → (xs : List A) (i : ℕ) (v : A) → get_elem? xs i ≡ some v → sum_by f xs ≤ f v → All (λ x. f x ≡ 0 → g x ≡ 0) xs
        → sum_by g xs ≡ g v
    sum_by-only g [] i v at only none = absurd (some-ne-none v (sym at))
    sum_by-only g (x ∷ xs) zero v at only none =
        let step = sum_by-cons f x xs in
        let same : f x ≡ f v = ap f (some-injective x v at) in
        let rest : All (λ x. f x ≡ 0) xs = none-sum_by xs (omega arith) in
        omega (arith, sum_by-cons g x xs, ap g (some-injective x v at), sum_by-none g xs (λ k d h. All-tail (λ x. f x ≡ 0 → g x ≡ 0) x xs none k d h (rest k d h)))
    sum_by-only g (x ∷ xs) (suc i) v at only none =
        let step = sum_by-cons f x xs in
        let part = at-le-sum_by xs i v at in
        let tail = All-tail (λ x. f x ≡ 0 → g x ≡ 0) x xs none in
        omega (arith, sum_by-cons g x xs, All-head (λ x. f x ≡ 0 → g x ≡ 0) x xs none (omega arith), sum_by-only g xs i v at (omega arith) tail)
