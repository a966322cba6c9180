-- Some item of a list, and items two by two, where a list is built at its front or of two lists.
use Rattle.std.proofs.Common.{zero, suc, ◌⊎◌, inl, inr, ⊎_elim, All, AllPairs, Any, List, [], ◌∷◌, ◌++◌, map, refl, sym, subst, arith, slice_index_or}
use Rattle.std.proofs.lemmas.List.Elements.{All-append, All-cons, All-head, All-map, All-tail}
use Rattle.std.proofs.lemmas.List.Kept.{AllPairs-cons}

module _ {X : Type 0} (P : X → Type 0) where
  pub Any-none : Any P [] → ⊥
  Any-none (k, x, within, at, holds) = omega (arith, within)

  pub Any-head : (x : X) (xs : List X) → P x → Any P (x ∷ xs)
  Any-head x xs holds = (0, x, omega arith, refl, holds)

  pub Any-later : (x : X) (xs : List X) → Any P xs → Any P (x ∷ xs)
  Any-later x xs (k, y, within, at, holds) = (suc k, y, omega (arith, within), at, holds)

  pub Any-cases : (x : X) (xs : List X) → Any P (x ∷ xs) → P x ⊎ Any P xs
  Any-cases x xs (zero, y, within, at, holds) = inl (subst P (sym at) holds)
  Any-cases x xs (suc k, y, within, at, holds) = inr (k, y, omega (arith, within), at, holds)

  pub Any-append_left : (xs ys : List X) → Any P xs → Any P (xs ++ ys)
  Any-append_left [] ys some = absurd (Any-none some)
  Any-append_left (x ∷ xs) ys some =
      ⊎_elim (λ here. Any-head x (xs ++ ys) here) (λ later. Any-later x (xs ++ ys) (Any-append_left xs ys later)) (Any-cases x xs some)

  pub Any-append_right : (xs ys : List X) → Any P ys → Any P (xs ++ ys)
  Any-append_right [] ys some = some
  Any-append_right (x ∷ xs) ys some = Any-later x (xs ++ ys) (Any-append_right xs ys some)

  pub Any-with_all : (Q : X → Type 0) (goal : Type 0) (xs : List X) → Any P xs → All Q xs → ((x : X) → P x → Q x → goal) → goal
  Any-with_all Q goal xs (k, x, within, at, holds) all both = both x holds (subst Q at (all k x within))

pub Any-weaker : {X : Type 0} (P Q : X → Type 0) (xs : List X) → ((x : X) → P x → Q x) → Any P xs → Any Q xs
Any-weaker P Q xs leads (k, x, within, at, holds) = (k, x, within, at, leads x holds)

module _ {X : Type 0} (P : X → Type 0) where
  pub All-front : (xs ys : List X) → All P (xs ++ ys) → All P xs
  All-front [] ys all = λ k d within. absurd (omega (arith, within))
  All-front (x ∷ xs) ys all = All-cons P x xs (All-head P x (xs ++ ys) all) (All-front xs ys (All-tail P x (xs ++ ys) all))

  pub All-back : (xs ys : List X) → All P (xs ++ ys) → All P ys
  All-back [] ys all = all
  All-back (x ∷ xs) ys all = All-back xs ys (All-tail P x (xs ++ ys) all)

module _ {X : Type 0} (R : X → X → Type 0) where
  pub AllPairs-none : AllPairs R []
  AllPairs-none i j d before within = absurd (omega (arith, within))

  pub AllPairs-head : (x : X) (xs : List X) → AllPairs R (x ∷ xs) → All (R x) xs
  AllPairs-head x xs pairs k d within = pairs zero (suc k) d (omega arith) (omega (arith, within))

  pub AllPairs-tail : (x : X) (xs : List X) → AllPairs R (x ∷ xs) → AllPairs R xs
  AllPairs-tail x xs pairs i j d before within = pairs (suc i) (suc j) d (omega (arith, before)) (omega (arith, within))

  pub AllPairs-append : (xs ys : List X) → AllPairs R xs → AllPairs R ys → All (λ x. All (R x) ys) xs → AllPairs R (xs ++ ys)
  AllPairs-append [] ys first second across = second
  AllPairs-append (x ∷ xs) ys first second across =
      AllPairs-cons R x (xs ++ ys) (All-append (R x) xs ys (AllPairs-head x xs first) (All-head (λ x. All (R x) ys) x xs across))
      (AllPairs-append xs ys (AllPairs-tail x xs first) second (All-tail (λ x. All (R x) ys) x xs across))

  pub AllPairs-front : (xs ys : List X) → AllPairs R (xs ++ ys) → AllPairs R xs
  AllPairs-front [] ys pairs = AllPairs-none
  AllPairs-front (x ∷ xs) ys pairs =
      AllPairs-cons R x xs (All-front (R x) xs ys (AllPairs-head x (xs ++ ys) pairs)) (AllPairs-front xs ys (AllPairs-tail x (xs ++ ys) pairs))

  pub AllPairs-back : (xs ys : List X) → AllPairs R (xs ++ ys) → AllPairs R ys
  AllPairs-back [] ys pairs = pairs
  AllPairs-back (x ∷ xs) ys pairs = AllPairs-back xs ys (AllPairs-tail x (xs ++ ys) pairs)

  pub AllPairs-across : (xs ys : List X) → AllPairs R (xs ++ ys) → All (λ x. All (R x) ys) xs
  AllPairs-across [] ys pairs = λ k d within. absurd (omega (arith, within))
  AllPairs-across (x ∷ xs) ys pairs =
      All-cons (λ x. All (R x) ys) x xs (All-back (R x) xs ys (AllPairs-head x (xs ++ ys) pairs)) (AllPairs-across xs ys (AllPairs-tail x (xs ++ ys) pairs))

-- So for lists of what a function makes.
module _ {X Y : Type 0} (f : X → Y) where
  pub Any-map : (P : Y → Type 0) (xs : List X) → Any (λ x. P (f x)) xs → Any P (map f xs)
  Any-map P [] some = absurd (Any-none (λ x. P (f x)) some)
  Any-map P (x ∷ xs) some =
      ⊎_elim (λ here. Any-head P (f x) (map f xs) here) (λ later. Any-later P (f x) (map f xs) (Any-map P xs later)) (Any-cases (λ x. P (f x)) x xs some)

  pub All-unmap : (P : Y → Type 0) (xs : List X) → All P (map f xs) → All (λ x. P (f x)) xs
  All-unmap P [] all = λ k d within. absurd (omega (arith, within))
  All-unmap P (x ∷ xs) all = All-cons (λ x. P (f x)) x xs (All-head P (f x) (map f xs) all) (All-unmap P xs (All-tail P (f x) (map f xs) all))

  pub AllPairs-map : (R : Y → Y → Type 0) (xs : List X) → AllPairs (λ x y. R (f x) (f y)) xs → AllPairs R (map f xs)
  AllPairs-map R [] pairs = AllPairs-none R
  AllPairs-map R (x ∷ xs) pairs =
      AllPairs-cons R (f x) (map f xs) (All-map (R (f x)) f xs (AllPairs-head (λ x y. R (f x) (f y)) x xs pairs))
      (AllPairs-map R xs (AllPairs-tail (λ x y. R (f x) (f y)) x xs pairs))

-- Items of which each has a property, and two by two in one relation, are so in another.
pub AllPairs-weaker : {X : Type 0} (P : X → Type 0) (R S : X → X → Type 0) (xs : List X) → ((x y : X) → P x → P y → R x y → S x y) → All P xs → AllPairs R xs → AllPairs S xs
AllPairs-weaker P R S xs leads all pairs = λ i j d before within.
    leads (slice_index_or xs i d) (slice_index_or xs j d) (all i d (omega (arith, before, within))) (all j d within) (pairs i j d before within)
