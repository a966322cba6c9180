-- What is changed under one name is changed at one place.
use Rattle.std.proofs.Common.{◌≡◌, ℕ, suc, ◌+◌, Bool, true, false, List, [], ◌∷◌, map, refl, sym, ◌∙◌, ap, arith}
use Rattle.std.specs.Prelude.{bytes_eq, slice_set, if◌then◌else◌}
use Rattle.std.specs.List.{list_any, position_or_len}
use Rattle.std.proofs.lemmas.Slice.Eq.{bytes_eq-Decides}

-- no element passes behind one that does
abbrev pub Once : {X : Type 0} → (X → Bool) → List X → Type 0
Once p [] = Unit {0}
Once p (x ∷ xs) = (p x ≡ true → list_any p xs ≡ false) × Once p xs

abbrev pub changed : {X : Type 0} → (X → Bool) → (X → X) → List X → List X
changed p f xs = map (λ x. if p x then f x else x) xs

none_step : {X : Type 0} (p : X → Bool) (f : X → X) (x : X) (xs : List X) (b : Bool) → p x ≡ b → list_any p (x ∷ xs) ≡ false
    → (list_any p xs ≡ false → changed p f xs ≡ xs) → changed p f (x ∷ xs) ≡ x ∷ xs
none_step p f x xs true e none rest = absurd (let wrong = rw e at none in cc)
none_step p f x xs false e none rest = let fewer = rw e at none in let same = rest fewer in rw (e, same) refl

none_changed : {X : Type 0} (p : X → Bool) (f : X → X) (xs : List X) → list_any p xs ≡ false → changed p f xs ≡ xs
none_changed p f [] none = refl
none_changed p f (x ∷ xs) none = none_step p f x xs (p x) refl none (none_changed p f xs)

once_step : {X Y : Type 0} (p : X → Bool) (f : X → X) (g : X → Y) (y : Y) (x : X) (xs : List X) (b : Bool) → p x ≡ b → (g (f x) ≡ y) → Once p (x ∷ xs)
    → map g (changed p f xs) ≡ slice_set (map g xs) (position_or_len p xs) y
    → map g (changed p f (x ∷ xs)) ≡ slice_set (map g (x ∷ xs)) (position_or_len p (x ∷ xs)) y
once_step p f g y x xs true e gives once rest = let same = none_changed p f xs (once.0 e) in rw (e, same, gives) refl
once_step p f g y x xs false e gives once rest =
    rw e (let next : 1 + position_or_len p xs ≡ suc (position_or_len p xs) = omega arith in rw (next, rest) refl)

pub changed_once : {X Y : Type 0} (p : X → Bool) (f : X → X) (g : X → Y) (y : Y) (xs : List X) → ((x : X) → g (f x) ≡ y) → Once p xs
    → map g (changed p f xs) ≡ slice_set (map g xs) (position_or_len p xs) y
changed_once p f g y [] gives once = refl
changed_once p f g y (x ∷ xs) gives once = once_step p f g y x xs (p x) refl (gives x) once (changed_once p f g y xs gives once.1)

kept_step : {X Y : Type 0} (p : X → Bool) (f : X → X) (g : X → Y) (x : X) (b : Bool) → p x ≡ b → g (f x) ≡ g x → g (if p x then f x else x) ≡ g x
kept_step p f g x true e keeps = rw e keeps
kept_step p f g x false e keeps = rw e refl

-- what a change keeps of each, it keeps of all
pub changed_keeps : {X Y : Type 0} (p : X → Bool) (f : X → X) (g : X → Y) (xs : List X) → ((x : X) → g (f x) ≡ g x) → map g (changed p f xs) ≡ map g xs
changed_keeps p f g [] keeps = refl
changed_keeps p f g (x ∷ xs) keeps =
    let first = kept_step p f g x (p x) refl (keeps x) in let later = changed_keeps p f g xs keeps in rw (first, later) refl

-- no name stands twice
abbrev pub Distinct : List (List ℕ) → Type 0
Distinct [] = Unit {0}
Distinct (name ∷ names) = (list_any (λ other. bytes_eq other name) names ≡ false) × Distinct names

any_named : {X : Type 0} (f : X → List ℕ) (name : List ℕ) (xs : List X) → list_any (λ x. bytes_eq (f x) name) xs ≡ list_any (λ other. bytes_eq other name) (map f xs)
any_named f name [] = refl
any_named f name (x ∷ xs) = let later = any_named f name xs in rw later refl

-- where no name stands twice, a name passes once
pub distinct_once : {X : Type 0} (f : X → List ℕ) (name : List ℕ) (xs : List X) → Distinct (map f xs) → Once (λ x. bytes_eq (f x) name) xs
distinct_once f name [] distinct = tt
distinct_once f name (x ∷ xs) distinct = (
  λ passes. any_named f name xs
      ∙ ap (λ n. list_any (λ other. bytes_eq other n) (map f xs)) (sym ((bytes_eq-Decides (f x) name).0 passes)) ∙ distinct.0,
  distinct_once f name xs distinct.1,
)
