-- Atoms, what they stand for, and lists of symbols.
use Rattle.std.proofs.Common.{◌≡◌, ◌⊎◌, ℕ, zero, suc, ◌<◌, Bool, true, false, not, ◌&&◌, List, [], ◌∷◌, ◌++◌, map, length, slice_get, Option, Some, None, option_map, refl, sym, ◌∙◌, ap, arith, inl, inr, eq-eqb}
use Rattle.std.specs.List.{list_all}
use Rattle.std.specs.Option.{option_map_or}
use Rattle.std.proofs.lemmas.Bool.{eqb-true}
use Rattle.std.proofs.lemmas.Option.{slice_get-map}
use Rattle.std.proofs.lemmas.Slice.Eq.{bytes_eq-Decides}
use Rattle.spec_model.specs.declared.event.Framing.{Framing}
use Rattle.constraint_set.specs.Known.{FitsSymbols, IsIn, is_same, text_of}
use Rattle.constraint_set.specs.Solved.{resolved, is_apart}
use Rattle.constraint_set.specs.declared.atom.Atom.{Atom}
use Rattle.constraint_set.specs.declared.atom.Atom.TheVariants.{Const, Sym}
use Rattle.constraint_set.specs.declared.symbol.Symbol.{Symbol}
use Rattle.constraint_set.specs.declared.symbol.Difference.{Difference}

pub is_same-equal : (a b : Atom) → is_same a b ≡ true → a ≡ b
is_same-equal (Const text) (Const other) same = ap Const ((bytes_eq-Decides text other).0 same)
is_same-equal (Const text) (Sym other) same = absurd (cc)
is_same-equal (Sym s) (Const other) same = absurd (cc)
is_same-equal (Sym s) (Sym other) same = ap Sym (eqb-true s other same)

pub is_same_itself : (a : Atom) → is_same a a ≡ true
is_same_itself (Const text) = (bytes_eq-Decides text text).1 refl
is_same_itself (Sym s) = eq-eqb s s refl

-- the item at a place within the list
pub item_at : {A : Type 0} → (xs : List A) (k : ℕ) → k < length xs → (x : A) × (slice_get xs k ≡ Some x)
item_at [] k within = absurd (omega arith)
item_at (x ∷ xs) zero within = (x, refl)
item_at (x ∷ xs) (suc k) within = item_at xs k (omega arith)

-- an item of a mapped list is that of an item
pub mapped_from : {A B : Type 0} → (f : A → B) (xs : List A) (k : ℕ) (y : B) → slice_get (map f xs) k ≡ Some y → (x : A) × (slice_get xs k ≡ Some x) × (y ≡ f x)
mapped_from f [] k y at = absurd (cc)
mapped_from f (x ∷ xs) zero y at = (x, refl, cc)
mapped_from f (x ∷ xs) (suc k) y at = mapped_from f xs k y at

pub mapped_at : {A B : Type 0} → (f : A → B) (xs : List A) (k : ℕ) (x : A) → slice_get xs k ≡ Some x → slice_get (map f xs) k ≡ Some (f x)
mapped_at f xs k x at = slice_get-map f xs k ∙ ap (option_map f) at

-- what a symbol stands for
pub resolved_at : (symbols : List Symbol) (s : ℕ) (symbol : Symbol) → slice_get symbols s ≡ Some symbol → resolved symbols (Sym s) ≡ symbol.stands_for
resolved_at symbols s symbol at = ap (λ found. option_map_or (λ (symbol : Symbol). symbol.stands_for) found (Sym s)) at

-- with fitting texts an atom has the text of what it stands for
pub text_of-resolved : (framing : Framing) (symbols : List Symbol) (texts : List (List ℕ)) → FitsSymbols framing symbols texts → (a : Atom) → text_of texts a ≡ text_of texts (resolved symbols a)
text_of-resolved framing symbols texts fits (Const text) = refl
text_of-resolved framing symbols texts fits (Sym s) = go (slice_get symbols s) refl
  where
    go : (found : Option Symbol) → slice_get symbols s ≡ found → text_of texts (Sym s) ≡ text_of texts (option_map_or (λ (symbol : Symbol). symbol.stands_for) found (Sym s))
    go None at = refl
    go (Some symbol) at = fits.equal s symbol at

-- one of the differences is of that kind
pub some_fails : {A : Type 0} → (test : A → Bool) (xs : List A) → list_all test xs ≡ false → (x : A) × IsIn x xs × (test x ≡ false)
some_fails test [] fails = absurd (cc)
some_fails test (x ∷ xs) fails = go (test x) refl fails (λ later. some_fails test xs later)
  where
    go : (b : Bool) → test x ≡ b → (b && list_all test xs) ≡ false → (list_all test xs ≡ false → (y : _) × IsIn y xs × (test y ≡ false)) → (y : _) × IsIn y (x ∷ xs) × (test y ≡ false)
    go true is fails later = let found = later fails in (found.0, inr found.1, found.2)
    go false is fails later = (x, inl refl, is)

pub each_passes : {A : Type 0} → (test : A → Bool) (xs : List A) → list_all test xs ≡ true → (x : A) → IsIn x xs → test x ≡ true
each_passes test [] pass x is_in = absurd is_in
each_passes test (y ∷ ys) pass x is_in = go (test y) refl pass is_in (λ rest x_in. each_passes test ys rest x x_in)
  where
    go : (b : Bool) → test y ≡ b → (b && list_all test ys) ≡ true → ((x ≡ y) ⊎ IsIn x ys) → (list_all test ys ≡ true → IsIn x ys → test x ≡ true) → test x ≡ true
    go true is pass (inl same) later = ap test same ∙ is
    go true is pass (inr x_in) later = later pass x_in
    go false is pass where_in later = absurd (cc)

-- a test that each passes
pub all_pass : {A : Type 0} → (test : A → Bool) (xs : List A) → ((x : A) → IsIn x xs → test x ≡ true) → list_all test xs ≡ true
all_pass test [] each = refl
all_pass test (x ∷ xs) each = rw (each x (inl refl), all_pass test xs (λ y y_in. each y (inr y_in))) refl

-- an item of two lists joined
pub IsIn-append : {A : Type 0} → (x : A) (xs ys : List A) → IsIn x (xs ++ ys) → IsIn x xs ⊎ IsIn x ys
IsIn-append x [] ys is_in = inr is_in
IsIn-append x (y ∷ xs) ys (inl same) = inl (inl same)
IsIn-append x (y ∷ xs) ys (inr later) = elim (IsIn-append x xs ys later) [ inl first ↦ inl (inr first) | inr second ↦ inr second ]

pub IsIn_first : {A : Type 0} → (x : A) (xs ys : List A) → IsIn x xs → IsIn x (xs ++ ys)
IsIn_first x [] ys is_in = absurd is_in
IsIn_first x (y ∷ xs) ys (inl same) = inl same
IsIn_first x (y ∷ xs) ys (inr later) = inr (IsIn_first x xs ys later)

pub IsIn_second : {A : Type 0} → (x : A) (xs ys : List A) → IsIn x ys → IsIn x (xs ++ ys)
IsIn_second x [] ys is_in = is_in
IsIn_second x (y ∷ xs) ys is_in = inr (IsIn_second x xs ys is_in)

-- the sides of a difference stand for different atoms
pub apart_sides : (symbols : List Symbol) (d : Difference) → is_apart symbols d ≡ true → resolved symbols d.left ≡ resolved symbols d.right → ⊥
apart_sides symbols d apart same =
    let equal : is_same (resolved symbols d.left) (resolved symbols d.right) ≡ true = ap (is_same (resolved symbols d.left)) (sym same) ∙ is_same_itself (resolved symbols d.left) in
    let wrong : not true ≡ true = ap not (sym equal) ∙ apart in absurd (cc)

pub together_sides : (symbols : List Symbol) (d : Difference) → is_apart symbols d ≡ false → resolved symbols d.left ≡ resolved symbols d.right
together_sides symbols d together = is_same-equal _ _ (go (is_same (resolved symbols d.left) (resolved symbols d.right)) together)
  where
    go : (b : Bool) → not b ≡ false → b ≡ true
    go true together = refl
    go false together = absurd (cc)
