-- The first places of symbols among roots.
use Rattle.std.proofs.Common.{◌≡◌, ℕ, zero, suc, ◌+◌, ◌-◌, ◌<◌, ◌≤◌, Bool, true, false, cond, List, [], ◌∷◌, ◌++◌, drop, length, replicate, slice_get, slice_index_or, slice_set, Option, Some, None, refl, sym, ◌∙◌, ap, subst, arith, inl, inr, add-one, drop-cons, eq-eqb}
use Rattle.std.specs.List.{position_from}
use Rattle.std.proofs.lemmas.Bool.{both_ways, cases_eq, ne_eqb}
use Rattle.std.proofs.lemmas.List.{drop_all, length-replicate}
use Rattle.constraint_set.specs.Form.{ArePlaces, place_of, with_place}
use Rattle.constraint_set.specs.Known.{is_same}
use Rattle.constraint_set.specs.Solved.{resolved}
use Rattle.constraint_set.specs.declared.atom.Atom.{Atom}
use Rattle.constraint_set.specs.declared.atom.Atom.TheVariants.{Const, Sym}
use Rattle.constraint_set.specs.declared.symbol.Symbol.{Symbol}
use Rattle.constraint_set.proofs.Atoms.{is_same-equal, is_same_itself}

-- the first place, counted on from a number, at which a test passes
record IsFirstPlace {A : Type 0} (test : A → Bool) (from : ℕ) (xs : List A) (place : ℕ) : Type 0 where
  behind : ℕ
  is : place ≡ from + behind
  item : A
  at : slice_get xs behind ≡ Some item
  passes : test item ≡ true
  before : (k : ℕ) (x : A) → k < behind → slice_get xs k ≡ Some x → test x ≡ false

first_place : {A : Type 0} → (test : A → Bool) (from : ℕ) (xs : List A) (place : ℕ) → position_from test from xs ≡ Some place → IsFirstPlace test from xs place
first_place test from [] place found = absurd (cc)
first_place test from (x ∷ xs) place found = go (test x) refl found (λ later. first_place test (from + 1) xs place later)
  where
    go : (b : Bool) → test x ≡ b → cond b (Some from) (position_from test (from + 1) xs) ≡ Some place → (position_from test (from + 1) xs ≡ Some place → IsFirstPlace test (from + 1) xs place)
        → IsFirstPlace test from (x ∷ xs) place
    go true is found later =
        let same : from ≡ place = cc in
        record { behind = 0; is = omega (arith, same); item = x; at = refl; passes = is; before = λ k y below at. absurd (omega arith) }
    go false is found later =
        let rest = later found in
        let place_is = rest.is in
        record {
          behind = suc rest.behind;
          is = omega arith;
          item = rest.item;
          at = rest.at;
          passes = rest.passes;
          before = before_too rest;
        }
      where
        before_too : (rest : IsFirstPlace test (from + 1) xs place) → (k : ℕ) (y : _) → k < suc rest.behind → slice_get (x ∷ xs) k ≡ Some y → test y ≡ false
        before_too rest zero y below at = let same : x ≡ y = cc in ap test (sym same) ∙ is
        before_too rest (suc k) y below at = rest.before k y (omega arith) at

-- where the test passes somewhere, there is a first place, not after it
some_place : {A : Type 0} → (test : A → Bool) (from : ℕ) (xs : List A) (k : ℕ) (x : A) → slice_get xs k ≡ Some x → test x ≡ true → (place : ℕ) × (position_from test from xs ≡ Some place) × (place ≤ from + k)
some_place test from [] k x at passes = absurd (cc)
some_place test from (y ∷ ys) k x at passes = go (test y) refl k at (λ j later. some_place test (from + 1) ys j x later passes)
  where
    go : (b : Bool) → test y ≡ b → (k : ℕ) → slice_get (y ∷ ys) k ≡ Some x
        → ((j : ℕ) → slice_get ys j ≡ Some x → (place : ℕ) × (position_from test (from + 1) ys ≡ Some place) × (place ≤ from + 1 + j))
        → (place : ℕ) × (cond b (Some from) (position_from test (from + 1) ys) ≡ Some place) × (place ≤ from + k)
    go true is k at later = (from, refl, omega arith)
    go false is zero at later = absurd (let same : y ≡ x = cc in both_ways (test y) is (ap test same ∙ passes))
    go false is (suc k) at later = let found = later k at in let near = found.2 in (found.0, found.1, omega arith)

-- what stands at the first place of a symbol
pub record IsPlaced (symbols : List Symbol) (roots : List Atom) (r : ℕ) (place : ℕ) : Type 0 where
  pub root : Atom
  pub at : slice_get roots place ≡ Some root
  pub is : resolved symbols root ≡ Sym r
  pub before : (k : ℕ) (other : Atom) → k < place → slice_get roots k ≡ Some other → resolved symbols other ≡ Sym r → ⊥

pub placed : (symbols : List Symbol) (roots : List Atom) (r place : ℕ) → place_of symbols roots r ≡ Some place → IsPlaced symbols roots r place
placed symbols roots r place found =
    let first = first_place (λ root. is_same (resolved symbols root) (Sym r)) 0 roots place found in
    let place_is = first.is in
    let same : place ≡ first.behind = omega arith in
    record {
      root = first.item;
      at = ap (slice_get roots) same ∙ first.at;
      is = is_same-equal (resolved symbols first.item) (Sym r) first.passes;
      before = λ k other below at stands. both_ways (is_same (resolved symbols other) (Sym r)) (first.before k other (omega arith) at)
          (ap (λ a. is_same a (Sym r)) stands ∙ is_same_itself (Sym r));
    }

pub has_place : (symbols : List Symbol) (roots : List Atom) (r k : ℕ) (root : Atom) → slice_get roots k ≡ Some root → resolved symbols root ≡ Sym r
    → (place : ℕ) × (place_of symbols roots r ≡ Some place) × (place ≤ k)
has_place symbols roots r k root at stands =
    let found = some_place (λ other. is_same (resolved symbols other) (Sym r)) 0 roots k root at (ap (λ a. is_same a (Sym r)) stands ∙ is_same_itself (Sym r)) in
    let near = found.2 in
    (found.0, found.1, omega arith)

-- two symbols have two places
pub one_symbol : (symbols : List Symbol) (roots : List Atom) (r s place : ℕ) → place_of symbols roots r ≡ Some place → place_of symbols roots s ≡ Some place → r ≡ s
one_symbol symbols roots r s place first second =
    let a = placed symbols roots r place first in
    let b = placed symbols roots s place second in
    let same : a.root ≡ b.root = (let both : Some a.root ≡ Some b.root = sym a.at ∙ b.at in cc) in
    let symbols_same : Sym r ≡ Sym s = sym a.is ∙ ap (resolved symbols) same ∙ b.is in
    cc

-- a table of the first places among the roots from one on
pub record ArePlacesFrom (symbols : List Symbol) (roots : List Atom) (from : ℕ) (places : List (Option ℕ)) : Type 0 where
  pub long : length places ≡ length symbols
  pub each : (r : ℕ) → r < length symbols → slice_get places r ≡ Some (position_from (λ root. is_same (resolved symbols root) (Sym r)) from (drop from roots))

none_at : (n r : ℕ) → r < n → slice_get {X = Option ℕ} (replicate n None) r ≡ Some None
none_at zero r within = absurd (omega arith)
none_at (suc n) zero within = refl
none_at (suc n) (suc r) within = none_at n r (omega arith)

-- one more without a place
pub replicate_more : {A : Type 0} → (n : ℕ) (x : A) → replicate n x ++ x ∷ [] ≡ replicate (n + 1) x
replicate_more n x = go n ∙ ap (λ k. replicate k x) (sym (add-one n))
  where
    go : (n : ℕ) → replicate n x ++ x ∷ [] ≡ replicate (suc n) x
    go zero = refl
    go (suc n) = ap (λ rest. x ∷ rest) (go n)

-- past the last root
pub no_places : (symbols : List Symbol) (roots : List Atom) (places : List (Option ℕ)) (from : ℕ) → length roots ≤ from → places ≡ replicate (length symbols) None → ArePlacesFrom symbols roots from places
no_places symbols roots places from past is = record {
  long = ap length is ∙ length-replicate (length symbols) None;
  each = λ r within. ap (λ list. slice_get list r) is ∙ none_at (length symbols) r within ∙ ap Some (sym (ap (position_from (λ root. is_same (resolved symbols root) (Sym r)) from) (drop_all from roots past)));
}

slice_get-set_here : {A : Type 0} → (xs : List A) (k : ℕ) (x : A) → k < length xs → slice_get (slice_set xs k x) k ≡ Some x
slice_get-set_here [] k x within = absurd (omega arith)
slice_get-set_here (y ∷ ys) zero x within = refl
slice_get-set_here (y ∷ ys) (suc k) x within = slice_get-set_here ys k x (omega arith)

slice_get-set_other : {A : Type 0} → (xs : List A) (j k : ℕ) (x : A) → (j ≡ k → ⊥) → slice_get (slice_set xs j x) k ≡ slice_get xs k
slice_get-set_other [] j k x differ = refl
slice_get-set_other (y ∷ ys) zero zero x differ = absurd (differ refl)
slice_get-set_other (y ∷ ys) zero (suc k) x differ = refl
slice_get-set_other (y ∷ ys) (suc j) zero x differ = refl
slice_get-set_other (y ∷ ys) (suc j) (suc k) x differ = slice_get-set_other ys j k x (λ same. differ (ap suc same))

length-set_place : {A : Type 0} → (xs : List A) (k : ℕ) (x : A) → length (slice_set xs k x) ≡ length xs
length-set_place [] k x = refl
length-set_place (y ∷ ys) zero x = refl
length-set_place (y ∷ ys) (suc k) x = ap suc (length-set_place ys k x)

-- one root more in front
pub one_place_more : (symbols : List Symbol) (roots : List Atom) (from : ℕ) (places : List (Option ℕ)) (root : Atom) → ArePlacesFrom symbols roots (from + 1) places → from < length roots
    → root ≡ slice_index_or roots from root → ArePlacesFrom symbols roots from (with_place places (resolved symbols root) from)
one_place_more symbols roots from places root are within is = go (resolved symbols root) refl
  where
    front : (r : ℕ) (x : Atom) → resolved symbols root ≡ x
        → position_from (λ other. is_same (resolved symbols other) (Sym r)) from (drop from roots) ≡ cond (is_same x (Sym r)) (Some from) (position_from (λ other. is_same (resolved symbols other) (Sym r)) (from + 1) (drop (from + 1) roots))
    front r x stands =
        ap (position_from (λ other. is_same (resolved symbols other) (Sym r)) from) (drop-cons roots from root within ∙ ap (λ y. y ∷ drop (suc from) roots) (sym is) ∙ ap (λ n. root ∷ drop n roots) (sym (add-one from)))
        ∙ ap (λ y. cond (is_same y (Sym r)) (Some from) (position_from (λ other. is_same (resolved symbols other) (Sym r)) (from + 1) (drop (from + 1) roots))) stands

    go : (x : Atom) → resolved symbols root ≡ x → ArePlacesFrom symbols roots from (with_place places x from)
    go (Const text) stands = record { long = are.long; each = λ r r_within. are.each r r_within ∙ ap Some (sym (front r (Const text) stands)) }
    go (Sym s) stands = record {
      long = length-set_place places s (Some from) ∙ are.long;
      each = λ r r_within. elim (cases_eq s r) [
        | inl same ↦
            ap (λ k. slice_get (slice_set places s (Some from)) k) (sym same) ∙ slice_get-set_here places s (Some from) (omega (arith, are.long, same, r_within))
            ∙ ap Some (sym (front r (Sym s) stands ∙ ap (λ test. cond test (Some from) (position_from (λ other. is_same (resolved symbols other) (Sym r)) (from + 1) (drop (from + 1) roots))) (eq-eqb s r same)))
        | inr differ ↦
            slice_get-set_other places s r (Some from) differ ∙ are.each r r_within
            ∙ ap Some (sym (front r (Sym s) stands ∙ ap (λ test. cond test (Some from) (position_from (λ other. is_same (resolved symbols other) (Sym r)) (from + 1) (drop (from + 1) roots))) (ne_eqb s r differ)))
      ];
    }

-- the same where the places from the next root on are known
pub place_more : (symbols : List Symbol) (roots : List Atom) (place : ℕ) (places new : List (Option ℕ)) (root : Atom) → ArePlacesFrom symbols roots place places → 0 < place → place ≤ length roots
    → root ≡ slice_index_or roots (place - 1) root → new ≡ with_place places (resolved symbols root) (place - 1) → ArePlacesFrom symbols roots (place - 1) new
place_more symbols roots place places new root are some within is new_is =
    let next : (place - 1) + 1 ≡ place = omega arith in
    subst (ArePlacesFrom symbols roots (place - 1)) (sym new_is)
    (one_place_more symbols roots (place - 1) places root (subst (λ k. ArePlacesFrom symbols roots k places) (sym next) are) (omega arith) is)

-- from the first root on it is the table
pub all_places : (symbols : List Symbol) (roots : List Atom) (places : List (Option ℕ)) → ArePlacesFrom symbols roots 0 places → ArePlaces symbols roots places
all_places symbols roots places are = record { long = are.long; each = are.each }
