-- Entries at their places, where the list that they stand in grows by one entry.
use Rattle.std.proofs.Common.{◌≡◌, ℕ, zero, suc, ◌+◌, ◌-◌, ◌<◌, ◌≤◌, eqb, cond, true, false, List, [], ◌∷◌, ◌++◌, map, length, get_or, sym, refl, ap, ◌∙◌, subst, arith, append_assoc, append-nil, ne_eqb, Some}
use Rattle.std.specs.Prelude.{All, slice_get, nat_lt, if◌then◌else◌}
use Rattle.std.specs.List.Sorted.{IsStrictlyIncreasing}
use Rattle.std.proofs.lemmas.List.Sums.{sum_by_push}
use Rattle.std.proofs.lemmas.List.Elements.{All-nil, All-cons, All-head, All-tail, All-push, All-weaker, All-map}
use Rattle.std.proofs.lemmas.Option.{slice_get_within}
use Rattle.std.proofs.lemmas.Bool.{ltb-true, ltb-false}
use Rattle.turn_lock.specs.declared.view.Placed.{Placed}
use Rattle.turn_lock.specs.Places.{BeginsWith, StandsIn, IsKeptIn, times}
use Rattle.turn_lock.specs.Views.{placed, longer}
use Rattle.turn_lock.proofs.Sums.{sum_by-none}

module _ {E : Type 0} where
  -- a list begins with itself, and goes on to begin with its fronts where it grows
  pub begins_itself : (list : List E) → BeginsWith list list
  begins_itself list = ([], sym (append-nil list))

  pub begins_empty : (list : List E) → BeginsWith list []
  begins_empty list = (list, refl)

  -- no entries are kept anywhere
  pub kept_nothing : (list : List E) → All (IsKeptIn list) ([] ∷ [])
  kept_nothing list = All-cons (IsKeptIn list) [] [] record { standing = All-nil (StandsIn list); ascending = λ k h. absurd (omega arith) } (All-nil (IsKeptIn list))

  pub begins-append : (list front more : List E) → BeginsWith list front → BeginsWith (list ++ more) front
  begins-append list front more begins = (begins.0 ++ more, ap (λ (l : List E). l ++ more) begins.1 ∙ append_assoc front begins.0 more)

  -- of two fronts of one list, the longer begins with the shorter
  shorter : (xs ys r t : List E) → xs ++ r ≡ ys ++ t → length xs ≤ length ys → BeginsWith ys xs
  shorter [] ys r t same le = (ys, refl)
  shorter (x ∷ xs) [] r t same le = absurd (omega arith)
  shorter (x ∷ xs) (y ∷ ys) r t same le =
      let head : x ≡ y = cc in
      let tail : xs ++ r ≡ ys ++ t = cc in
      let rest = shorter xs ys r t tail (omega arith) in
      (rest.0, cc)

  pub slice_get_front : (xs ys : List E) (k : ℕ) (e : E) → slice_get xs k ≡ Some e → slice_get (xs ++ ys) k ≡ Some e
  slice_get_front [] ys k e at = absurd (cc)
  slice_get_front (x ∷ xs) ys zero e at = at
  slice_get_front (x ∷ xs) ys (suc k) e at = slice_get_front xs ys k e at

  slice_get_last : (xs : List E) (e : E) → slice_get (xs ++ e ∷ []) (length xs) ≡ Some e
  slice_get_last [] e = refl
  slice_get_last (x ∷ xs) e = slice_get_last xs e

  StandsIn-append : (list more : List E) (it : Placed E) → StandsIn list it → StandsIn (list ++ more) it
  StandsIn-append list more it stands = (stands.0, slice_get_front list more (it.place - 1) it.entry stands.1)

  pub IsKeptIn-append : (list more : List E) (own : List (Placed E)) → IsKeptIn list own → IsKeptIn (list ++ more) own
  IsKeptIn-append list more own kept =
      record { standing = All-weaker (StandsIn list) (StandsIn (list ++ more)) (λ it s. StandsIn-append list more it s) own kept.standing; ascending = kept.ascending }

  -- no entry stands past the list's end
  within : (list : List E) (own : List (Placed E)) → All (StandsIn list) own → All (λ it. it.place < length list + 1) own
  within list own standing =
      let inside : (it : Placed E) → StandsIn list it → it.place < length list + 1 =
      λ it stands. let positive = stands.0 in omega (arith, slice_get_within list (it.place - 1) it.entry stands.1) in
      All-weaker (StandsIn list) (λ it. it.place < length list + 1) inside own standing

increasing_tail : (x : ℕ) (xs : List ℕ) → IsStrictlyIncreasing (x ∷ xs) → IsStrictlyIncreasing xs
increasing_tail x xs rise k h =
    let next : suc k + 1 ≡ suc (k + 1) = omega arith in
    subst (λ (n : ℕ). get_or xs k 0 < get_or (x ∷ xs) n 0) next (rise (suc k) (omega arith))

increasing-cons : (x : ℕ) (xs : List ℕ) → (0 < length xs → x < get_or xs 0 0) → IsStrictlyIncreasing xs → IsStrictlyIncreasing (x ∷ xs)
increasing-cons x xs first rise zero h = first (omega arith)
increasing-cons x xs first rise (suc k) h =
    let next : suc (k + 1) ≡ suc k + 1 = omega arith in
    subst (λ (n : ℕ). get_or xs k 0 < get_or (x ∷ xs) n 0) next (rise k (omega arith))

-- a greater number at the end
pub IsStrictlyIncreasing-push : (xs : List ℕ) (y : ℕ) → IsStrictlyIncreasing xs → All (λ x. x < y) xs → IsStrictlyIncreasing (xs ++ y ∷ [])
IsStrictlyIncreasing-push [] y rise below = λ k h. absurd (omega arith)
IsStrictlyIncreasing-push (x ∷ []) y rise below = increasing-cons x (y ∷ []) (λ _. All-head (λ x. x < y) x [] below) (λ k h. absurd (omega arith))
IsStrictlyIncreasing-push (x ∷ z ∷ xs) y rise below =
    let tail = IsStrictlyIncreasing-push (z ∷ xs) y (increasing_tail x (z ∷ xs) rise) (All-tail (λ x. x < y) x (z ∷ xs) below) in
    increasing-cons x (z ∷ xs ++ y ∷ []) (λ _. rise 0 (omega arith)) tail

module _ {E : Type 0} where
  map_push : (own : List (Placed E)) (it : Placed E)
      → map (λ (x : Placed E). x.place) (own ++ it ∷ []) ≡ map (λ (x : Placed E). x.place) own ++ it.place ∷ []
  map_push [] it = refl
  map_push (x ∷ own) it = ap (λ (l : List ℕ). x.place ∷ l) (map_push own it)

  -- the entry that is new at the list's end joins the own entries
  pub IsKeptIn-push : (list : List E) (own : List (Placed E)) (e : E) → IsKeptIn list own
      → IsKeptIn (list ++ e ∷ []) (own ++ placed (length list + 1) e ∷ [])
  IsKeptIn-push list own e kept =
      let it = placed (length list + 1) e in
      let below = All-map (λ k. k < length list + 1) (λ (x : Placed E). x.place) own (within list own kept.standing) in
      let here : StandsIn (list ++ e ∷ []) it = (omega arith, subst (λ (k : ℕ). slice_get (list ++ e ∷ []) k ≡ Some e) (omega arith) (slice_get_last list e)) in
      record {
        standing = All-push (StandsIn (list ++ e ∷ [])) own it (IsKeptIn-append list (e ∷ []) own kept).standing here;
        ascending = subst IsStrictlyIncreasing (sym (map_push own it))
            (IsStrictlyIncreasing-push (map (λ (x : Placed E). x.place) own) (length list + 1) kept.ascending below);
      }

  -- the place past the end is nobody's yet
  pub times-past : (list : List E) (own : List (Placed E)) → IsKeptIn list own → times (length list + 1) own ≡ 0
  times-past list own kept =
      sum_by-none (λ (it : Placed E). cond (eqb it.place (length list + 1)) 1 0) own
      (All-weaker (λ (it : Placed E). it.place < length list + 1) (λ (it : Placed E). ◌≡◌ {A = ℕ} (cond (eqb it.place (length list + 1)) 1 0) 0)
      (λ it below. ap (λ b. cond {A = ℕ} b 1 0) (ne_eqb it.place (length list + 1) (λ e. omega arith))) own (within list own kept.standing))

  pub times-push : (place : ℕ) (own : List (Placed E)) (it : Placed E)
      → times place (own ++ it ∷ []) ≡ times place own + cond (eqb it.place place) 1 0
  times-push place own it = sum_by_push (λ (x : Placed E). cond (eqb x.place place) 1 0) own it

  -- of two fronts of one list the longer begins with both, and is a front of that list
  pub longer_begins : (list xs ys : List E) → BeginsWith list xs → BeginsWith list ys
      → BeginsWith list (longer xs ys) × BeginsWith (longer xs ys) xs × BeginsWith (longer xs ys) ys
  longer_begins list xs ys a b = go (nat_lt (length xs) (length ys)) refl
    where
      go : (t : _) → nat_lt (length xs) (length ys) ≡ t
          → BeginsWith list (if t then ys else xs) × BeginsWith (if t then ys else xs) xs × BeginsWith (if t then ys else xs) ys
      go true e = (b, shorter xs ys a.0 b.0 (sym a.1 ∙ b.1) (let lt = ltb-true (length xs) (length ys) e in omega arith), begins_itself ys)
      go false e = (a, begins_itself xs, shorter ys xs b.0 a.0 (sym b.1 ∙ a.1) (ltb-false (length xs) (length ys) e))
