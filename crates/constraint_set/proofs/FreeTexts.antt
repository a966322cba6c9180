-- Of more texts than are taken one is free.
use Rattle.std.proofs.Common.{◌≡◌, ◌⊎◌, ℕ, zero, suc, ◌+◌, ◌-◌, ◌<◌, ◌≤◌, Bool, true, false, ◌||◌, cond, List, [], ◌∷◌, ◌++◌, length, bytes_eq, refl, sym, ◌∙◌, ap, subst, arith, inl, inr}
use Rattle.std.proofs.lemmas.Bool.{cases_order, cases_eq, both_ways}
use Rattle.std.proofs.lemmas.Slice.Eq.{bytes_eq-Decides}
use Rattle.spec_model.specs.declared.event.Framing.{Framing}
use Rattle.spec_model.specs.declared.tree.Alphabet.{Alphabet}
use Rattle.spec_model.specs.Step.{may_be_picked}
use Rattle.constraint_set.specs.Characters.{text_numbered, texts_count}
use Rattle.constraint_set.specs.Free.{first_free, free_from, is_taken}
use Rattle.constraint_set.specs.Known.{IsIn}
use Rattle.spec_model.specs.Order.{IsTextBefore}
use Rattle.constraint_set.proofs.NumberedTexts.{numbered_picked, numbered_rises, number_of_text}

pub taken_is_in : (taken : List (List ℕ)) (text : List ℕ) → is_taken taken text ≡ true → IsIn text taken
taken_is_in [] text is = absurd (cc)
taken_is_in (other ∷ taken) text is = go (bytes_eq text other) refl is (λ later. taken_is_in taken text later)
  where
    go : (same : Bool) → bytes_eq text other ≡ same → (same || is_taken taken text) ≡ true → (is_taken taken text ≡ true → IsIn text taken) → (text ≡ other) ⊎ IsIn text taken
    go true equal is later = inl ((bytes_eq-Decides text other).0 equal)
    go false equal is later = inr (later is)

pub is_in_taken : (taken : List (List ℕ)) (text : List ℕ) → IsIn text taken → is_taken taken text ≡ true
is_in_taken [] text is_in = absurd is_in
is_in_taken (other ∷ taken) text (inl same) = ap (λ b. b || is_taken taken text) ((bytes_eq-Decides text other).1 same)
is_in_taken (other ∷ taken) text (inr later) = go (bytes_eq text other) (is_in_taken taken text later)
  where
    go : (same : Bool) → is_taken taken text ≡ true → (same || is_taken taken text) ≡ true
    go true is = refl
    go false is = is

-- the texts without one of them
abbrev without : List ℕ → List (List ℕ) → List (List ℕ)
without text [] = []
without text (other ∷ taken) = cond (bytes_eq text other) (without text taken) (other ∷ without text taken)

without_longer : (text : List ℕ) (taken : List (List ℕ)) → length (without text taken) ≤ length taken
without_longer text [] = omega arith
without_longer text (other ∷ taken) = go (bytes_eq text other) (without_longer text taken)
  where
    go : (same : Bool) → length (without text taken) ≤ length taken → length (cond same (without text taken) (other ∷ without text taken)) ≤ suc (length taken)
    go true short = omega arith
    go false short = omega arith

without_shorter : (text : List ℕ) (taken : List (List ℕ)) → IsIn text taken → length (without text taken) < length taken
without_shorter text [] is_in = absurd is_in
without_shorter text (other ∷ taken) is_in = go (bytes_eq text other) refl is_in (without_longer text taken) (λ later. without_shorter text taken later)
  where
    go : (same : Bool) → bytes_eq text other ≡ same → (text ≡ other) ⊎ IsIn text taken → length (without text taken) ≤ length taken
        → (IsIn text taken → length (without text taken) < length taken) → length (cond same (without text taken) (other ∷ without text taken)) < suc (length taken)
    go true is is_in short later = omega arith
    go false is (inl same) short later = absurd (both_ways (bytes_eq text other) is ((bytes_eq-Decides text other).1 same))
    go false is (inr is_in) short later = let shorter = later is_in in omega arith

still_in : (text other : List ℕ) (taken : List (List ℕ)) → (text ≡ other → ⊥) → IsIn other taken → IsIn other (without text taken)
still_in text other [] differ is_in = absurd is_in
still_in text other (first ∷ taken) differ is_in = go (bytes_eq text first) refl is_in (λ later. still_in text other taken differ later)
  where
    go : (same : Bool) → bytes_eq text first ≡ same → (other ≡ first) ⊎ IsIn other taken → (IsIn other taken → IsIn other (without text taken)) → IsIn other (cond same (without text taken) (first ∷ without text taken))
    go true is (inl equal) later = absurd (differ ((bytes_eq-Decides text first).0 is ∙ sym equal))
    go true is (inr is_in) later = later is_in
    go false is (inl equal) later = inl equal
    go false is (inr is_in) later = inr (later is_in)

-- different numbers below a bound give different texts
abbrev pub AreDistinctBelow : (ℕ → List ℕ) → ℕ → Type 0
AreDistinctBelow text_at bound = (k j : ℕ) → k < j → j < bound → text_at k ≡ text_at j → ⊥

-- one of the texts at so many numbers is not taken
pub free_place : (text_at : ℕ → List ℕ) (bound : ℕ) → AreDistinctBelow text_at bound → (tries : ℕ) (taken : List (List ℕ)) (from : ℕ) → length taken ≤ tries → from + length taken < bound
    → (place : ℕ) × (from ≤ place) × (place ≤ from + length taken) × (IsIn (text_at place) taken → ⊥)
free_place text_at bound distinct zero [] from short within = (from, omega arith, omega arith, λ is_in. is_in)
free_place text_at bound distinct zero (text ∷ taken) from short within = absurd (omega arith)
free_place text_at bound distinct (suc tries) taken from short within =
    go (is_taken taken (text_at from)) refl (λ less. free_place text_at bound distinct tries (without (text_at from) taken) (from + 1) (omega arith) (omega arith))
  where
    go : (is : Bool) → is_taken taken (text_at from) ≡ is
        → (length (without (text_at from) taken) < length taken
        → (place : ℕ) × (from + 1 ≤ place) × (place ≤ from + 1 + length (without (text_at from) taken)) × (IsIn (text_at place) (without (text_at from) taken) → ⊥))
        → (place : ℕ) × (from ≤ place) × (place ≤ from + length taken) × (IsIn (text_at place) taken → ⊥)
    go true is later =
        let shorter = without_shorter (text_at from) taken (taken_is_in taken (text_at from) is) in
        let found = later shorter in
        let behind = found.1 in
        let near = found.2 in (
          found.0,
          omega arith,
          omega arith,
          λ is_in. found.3 (still_in (text_at from) (text_at found.0) taken (distinct from found.0 (omega arith) (omega arith)) is_in),
        )
    go false is later = (from, omega arith, omega arith, λ is_in. both_ways (is_taken taken (text_at from)) is (is_in_taken taken (text_at from) is_in))

-- the text at the first number that is not taken
pub record IsFirstFree (text_at : ℕ → List ℕ) (taken : List (List ℕ)) (from : ℕ) (text : List ℕ) : Type 0 where
  pub place : ℕ
  pub is : text ≡ text_at place
  pub free : IsIn (text_at place) taken → ⊥
  pub before : (k : ℕ) → from ≤ k → k < place → IsIn (text_at k) taken

first_free_from : (text_at : ℕ → List ℕ) (taken : List (List ℕ)) (tries from place : ℕ) → from ≤ place → place ≤ from + tries → (IsIn (text_at place) taken → ⊥)
    → IsFirstFree text_at taken from (free_from text_at taken tries from)
first_free_from text_at taken zero from place after near free =
    let same : place ≡ from = omega arith in
    record { place = place; is = ap text_at (sym same); free = free; before = λ k above below. absurd (omega arith) }
first_free_from text_at taken (suc tries) from place after near free =
    go (is_taken taken (text_at from)) refl (λ behind. first_free_from text_at taken tries (from + 1) place (omega arith) (omega arith) free)
  where
    go : (is : Bool) → is_taken taken (text_at from) ≡ is → (from + 1 ≤ place → IsFirstFree text_at taken (from + 1) (free_from text_at taken tries (from + 1)))
        → IsFirstFree text_at taken from (cond is (free_from text_at taken tries (from + 1)) (text_at from))
    go true is later =
        let taken_here = taken_is_in taken (text_at from) is in
        let behind : from + 1 ≤ place = elim (cases_eq from place) [
          | inl same ↦ absurd (free (subst (λ k. IsIn (text_at k) taken) same taken_here))
          | inr other ↦ omega arith
        ] in
        let found = later behind in
        record {
          place = found.place;
          is = found.is;
          free = found.free;
          before = λ k above below. elim (cases_eq from k) [
            | inl same ↦ subst (λ j. IsIn (text_at j) taken) same taken_here
            | inr other ↦ found.before k (omega arith) below
          ];
        }
    go false is later = record {
      place = from;
      is = refl;
      free = λ is_in. both_ways (is_taken taken (text_at from)) is (is_in_taken taken (text_at from) is_in);
      before = λ k above below. absurd (omega arith);
    }

-- no text is before itself
no_cycle : (xs : List ℕ) → IsTextBefore xs xs → ⊥
no_cycle xs before = by_front xs before.front before.xs_rest before.ys_rest before.x before.y before.first before.second before.lesser
  where
    by_front : (xs front xs_rest ys_rest : List ℕ) (x y : ℕ) → xs ≡ front ++ x ∷ xs_rest → xs ≡ front ++ y ∷ ys_rest → x < y → ⊥
    by_front [] [] xs_rest ys_rest x y first second less = absurd (cc)
    by_front [] (z ∷ front) xs_rest ys_rest x y first second less = absurd (cc)
    by_front (w ∷ xs) [] xs_rest ys_rest x y first second less = let same : x ≡ y = cc in omega arith
    by_front (w ∷ xs) (z ∷ front) xs_rest ys_rest x y first second less = by_front xs front xs_rest ys_rest x y (cc) (cc) less

pub distinct_texts : (framing : Framing) (alphabet : Alphabet) (len : ℕ) → AreDistinctBelow (text_numbered framing alphabet len) (texts_count framing alphabet len)
distinct_texts framing alphabet len k j less within same =
    no_cycle (text_numbered framing alphabet len j) (subst (λ text. IsTextBefore text (text_numbered framing alphabet len j)) same (numbered_rises framing alphabet len k j less within))

-- the first free text, where there are more texts than are taken
pub first_free_text : (framing : Framing) (alphabet : Alphabet) (len : ℕ) (taken : List (List ℕ)) → length taken < texts_count framing alphabet len
    → IsFirstFree (text_numbered framing alphabet len) taken 0 (first_free framing alphabet len taken)
first_free_text framing alphabet len taken more =
    let found = free_place (text_numbered framing alphabet len) (texts_count framing alphabet len) (distinct_texts framing alphabet len) (length taken) taken 0 (omega arith) (omega arith) in
    let near = found.2 in
    first_free_from (text_numbered framing alphabet len) taken (length taken) 0 found.0 (omega arith) (omega arith) found.3

-- it is a text that may be picked
pub free_picked : (framing : Framing) (alphabet : Alphabet) (len : ℕ) (taken : List (List ℕ)) → length taken < texts_count framing alphabet len
    → may_be_picked framing len alphabet (first_free framing alphabet len taken) ≡ true
free_picked framing alphabet len taken more =
    let found = first_free_text framing alphabet len taken more in ap (may_be_picked framing len alphabet) found.is ∙ numbered_picked framing alphabet len found.place

-- it is not taken
pub free_free : (framing : Framing) (alphabet : Alphabet) (len : ℕ) (taken : List (List ℕ)) → length taken < texts_count framing alphabet len
    → IsIn (first_free framing alphabet len taken) taken → ⊥
free_free framing alphabet len taken more is_in =
    let found = first_free_text framing alphabet len taken more in found.free (subst (λ text. IsIn text taken) found.is is_in)

-- and no other free text is before it
pub free_least : (framing : Framing) (alphabet : Alphabet) (len : ℕ) (taken : List (List ℕ)) (text : List ℕ) → length taken < texts_count framing alphabet len
    → may_be_picked framing len alphabet text ≡ true → (IsIn text taken → ⊥)
    → (first_free framing alphabet len taken ≡ text) ⊎ IsTextBefore (first_free framing alphabet len taken) text
free_least framing alphabet len taken text more may free =
    let found = first_free_text framing alphabet len taken more in
    let number = number_of_text framing alphabet len text may in
    elim (cases_order found.place number.0) [
      | inl same ↦ inl (found.is ∙ ap (text_numbered framing alphabet len) same ∙ number.2)
      | inr (inl rises) ↦ inr (rw (found.is, ← number.2) (numbered_rises framing alphabet len found.place number.0 rises number.1))
      | inr (inr falls) ↦ absurd (free (subst (λ other. IsIn other taken) number.2 (found.before number.0 (omega arith) falls)))
    ]

-- a number whose text is taken leads to the next
pub free_from_next : (text_at : ℕ → List ℕ) (taken : List (List ℕ)) (count number : ℕ) → number < count → is_taken taken (text_at number) ≡ true
    → free_from text_at taken (count - number) number ≡ free_from text_at taken (count - (number + 1)) (number + 1)
free_from_next text_at taken count number below is =
    let left : count - number ≡ suc (count - (number + 1)) = omega arith in
    ap (λ tries. free_from text_at taken tries number) left ∙ ap (λ test. cond test (free_from text_at taken (count - (number + 1)) (number + 1)) (text_at number)) is

pub free_from_here : (text_at : ℕ → List ℕ) (taken : List (List ℕ)) (count number : ℕ) → number < count → is_taken taken (text_at number) ≡ false
    → free_from text_at taken (count - number) number ≡ text_at number
free_from_here text_at taken count number below is =
    let left : count - number ≡ suc (count - (number + 1)) = omega arith in
    ap (λ tries. free_from text_at taken tries number) left ∙ ap (λ test. cond test (free_from text_at taken (count - (number + 1)) (number + 1)) (text_at number)) is

pub free_from_end : (text_at : ℕ → List ℕ) (taken : List (List ℕ)) (count number : ℕ) → count ≤ number → free_from text_at taken (count - number) number ≡ text_at number
free_from_end text_at taken count number past = let none : count - number ≡ 0 = omega arith in ap (λ tries. free_from text_at taken tries number) none
