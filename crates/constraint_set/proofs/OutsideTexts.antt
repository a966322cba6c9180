-- Over a wider alphabet there are as many texts that are not over the narrower one as there are texts over that.
use Rattle.std.proofs.Common.{◌≡◌, ℕ, suc, ◌+◌, ◌-◌, ◌<◌, ◌≤◌, true, cond, ◌==◌, nat_lt, List, [], ◌∷◌, length, refl, ap, arith, inl, inr}
use Rattle.std.specs.List.{list_all}
use Rattle.std.proofs.lemmas.Bool.{and_from, and_parts, eqb-true, lt-ltb, le-ltb}
use Rattle.spec_model.specs.declared.event.Framing.{Framing}
use Rattle.spec_model.specs.declared.tree.Alphabet.{Alphabet}
use Rattle.spec_model.specs.declared.tree.Alphabet.TheVariants.{Hex, Alnum, Any}
use Rattle.spec_model.specs.Step.{is_character, may_be_picked}
use Rattle.constraint_set.specs.Characters.{text_numbered, texts_count}
use Rattle.constraint_set.proofs.Alphabets.{Between, IsWithin, alnum_any, alnum_ranges, hex_alnum, hex_ranges, is_alnum, is_any}
use Rattle.constraint_set.proofs.FreeTexts.{AreDistinctBelow, distinct_texts}
use Rattle.constraint_set.proofs.NumberedTexts.{numbered_picked}

-- A character of one alphabet, moved out of it into a wider one.
pub record IsMoved (framing : Framing) (narrow wide : Alphabet) (move : ℕ → ℕ) : Type 0 where
  pub within : IsWithin framing narrow wide
  pub inside : (byte : ℕ) → is_character framing narrow byte ≡ true → is_character framing wide (move byte) ≡ true
  pub outside : (byte : ℕ) → is_character framing narrow byte ≡ true → is_character framing narrow (move byte) ≡ true → ⊥
  pub distinct : (byte other : ℕ) → is_character framing narrow byte ≡ true → is_character framing narrow other ≡ true → move byte ≡ move other → byte ≡ other

-- digits to the capitals behind P, small letters to those before
abbrev pub to_capitals : ℕ → ℕ
to_capitals byte = cond (nat_lt byte 58) (byte + 33) (byte - 32)

low_capital : (byte : ℕ) → byte < 58 → to_capitals byte ≡ byte + 33
low_capital byte low = ap (λ test. cond test (byte + 33) (byte - 32)) (lt-ltb byte 58 low)

high_capital : (byte : ℕ) → 58 ≤ byte → to_capitals byte ≡ byte - 32
high_capital byte high = ap (λ test. cond test (byte + 33) (byte - 32)) (le-ltb byte 58 high)

abbrev pub by_128 : ℕ → ℕ
by_128 byte = byte + 128

-- where a digit or letter goes
capital : (framing : Framing) (byte : ℕ) → is_character framing Hex byte ≡ true → Between 65 90 (to_capitals byte)
capital framing byte is = elim (hex_ranges framing byte is) [
  | inl digit ↦ (let moved = low_capital byte (omega (arith, digit)) in omega (arith, moved, digit), let moved = low_capital byte (omega (arith, digit)) in omega (arith, moved, digit))
  | inr letter ↦ (let moved = high_capital byte (omega (arith, letter)) in omega (arith, moved, letter), let moved = high_capital byte (omega (arith, letter)) in omega (arith, moved, letter))
]

pub hex_in_alnum : (framing : Framing) → IsMoved framing Hex Alnum to_capitals
hex_in_alnum framing = record {
  within = hex_alnum framing;
  inside = λ byte is. is_alnum framing (to_capitals byte) (inr (inl (capital framing byte is)));
  outside = λ byte is still.
      let here = capital framing byte is in
      elim (hex_ranges framing (to_capitals byte) still) [ inl digit ↦ omega (arith, here, digit) | inr letter ↦ omega (arith, here, letter) ];
  distinct = λ byte other is other_is same. elim (hex_ranges framing byte is) [
    | inl digit ↦ elim (hex_ranges framing other other_is) [
      | inl other_digit ↦ (let a = low_capital byte (omega (arith, digit)) in let b = low_capital other (omega (arith, other_digit)) in omega (arith, a, b, same))
      | inr other_letter ↦ (let a = low_capital byte (omega (arith, digit)) in let b = high_capital other (omega (arith, other_letter)) in omega (arith, a, b, same, digit, other_letter))
    ]
    | inr letter ↦ elim (hex_ranges framing other other_is) [
      | inl other_digit ↦ (let a = high_capital byte (omega (arith, letter)) in let b = low_capital other (omega (arith, other_digit)) in omega (arith, a, b, same, letter, other_digit))
      | inr other_letter ↦ (let a = high_capital byte (omega (arith, letter)) in let b = high_capital other (omega (arith, other_letter)) in omega (arith, a, b, same, letter, other_letter))
    ]
  ];
}

alnum_low : (framing : Framing) (byte : ℕ) → is_character framing Alnum byte ≡ true → byte < 128
alnum_low framing byte is = elim (alnum_ranges framing byte is) [
  | inl digit ↦ omega (arith, digit)
  | inr (inl upper) ↦ omega (arith, upper)
  | inr (inr lower) ↦ omega (arith, lower)
]

pub alnum_in_any : (framing : Framing) → IsMoved framing Alnum Any by_128
alnum_in_any framing = record {
  within = alnum_any framing;
  inside = λ byte is. let low = alnum_low framing byte is in is_any framing (byte + 128) (omega arith) (λ line. omega arith);
  outside = λ byte is still. let low = alnum_low framing (byte + 128) still in omega arith;
  distinct = λ byte other is other_is same. omega arith;
}

pub hex_in_any : (framing : Framing) → IsMoved framing Hex Any by_128
hex_in_any framing = record {
  within = λ byte is. alnum_any framing byte (hex_alnum framing byte is);
  inside = λ byte is. let low = alnum_low framing byte (hex_alnum framing byte is) in is_any framing (byte + 128) (omega arith) (λ line. omega arith);
  outside = λ byte is still. let low = alnum_low framing (byte + 128) (hex_alnum framing (byte + 128) still) in omega arith;
  distinct = λ byte other is other_is same. omega arith;
}

-- a text with its first character moved
abbrev pub with_moved : (ℕ → ℕ) → List ℕ → List ℕ
with_moved move [] = []
with_moved move (byte ∷ text) = move byte ∷ text

all_wider : (framing : Framing) (a b : Alphabet) → IsWithin framing a b → (text : List ℕ) → list_all (is_character framing a) text ≡ true → list_all (is_character framing b) text ≡ true
all_wider framing a b within [] all = refl
all_wider framing a b within (byte ∷ text) all =
    let parts = and_parts (is_character framing a byte) (list_all (is_character framing a) text) all in
    and_from (is_character framing b byte) (list_all (is_character framing b) text) (within byte parts.0) (all_wider framing a b within text parts.1)

pub moved_picked : (framing : Framing) (narrow wide : Alphabet) (move : ℕ → ℕ) → IsMoved framing narrow wide move → (len : ℕ) (text : List ℕ) → may_be_picked framing len narrow text ≡ true
    → may_be_picked framing len wide (with_moved move text) ≡ true
moved_picked framing narrow wide move moved len [] may = may
moved_picked framing narrow wide move moved len (byte ∷ text) may =
    let parts = and_parts (suc (length text) == len) (list_all (is_character framing narrow) (byte ∷ text)) may in
    let both = and_parts (is_character framing narrow byte) (list_all (is_character framing narrow) text) parts.1 in
    and_from (suc (length text) == len) (list_all (is_character framing wide) (move byte ∷ text)) parts.0
    (and_from (is_character framing wide (move byte)) (list_all (is_character framing wide) text) (moved.inside byte both.0) (all_wider framing narrow wide moved.within text both.1))

pub moved_outside : (framing : Framing) (narrow wide : Alphabet) (move : ℕ → ℕ) → IsMoved framing narrow wide move → (len : ℕ) (text : List ℕ) → 0 < len → may_be_picked framing len narrow text ≡ true
    → may_be_picked framing len narrow (with_moved move text) ≡ true → ⊥
moved_outside framing narrow wide move moved len [] some may still = (let none = eqb-true 0 len ((and_parts (0 == len) true may).0) in omega arith)
moved_outside framing narrow wide move moved len (byte ∷ text) some may still =
    let parts = and_parts (suc (length text) == len) (list_all (is_character framing narrow) (byte ∷ text)) may in
    let both = and_parts (is_character framing narrow byte) (list_all (is_character framing narrow) text) parts.1 in
    let still_parts = and_parts (suc (length text) == len) (list_all (is_character framing narrow) (move byte ∷ text)) still in
    let still_both = and_parts (is_character framing narrow (move byte)) (list_all (is_character framing narrow) text) still_parts.1 in
    moved.outside byte both.0 still_both.0

moved_same : (framing : Framing) (narrow wide : Alphabet) (move : ℕ → ℕ) → IsMoved framing narrow wide move → (len : ℕ) (text other : List ℕ) → may_be_picked framing len narrow text ≡ true
    → may_be_picked framing len narrow other ≡ true → with_moved move text ≡ with_moved move other → text ≡ other
moved_same framing narrow wide move moved len [] [] may other_may same = refl
moved_same framing narrow wide move moved len [] (byte ∷ other) may other_may same = absurd (cc)
moved_same framing narrow wide move moved len (byte ∷ text) [] may other_may same = absurd (cc)
moved_same framing narrow wide move moved len (byte ∷ text) (other_byte ∷ other) may other_may same =
    let parts = and_parts (suc (length text) == len) (list_all (is_character framing narrow) (byte ∷ text)) may in
    let both = and_parts (is_character framing narrow byte) (list_all (is_character framing narrow) text) parts.1 in
    let other_parts = and_parts (suc (length other) == len) (list_all (is_character framing narrow) (other_byte ∷ other)) other_may in
    let other_both = and_parts (is_character framing narrow other_byte) (list_all (is_character framing narrow) other) other_parts.1 in
    let heads : move byte ≡ move other_byte = cc in
    let bytes : byte ≡ other_byte = moved.distinct byte other_byte both.0 other_both.0 heads in
    let tails : text ≡ other = cc in
    cc

-- the moved texts by their numbers
abbrev pub outside_numbered : Framing → Alphabet → (ℕ → ℕ) → ℕ → ℕ → List ℕ
outside_numbered framing narrow move len number = with_moved move (text_numbered framing narrow len number)

pub outside_distinct : (framing : Framing) (narrow wide : Alphabet) (move : ℕ → ℕ) → IsMoved framing narrow wide move → (len : ℕ)
    → AreDistinctBelow (outside_numbered framing narrow move len) (texts_count framing narrow len)
outside_distinct framing narrow wide move moved len k j less within same =
    distinct_texts framing narrow len k j less within
    (moved_same framing narrow wide move moved len (text_numbered framing narrow len k) (text_numbered framing narrow len j) (numbered_picked framing narrow len k) (numbered_picked framing narrow len j) same)
