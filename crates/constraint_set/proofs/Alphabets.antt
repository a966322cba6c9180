-- Alphabets are nested.
use Rattle.std.proofs.Common.{◌≡◌, ◌⊎◌, ℕ, ◌<◌, ◌≤◌, true, ◌&&◌, ◌||◌, ◌==◌, nat_le, List, [], ◌∷◌, length, refl, arith, inl, inr}
use Rattle.std.specs.List.{list_all}
use Rattle.std.proofs.lemmas.Bool.{leb-true, le-leb, and_parts, and_from, or_cases, or_left, or_right, lt-ltb, ne_eqb, not_from_false}
use Rattle.spec_model.specs.declared.event.Framing.{Framing}
use Rattle.spec_model.specs.declared.event.Framing.TheVariants.{Line, Len16}
use Rattle.spec_model.specs.declared.tree.Alphabet.{Alphabet}
use Rattle.spec_model.specs.declared.tree.Alphabet.TheVariants.{Hex, Alnum, Any}
use Rattle.spec_model.specs.Step.{is_character, may_be_picked}
use Rattle.constraint_set.specs.Characters.{narrower}

-- the bytes between two
abbrev pub Between : ℕ → ℕ → ℕ → Type 0
Between low high byte = (low ≤ byte) × (byte ≤ high)

pub between : (low high byte : ℕ) → (nat_le low byte && nat_le byte high) ≡ true → Between low high byte
between low high byte tests = let parts = and_parts (nat_le low byte) (nat_le byte high) tests in (leb-true low byte parts.0, leb-true byte high parts.1)

pub is_between : (low high byte : ℕ) → Between low high byte → (nat_le low byte && nat_le byte high) ≡ true
is_between low high byte h = and_from (nat_le low byte) (nat_le byte high) (le-leb low byte h.0) (le-leb byte high h.1)

pub hex_ranges : (framing : Framing) (byte : ℕ) → is_character framing Hex byte ≡ true → Between 48 57 byte ⊎ Between 97 102 byte
hex_ranges framing byte is = elim (or_cases (nat_le 48 byte && nat_le byte 57) (nat_le 97 byte && nat_le byte 102) is) [
  | inl digit ↦ inl (between 48 57 byte digit)
  | inr letter ↦ inr (between 97 102 byte letter)
]

pub alnum_ranges : (framing : Framing) (byte : ℕ) → is_character framing Alnum byte ≡ true → Between 48 57 byte ⊎ (Between 65 90 byte ⊎ Between 97 122 byte)
alnum_ranges framing byte is = elim (or_cases ((nat_le 48 byte && nat_le byte 57) || (nat_le 65 byte && nat_le byte 90)) (nat_le 97 byte && nat_le byte 122) is) [
  | inl early ↦ elim (or_cases (nat_le 48 byte && nat_le byte 57) (nat_le 65 byte && nat_le byte 90) early) [
    | inl digit ↦ inl (between 48 57 byte digit)
    | inr upper ↦ inr (inl (between 65 90 byte upper))
  ]
  | inr lower ↦ inr (inr (between 97 122 byte lower))
]

pub is_hex : (framing : Framing) (byte : ℕ) → Between 48 57 byte ⊎ Between 97 102 byte → is_character framing Hex byte ≡ true
is_hex framing byte (inl digit) = or_left (nat_le 48 byte && nat_le byte 57) (nat_le 97 byte && nat_le byte 102) (is_between 48 57 byte digit)
is_hex framing byte (inr letter) = or_right (nat_le 48 byte && nat_le byte 57) (nat_le 97 byte && nat_le byte 102) (is_between 97 102 byte letter)

pub is_alnum : (framing : Framing) (byte : ℕ) → Between 48 57 byte ⊎ (Between 65 90 byte ⊎ Between 97 122 byte) → is_character framing Alnum byte ≡ true
is_alnum framing byte ranges = or_ranges ranges
  where
    or_ranges : Between 48 57 byte ⊎ (Between 65 90 byte ⊎ Between 97 122 byte) → ((nat_le 48 byte && nat_le byte 57) || (nat_le 65 byte && nat_le byte 90) || (nat_le 97 byte && nat_le byte 122)) ≡ true
    or_ranges (inl digit) = or_left _ _ (or_left _ _ (is_between 48 57 byte digit))
    or_ranges (inr (inl upper)) = or_left _ _ (or_right _ _ (is_between 65 90 byte upper))
    or_ranges (inr (inr lower)) = or_right _ _ (is_between 97 122 byte lower)

pub is_any : (framing : Framing) (byte : ℕ) → byte < 256 → (byte ≡ 10 → ⊥) → is_character framing Any byte ≡ true
is_any Line byte small other = and_from _ _ (lt-ltb byte 256 small) (not_from_false _ (ne_eqb byte 10 other))
is_any Len16 byte small other = lt-ltb byte 256 small

-- one alphabet has all characters of the other
abbrev pub IsWithin : Framing → Alphabet → Alphabet → Type 0
IsWithin framing a b = (byte : ℕ) → is_character framing a byte ≡ true → is_character framing b byte ≡ true

pub hex_alnum : (framing : Framing) → IsWithin framing Hex Alnum
hex_alnum framing byte is = elim (hex_ranges framing byte is) [
  | inl digit ↦ is_alnum framing byte (inl digit)
  | inr letter ↦ is_alnum framing byte (inr (inr (letter.0, omega (arith, letter))))
]

pub alnum_any : (framing : Framing) → IsWithin framing Alnum Any
alnum_any framing byte is = elim (alnum_ranges framing byte is) [
  | inl digit ↦ is_any framing byte (omega (arith, digit)) (λ line. omega (arith, digit))
  | inr (inl upper) ↦ is_any framing byte (omega (arith, upper)) (λ line. omega (arith, upper))
  | inr (inr lower) ↦ is_any framing byte (omega (arith, lower)) (λ line. omega (arith, lower))
]

hex_any : (framing : Framing) → IsWithin framing Hex Any
hex_any framing byte is = alnum_any framing byte (hex_alnum framing byte is)

-- the narrower of two is within both
pub narrower_first : (framing : Framing) (a b : Alphabet) → IsWithin framing (narrower a b) a
narrower_first framing Hex b byte is = is
narrower_first framing Alnum Hex byte is = hex_alnum framing byte is
narrower_first framing Alnum Alnum byte is = is
narrower_first framing Alnum Any byte is = is
narrower_first framing Any Hex byte is = hex_any framing byte is
narrower_first framing Any Alnum byte is = alnum_any framing byte is
narrower_first framing Any Any byte is = is

pub narrower_second : (framing : Framing) (a b : Alphabet) → IsWithin framing (narrower a b) b
narrower_second framing Hex Hex byte is = is
narrower_second framing Hex Alnum byte is = hex_alnum framing byte is
narrower_second framing Hex Any byte is = hex_any framing byte is
narrower_second framing Alnum Hex byte is = is
narrower_second framing Alnum Alnum byte is = is
narrower_second framing Alnum Any byte is = alnum_any framing byte is
narrower_second framing Any b byte is = is

-- and is one of them
pub narrower_one : (P : Alphabet → Type 0) (a b : Alphabet) → P a → P b → P (narrower a b)
narrower_one P Hex b in_a in_b = in_a
narrower_one P Alnum Hex in_a in_b = in_b
narrower_one P Alnum Alnum in_a in_b = in_a
narrower_one P Alnum Any in_a in_b = in_a
narrower_one P Any b in_a in_b = in_b

all_within : (framing : Framing) (a b : Alphabet) → IsWithin framing a b → (text : List ℕ) → list_all (is_character framing a) text ≡ true → list_all (is_character framing b) text ≡ true
all_within framing a b within [] all = refl
all_within framing a b within (byte ∷ text) all =
    let parts = and_parts (is_character framing a byte) (list_all (is_character framing a) text) all in
    and_from (is_character framing b byte) (list_all (is_character framing b) text) (within byte parts.0) (all_within framing a b within text parts.1)

-- a text of an alphabet is one of each alphabet round it
pub picked_within : (framing : Framing) (len : ℕ) (a b : Alphabet) → IsWithin framing a b → (text : List ℕ) → may_be_picked framing len a text ≡ true → may_be_picked framing len b text ≡ true
picked_within framing len a b within text may =
    let parts = and_parts (length text == len) (list_all (is_character framing a) text) may in
    and_from (length text == len) (list_all (is_character framing b) text) parts.0 (all_within framing a b within text parts.1)
