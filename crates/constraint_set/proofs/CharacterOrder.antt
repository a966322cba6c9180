-- The characters of an alphabet, by their numbers.
use Rattle.std.proofs.Common.{◌≡◌, ℕ, ◌+◌, ◌-◌, ◌<◌, ◌≤◌, true, refl, ◌∙◌, arith, inl, inr}
use Rattle.std.proofs.lemmas.Bool.{cases_lt, lt-ltb, le-ltb, and_parts, ltb-true, eqb-false, not-true, cases_eq}
use Rattle.spec_model.specs.declared.event.Framing.{Framing}
use Rattle.spec_model.specs.declared.event.Framing.TheVariants.{Line, Len16}
use Rattle.spec_model.specs.declared.tree.Alphabet.{Alphabet}
use Rattle.spec_model.specs.declared.tree.Alphabet.TheVariants.{Hex, Alnum, Any}
use Rattle.spec_model.specs.Step.{is_character}
use Rattle.constraint_set.specs.Characters.{character, size_of}
use Rattle.constraint_set.proofs.Alphabets.{is_hex, is_alnum, is_any, hex_ranges, alnum_ranges}

-- what the character of a number is
hex_low : (framing : Framing) (number : ℕ) → number < 10 → character framing Hex number ≡ number + 48
hex_low framing number low = rw (lt-ltb number 10 low) refl

hex_high : (framing : Framing) (number : ℕ) → 10 ≤ number → character framing Hex number ≡ number + 87
hex_high framing number high = rw (le-ltb number 10 high) refl

alnum_low : (framing : Framing) (number : ℕ) → number < 10 → character framing Alnum number ≡ number + 48
alnum_low framing number low = rw (lt-ltb number 10 low) refl

alnum_middle : (framing : Framing) (number : ℕ) → 10 ≤ number → number < 36 → character framing Alnum number ≡ number + 55
alnum_middle framing number high low = rw (le-ltb number 10 high, lt-ltb number 36 low) refl

alnum_high : (framing : Framing) (number : ℕ) → 36 ≤ number → character framing Alnum number ≡ number + 61
alnum_high framing number high = rw (le-ltb number 10 (omega arith), le-ltb number 36 high) refl

line_low : (number : ℕ) → number < 10 → character Line Any number ≡ number
line_low number low = rw (lt-ltb number 10 low) refl

line_high : (number : ℕ) → 10 ≤ number → character Line Any number ≡ number + 1
line_high number high = rw (le-ltb number 10 high) refl

-- a number of an alphabet has one of its characters
pub character_is : (framing : Framing) (alphabet : Alphabet) (number : ℕ) → number < size_of framing alphabet → is_character framing alphabet (character framing alphabet number) ≡ true
character_is framing Hex number small = elim (cases_lt number 10) [
  | inl low ↦ rw (hex_low framing number low) (is_hex framing (number + 48) (inl (omega arith, omega arith)))
  | inr high ↦ rw (hex_high framing number high) (is_hex framing (number + 87) (inr (omega arith, omega arith)))
]
character_is framing Alnum number small = elim (cases_lt number 10) [
  | inl low ↦ rw (alnum_low framing number low) (is_alnum framing (number + 48) (inl (omega arith, omega arith)))
  | inr high ↦ elim (cases_lt number 36) [
    | inl low ↦ rw (alnum_middle framing number high low) (is_alnum framing (number + 55) (inr (inl (omega arith, omega arith))))
    | inr past ↦ rw (alnum_high framing number past) (is_alnum framing (number + 61) (inr (inr (omega arith, omega arith))))
  ]
]
character_is Line Any number small = elim (cases_lt number 10) [
  | inl low ↦ rw (line_low number low) (is_any Line number (omega arith) (λ line. omega arith))
  | inr high ↦ rw (line_high number high) (is_any Line (number + 1) (omega arith) (λ line. omega arith))
]
character_is Len16 Any number small = lt-ltb number 256 small

-- greater numbers have greater characters
pub character_rises : (framing : Framing) (alphabet : Alphabet) (k j : ℕ) → k < j → character framing alphabet k < character framing alphabet j
character_rises framing Hex k j less = elim (cases_lt k 10) [
  | inl k_low ↦ elim (cases_lt j 10) [
    | inl j_low ↦ rw (hex_low framing k k_low, hex_low framing j j_low) (omega arith)
    | inr j_high ↦ rw (hex_low framing k k_low, hex_high framing j j_high) (omega arith)
  ]
  | inr k_high ↦ rw (hex_high framing k k_high, hex_high framing j (omega arith)) (omega arith)
]
character_rises framing Alnum k j less = elim (cases_lt j 10) [
  | inl j_low ↦ rw (alnum_low framing k (omega arith), alnum_low framing j j_low) (omega arith)
  | inr j_not_low ↦ elim (cases_lt j 36) [
    | inl j_middle ↦ elim (cases_lt k 10) [
      | inl k_low ↦ rw (alnum_low framing k k_low, alnum_middle framing j j_not_low j_middle) (omega arith)
      | inr k_middle ↦ rw (alnum_middle framing k k_middle (omega arith), alnum_middle framing j j_not_low j_middle) (omega arith)
    ]
    | inr j_high ↦ elim (cases_lt k 10) [
      | inl k_low ↦ rw (alnum_low framing k k_low, alnum_high framing j j_high) (omega arith)
      | inr k_not_low ↦ elim (cases_lt k 36) [
        | inl k_middle ↦ rw (alnum_middle framing k k_not_low k_middle, alnum_high framing j j_high) (omega arith)
        | inr k_high ↦ rw (alnum_high framing k k_high, alnum_high framing j j_high) (omega arith)
      ]
    ]
  ]
]
character_rises Line Any k j less = elim (cases_lt k 10) [
  | inl k_low ↦ elim (cases_lt j 10) [
    | inl j_low ↦ rw (line_low k k_low, line_low j j_low) (omega arith)
    | inr j_high ↦ rw (line_low k k_low, line_high j j_high) (omega arith)
  ]
  | inr k_high ↦ rw (line_high k k_high, line_high j (omega arith)) (omega arith)
]
character_rises Len16 Any k j less = less

-- each character has a number
pub character_number : (framing : Framing) (alphabet : Alphabet) (byte : ℕ) → is_character framing alphabet byte ≡ true
    → (number : ℕ) × (number < size_of framing alphabet) × (character framing alphabet number ≡ byte)
character_number framing Hex byte is = elim (hex_ranges framing byte is) [
  | inl digit ↦ (byte - 48, omega (arith, digit), hex_low framing (byte - 48) (omega (arith, digit)) ∙ omega (arith, digit))
  | inr letter ↦ (byte - 87, omega (arith, letter), hex_high framing (byte - 87) (omega (arith, letter)) ∙ omega (arith, letter))
]
character_number framing Alnum byte is = elim (alnum_ranges framing byte is) [
  | inl digit ↦ (byte - 48, omega (arith, digit), alnum_low framing (byte - 48) (omega (arith, digit)) ∙ omega (arith, digit))
  | inr (inl upper) ↦ (byte - 55, omega (arith, upper), alnum_middle framing (byte - 55) (omega (arith, upper)) (omega (arith, upper)) ∙ omega (arith, upper))
  | inr (inr lower) ↦ (byte - 61, omega (arith, lower), alnum_high framing (byte - 61) (omega (arith, lower)) ∙ omega (arith, lower))
]
character_number Line Any byte is =
    let parts = and_parts _ _ is in
    let small : byte < 256 = ltb-true byte 256 parts.0 in
    let other : (byte ≡ 10) → ⊥ = eqb-false byte 10 (not-true _ parts.1) in
    elim (cases_lt byte 10) [
      | inl low ↦ (byte, omega arith, line_low byte low)
      | inr high ↦ elim (cases_eq byte 10) [
        | inl line ↦ absurd (other line)
        | inr past ↦ (byte - 1, omega arith, line_high (byte - 1) (omega arith) ∙ omega arith)
      ]
    ]
character_number Len16 Any byte is = (byte, ltb-true byte 256 is, refl)

-- there is a character
pub some_character : (framing : Framing) (alphabet : Alphabet) → 0 < size_of framing alphabet
some_character framing Hex = omega arith
some_character framing Alnum = omega arith
some_character Line Any = omega arith
some_character Len16 Any = omega arith

-- no more than there are bytes
pub few_characters : (framing : Framing) (alphabet : Alphabet) → size_of framing alphabet ≤ 256
few_characters framing Hex = omega arith
few_characters framing Alnum = omega arith
few_characters Line Any = omega arith
few_characters Len16 Any = omega arith
