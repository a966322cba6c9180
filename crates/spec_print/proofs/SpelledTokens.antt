-- How single tokens are spelled.
use Rattle.std.proofs.Common.{◌≡◌, ℕ, zero, suc, ◌+◌, ◌-◌, ◌*◌, ◌/◌, ◌%◌, ◌^◌, ◌<◌, ◌≤◌, ◌==◌, ◌&&◌, ◌||◌, not, nat_le, if◌then◌else◌, Bool, true, false, List, [], ◌∷◌, ◌++◌, length, fold, flat_map, get_or, refl, ap, sym, subst, ◌∙◌, arith}
use Rattle.std.specs.Prelude.{decimal}
use Rattle.std.specs.List.{list_all}
use Rattle.std.proofs.lemmas.Bool.{eqb-true}
use Rattle.std.proofs.lemmas.Bool.Decides.{nat_tests}
use Rattle.std.proofs.lemmas.Fmt.{decimal_by_steps, decimal_digit, first_decimal}
use Rattle.std.proofs.lemmas.List.Folds.{list_all-append}
use Rattle.spec_model.specs.Pattern.{is_digit, number_written}
use Rattle.spec_model.specs.Quote.{IsText, backslash, hex_digit, quote_sign, quoted_byte}
use Rattle.spec_model.specs.Spelling.{IsQuoted, nothing, plain, escape, hexadecimal, is_number, begins_with, stands_for_itself}
use Rattle.spec_model.specs.Value.{greatest}

-- ---- numbers

digit_is_digit : (n : ℕ) → n < 10 → is_digit (48 + n) ≡ true
digit_is_digit n small = grind (arith, nat_tests)

all_digits : (n : ℕ) → n < 2 ^ 64 → list_all is_digit (decimal n) ≡ true
all_digits = decimal_by_steps (λ n digits. list_all is_digit digits ≡ true) (λ n small. rw (digit_is_digit n small) refl)
    (λ n digits large known. rw (list_all-append, known, digit_is_digit (n % 10) (omega arith)) refl)

with_digit : ℕ → ℕ → ℕ
with_digit number digit = 10 * number + (digit - 48)

written_behind : (number : ℕ) (front : List ℕ) (digit : ℕ)
    → fold (λ number digit. 10 * number + (digit - 48)) number (front ++ digit ∷ []) ≡ 10 * fold (λ number digit. 10 * number + (digit - 48)) number front + (digit - 48)
written_behind number [] digit = refl
written_behind number (x ∷ front) digit = written_behind (10 * number + (x - 48)) front digit

pub written_again : (n : ℕ) → n < 2 ^ 64 → number_written (decimal n) ≡ n
written_again = decimal_by_steps (λ n digits. number_written digits ≡ n) (λ n small. omega arith)
    (λ n digits large known. let e = written_behind 0 digits (48 + n % 10) in e ∙ rw known (omega arith))

begins_with_digit : (digits : List ℕ) → list_all is_digit digits ≡ true → 48 < get_or digits 0 0 → (begins_with is_digit digits ≡ true) × (begins_with (λ byte. byte == 48) digits ≡ false)
begins_with_digit [] all first = absurd (omega arith)
begins_with_digit (digit ∷ digits) all first = (first_passed (is_digit digit) (list_all is_digit digits) all, not_zero digit first)
  where
    first_passed : (a b : Bool) → a && b ≡ true → a ≡ true
    first_passed true b e = refl
    first_passed false b e = e

    not_zero : (n : ℕ) → 48 < n → (n == 48) ≡ false
    not_zero n h = grind (arith, nat_tests)

pub decimal_is_number : (n : ℕ) → n ≤ greatest → is_number (decimal n) ≡ true
decimal_is_number zero fits = ap is_number (decimal_digit 0 (omega arith))
decimal_is_number (suc n) fits =
    let within : suc n < 2 ^ 64 = omega arith in
    let all = all_digits (suc n) within in
    let above : 0 < suc n = omega arith in
    let first = begins_with_digit (decimal (suc n)) all (first_decimal (suc n) above within) in
    let value = written_again (suc n) within in
    let small : nat_le (suc n) greatest ≡ true = grind (arith, nat_tests) in
    rw (first.0, all, first.1, value, small) (either_way (length (decimal (suc n)) == 1))
  where
    either_way : (b : Bool) → (true && true && (b || not false) && true) ≡ true
    either_way true = refl
    either_way false = refl

-- ---- texts

quoted_by : (byte : ℕ) (bytes text : List ℕ) (is_quote is_slash is_plain : Bool) → byte < 256 → (byte == quote_sign) ≡ is_quote → (byte == backslash) ≡ is_slash
    → (nat_le 32 byte && nat_le byte 126) ≡ is_plain → IsQuoted bytes text
    → IsQuoted ((if is_quote then backslash ∷ quote_sign ∷ [] else (if is_slash then backslash ∷ backslash ∷ []
    else (if is_plain then byte ∷ [] else backslash ∷ 120 ∷ hex_digit (byte / 16) ∷ hex_digit (byte % 16) ∷ []))) ++ bytes) (byte ∷ text)
quoted_by byte bytes text true is_slash is_plain small q s p h =
    subst (λ b. IsQuoted (backslash ∷ quote_sign ∷ bytes) (b ∷ text)) (sym (eqb-true byte quote_sign q)) (escape refl h)
quoted_by byte bytes text false true is_plain small q s p h =
    subst (λ b. IsQuoted (backslash ∷ backslash ∷ bytes) (b ∷ text)) (sym (eqb-true byte backslash s)) (escape refl h)
quoted_by byte bytes text false false true small q s p h = plain (itself byte q s p) h
  where
    itself : (byte : ℕ) → (byte == quote_sign) ≡ false → (byte == backslash) ≡ false → (nat_le 32 byte && nat_le byte 126) ≡ true → stands_for_itself byte ≡ true
    itself byte q s p = rw (p, q, s) refl
quoted_by byte bytes text false false false small q s p h =
    let whole : 16 * (byte / 16) + byte % 16 ≡ byte = omega arith in
    subst (λ b. IsQuoted (backslash ∷ 120 ∷ hex_digit (byte / 16) ∷ hex_digit (byte % 16) ∷ bytes) (b ∷ text)) whole
    (hexadecimal (omega arith) (omega arith) h)

pub text_is_quoted : (text : List ℕ) → IsText text → IsQuoted (flat_map quoted_byte text) text
text_is_quoted [] all = nothing
text_is_quoted (byte ∷ text) all =
    quoted_by byte (flat_map quoted_byte text) text (byte == quote_sign) (byte == backslash) (nat_le 32 byte && nat_le byte 126) all.0 refl refl refl (text_is_quoted text all.1)
