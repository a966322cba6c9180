-- Decimal numbers, read back.
use Rattle.std.proofs.Common.{◌≡◌, ℕ, ◌+◌, ◌/◌, ◌%◌, ◌^◌, ◌<◌, ◌≤◌, Bool, false, leb, List, [], ◌∷◌, ◌++◌, refl, ◌∙◌, ap, arith, append_assoc}
use Rattle.std.specs.Fmt.{decimal}
use Rattle.std.proofs.lemmas.Bool.{lt-leb, ne_eqb}
use Rattle.std.proofs.lemmas.Fmt.{decimal_by_steps}
use Rattle.std.proofs.lemmas.List.Sums.{fold-append}
use Rattle.exchange_text.specs.LooseReading.{number_of}
use Rattle.exchange_text.specs.Text.{Lacks}
use Rattle.exchange_text.proofs.Separators.{Lacks-append}

-- a number that was written is read as that number
pub number_of-decimal : (number : ℕ) → number < 2 ^ 16 → number_of (decimal number) ≡ number
number_of-decimal number small = decimal_by_steps (λ n digits. n < 2 ^ 16 → number_of digits ≡ n) one more number (omega arith) small
  where
    one : (n : ℕ) → n < 10 → n < 2 ^ 16 → number_of ((48 + n) ∷ []) ≡ n
    one n digit small = omega arith

    more : (n : ℕ) (digits : List ℕ) → 10 ≤ n → (n / 10 < 2 ^ 16 → number_of digits ≡ n / 10) → n < 2 ^ 16 → number_of (digits ++ ((48 + n % 10) ∷ [])) ≡ n
    more n digits large front small = rw (fold-append, front (omega arith)) (omega arith)

-- in a number stand digits alone
pub Lacks-decimal : (byte number : ℕ) → byte < 48 → number < 2 ^ 16 → Lacks byte (decimal number)
Lacks-decimal byte number below small = decimal_by_steps (λ n digits. Lacks byte digits) one more number (omega arith)
  where
    digit : (value : ℕ) → Lacks byte ((48 + value) ∷ [])
    digit value = rw (ne_eqb (48 + value) byte (λ same. absurd (omega arith))) refl

    one : (n : ℕ) → n < 10 → Lacks byte ((48 + n) ∷ [])
    one n _ = digit n

    more : (n : ℕ) (digits : List ℕ) → 10 ≤ n → Lacks byte digits → Lacks byte (digits ++ ((48 + n % 10) ∷ []))
    more n digits _ front = Lacks-append byte digits ((48 + n % 10) ∷ []) front (digit (n % 10))

-- no digit stands first, nor a byte below the digits
abbrev pub begins_with_letter : List ℕ → Bool
begins_with_letter [] = false
begins_with_letter (byte ∷ bytes) = leb 58 byte

-- a number begins with a digit
pub number_first : (number : ℕ) (behind : List ℕ) → number < 2 ^ 16 → begins_with_letter (decimal number ++ behind) ≡ false
number_first number behind small = decimal_by_steps (λ n digits. (behind : List ℕ) → begins_with_letter (digits ++ behind) ≡ false) one more number (omega arith) behind
  where
    one : (n : ℕ) → n < 10 → (behind : List ℕ) → leb 58 (48 + n) ≡ false
    one n digit behind = lt-leb 58 (48 + n) (omega arith)

    more : (n : ℕ) (digits : List ℕ) → 10 ≤ n → ((behind : List ℕ) → begins_with_letter (digits ++ behind) ≡ false)
        → (behind : List ℕ) → begins_with_letter ((digits ++ (48 + n % 10) ∷ []) ++ behind) ≡ false
    more n digits large front behind = ap begins_with_letter (append_assoc digits ((48 + n % 10) ∷ []) behind) ∙ front ((48 + n % 10) ∷ behind)
