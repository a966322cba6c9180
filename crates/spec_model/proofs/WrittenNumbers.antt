-- Numbers written in decimal.
use Rattle.std.proofs.Common.{◌≡◌, ℕ, ◌+◌, ◌-◌, ◌*◌, ◌<◌, ◌≤◌, List, [], ◌∷◌, fold, length, drop, get_or, refl, add-one, drop-cons, arith}

-- the number that a number becomes by the digits behind it
abbrev pub number_behind : ℕ → List ℕ → ℕ
number_behind number digits = fold (λ number digit. 10 * number + (digit - 48)) number digits

-- more digits make no smaller number
pub number_behind-at_least : (number : ℕ) (digits : List ℕ) → number ≤ number_behind number digits
number_behind-at_least number [] = omega arith
number_behind-at_least number (digit ∷ digits) =
    let later = number_behind-at_least (10 * number + (digit - 48)) digits in omega arith

-- the next digit comes first
pub number_behind-drop : (number : ℕ) (digits : List ℕ) (place : ℕ) → place < length digits
    → number_behind number (drop place digits) ≡ number_behind (10 * number + (get_or digits place 0 - 48)) (drop (place + 1) digits)
number_behind-drop number digits place within = rw (add-one, drop-cons digits place 0) refl
