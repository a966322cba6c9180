-- The limit of open braces.
use Rattle.std.proofs.Common.{◌≡◌, ℕ, ◌+◌, ◌<◌, ◌≤◌, nat_le, List, [], ◌∷◌, ◌++◌, length, Ok, Err, refl, sym, ap, ◌∙◌, inl, inr, arith, length-append}
use Rattle.std.proofs.lemmas.Bool.{leb-true, leb-false, le-leb, lt-leb, cases_Bool, cond-true, cond-false}
use Rattle.spec_model.specs.declared.token.Placed.{Placed}
use Rattle.spec_model.specs.declared.token.Punctuation.{Punctuation}
use Rattle.spec_model.specs.declared.token.Punctuation.TheVariants as signs
use Rattle.spec_model.specs.declared.token.Token.{Token}
use Rattle.spec_model.specs.declared.token.Token.TheVariants as tokens
use Rattle.spec_model.specs.Canonical.{depth_behind, sign_text}
use Rattle.spec_model.specs.Spelling.{Spelled, end, blank, comment, last_comment, run, string, sign, IsWithinBraces, greatest_open, open_behind}
use Rattle.spec_scan.proofs.Back.{Rising}
use Rattle.spec_scan.proofs.Depths.{depth_le}
use Rattle.spec_scan.proofs.Forth.{limited}
use Rattle.spec_scan.proofs.Goes.{token_at}
use Rattle.spec_scan.proofs.Scanned.{run_long}
use Rattle.spec_scan.proofs.Steps.{rising-le}

over_is_open : (open_now : ℕ) (token : Token) → open_now ≤ greatest_open → greatest_open < depth_behind open_now token
    → (token ≡ tokens.Sign signs.Open) × (open_now ≡ greatest_open)
over_is_open open_now (tokens.Sign signs.Open) small over = (refl, omega arith)
over_is_open open_now (tokens.Sign signs.Close) small over = absurd (omega arith)
over_is_open open_now _ small over = absurd (omega arith)

-- with room for every token no brace is one too many
pub roomy : (most open_now : ℕ) (ts all : List Placed) → open_now + length ts ≤ most → limited most open_now ts all ≡ Ok all
roomy most open_now [] all room = refl
roomy most open_now (t ∷ ts) all room =
    let one = depth_le open_now t.token in
    cond-true _ _ _ (le-leb (depth_behind open_now t.token) most (omega arith))
    ∙ roomy most (depth_behind open_now t.token) ts all (omega arith)

pub within_all : (open_now : ℕ) (ts all : List Placed) → IsWithinBraces open_now ts
    → limited greatest_open open_now ts all ≡ Ok all
within_all open_now [] all within = refl
within_all open_now (t ∷ ts) all within =
    cond-true _ _ _ (le-leb (depth_behind open_now t.token) greatest_open within.0)
    ∙ within_all (depth_behind open_now t.token) ts all within.1

pub all_within : (open_now : ℕ) (ts all found : List Placed) → limited greatest_open open_now ts all ≡ Ok found
    → (all ≡ found) × IsWithinBraces open_now ts
all_within open_now [] all found is = (cc, tt)
all_within open_now (t ∷ ts) all found is =
    elim (cases_Bool (nat_le (depth_behind open_now t.token) greatest_open)) [
      | inl e ↦ (let rest = all_within (depth_behind open_now t.token) ts all found (sym (cond-true _ _ _ e)
          ∙ is) in (rest.0, (leb-true _ _ e, rest.1)))
      | inr n ↦ absurd (let other : Err t.at ≡ Ok found = sym (cond-false _ _ _ n) ∙ is in cc)
    ]

-- the brace that is one too many
pub found_over : (open_now : ℕ) (ts all : List Placed) (place : ℕ) → open_now ≤ greatest_open
    → limited greatest_open open_now ts all ≡ Err place
    → (before : List Placed) × (after : List Placed) × (ts ≡ before ++ token_at place (tokens.Sign signs.Open) ∷ after) × (open_behind open_now before ≡ greatest_open)
found_over open_now [] all place small is = absurd cc
found_over open_now (t ∷ ts) all place small is =
    elim (cases_Bool (nat_le (depth_behind open_now t.token) greatest_open)) [
      | inl e ↦ (
          let rest = found_over (depth_behind open_now t.token) ts all place (leb-true _ _ e) (sym (cond-true _ _ _ e) ∙ is) in
          (t ∷ rest.0, rest.1, ap (λ more. t ∷ more) rest.2, rest.3))
      | inr n ↦ (
          let other : Err t.at ≡ Err place = sym (cond-false _ _ _ n) ∙ is in
          let here : t.at ≡ place = cc in
          let known = over_is_open open_now t.token small (leb-false _ _ n) in
          let same : token_at t.at t.token ≡ token_at place (tokens.Sign signs.Open) = ap (λ at. token_at at t.token) here
          ∙ ap (token_at place) known.0 in
          ([], ts, ap (λ x. x ∷ ts) same, known.1))
    ]

rising_in : (early late : ℕ) (before : List Placed) (t : Placed) (after : List Placed) → Rising early late (before ++ t ∷ after)
    → early ≤ t.at
rising_in early late [] t after rising = rising.0
rising_in early late (x ∷ before) t after rising =
    let later = rising_in (x.at + 1) late before t after rising.1 in let first = rising.0 in omega arith

-- a brace that is one too many is found, or one before it
pub limited_over : (early late open_now : ℕ) (before : List Placed) (place : ℕ) (after all : List Placed)
    → Rising early late (before ++ token_at place (tokens.Sign signs.Open) ∷ after) → open_behind open_now before ≡ greatest_open
    → (found : ℕ) × (limited greatest_open open_now (before ++ token_at place (tokens.Sign signs.Open) ∷ after) all ≡ Err found) × (found ≤ place)
limited_over early late open_now [] place after all rising full =
    (place, cond-false _ _ _ (lt-leb (open_now + 1) greatest_open (omega arith)), omega arith)
limited_over early late open_now (t ∷ before) place after all rising full =
    elim (cases_Bool (nat_le (depth_behind open_now t.token) greatest_open)) [
      | inl e ↦ (
          let rest = limited_over (t.at + 1) late (depth_behind open_now t.token) before place after all rising.1 full in
          (rest.0, cond-true _ _ _ e ∙ rest.1, rest.2))
      | inr n ↦ (t.at, cond-false _ _ _ n, (let later = rising_in (t.at + 1) late before (token_at place (tokens.Sign signs.Open)) after rising.1 in omega arith))
    ]

sign_long : (mark : Punctuation) → 1 ≤ length (sign_text mark)
sign_long signs.Open = omega arith
sign_long _ = omega arith

-- tokens stand behind one another
pub spelled_rising : {place : ℕ} {bytes : List ℕ} {ts : List Placed} → Spelled place bytes ts → (late : ℕ)
    → place + length bytes ≤ late → Rising place late ts
spelled_rising end late enough = omega arith
spelled_rising (blank {more =
    more} is later) late enough = rising-le late more (omega arith) (spelled_rising later late (omega arith))
spelled_rising (comment {rest = rest} {more = more} text all later) late enough =
    let total = length-append text (10 ∷ rest) in rising-le late more (omega arith) (spelled_rising later late (omega arith))
spelled_rising (last_comment all) late enough = omega arith
spelled_rising {place} (run {rest = rest} {more = more} bytes is apart later) late enough =
    let total = length-append bytes rest in
    let long = run_long is in
    (omega arith, rising-le late more (omega arith) (spelled_rising later late (omega arith)))
spelled_rising {place} (string {rest = rest} {more = more} bytes is later) late enough =
    let total = length-append bytes (34 ∷ rest) in
    (omega arith, rising-le late more (omega arith) (spelled_rising later late (omega arith)))
spelled_rising {place} (sign {rest = rest} {more = more} mark whole later) late enough =
    let total = length-append (sign_text mark) rest in
    let long = sign_long mark in
    (omega arith, rising-le late more (omega arith) (spelled_rising later late (omega arith)))
