-- What a step does behind each part of a token.
use Rattle.std.proofs.Common.{◌≡◌, ℕ, ◌+◌, ◌-◌, ◌*◌, ◌<◌, ◌≤◌, true, false, ◌&&◌, ◌==◌, nat_le, List, [], ◌∷◌, ◌++◌, Option, Some, None, option_map, option_and_then, refl, sym, ◌∙◌, subst, inl, inr, arith, append-nil, append_assoc}
use Rattle.std.proofs.lemmas.Bool.{and_parts, eqb-true, leb-true, cases_Bool, cond-true, cond-false}
use Rattle.std.proofs.lemmas.Bool.Decides.{nat_tests}
use Rattle.spec_model.specs.declared.token.Placed.{Placed}
use Rattle.spec_model.specs.declared.token.Punctuation.TheVariants as signs
use Rattle.spec_model.specs.declared.token.Token.{Token}
use Rattle.spec_model.specs.declared.token.Token.TheVariants as tokens
use Rattle.spec_model.specs.Message.{line_feed}
use Rattle.spec_model.specs.Quote.{quote_sign, backslash, hex_digit}
use Rattle.spec_model.specs.Spelling.{Spelled, is_comment_byte, is_run_byte, stands_for_itself, escaped_byte}
use Rattle.spec_scan.specs.declared.goal.Class.TheVariants as classes
use Rattle.spec_scan.specs.declared.goal.Goal.{Goal}
use Rattle.spec_scan.specs.declared.part.Part.{Part}
use Rattle.spec_scan.specs.declared.part.Part.TheVariants.{Between, Comment, Run, Inside, Escape, FirstDigit, SecondDigit, Equal, Bang}
use Rattle.spec_scan.specs.Scan.{token_of_run, opens, digit_of, State, state, take_token, between, behind, step_in}
use Rattle.spec_scan.specs.Table.{takes}
use Rattle.spec_scan.proofs.Back.{Rising}
use Rattle.spec_scan.proofs.Goes.{Goes, InFirst, InSecond, to_line_end, short, long, high_digit, low_digit, doubled, alone, unequal, token_at, moved_to, run_before, comment_before, text_before, escape_before, text_ends}
use Rattle.spec_scan.proofs.Moves.{start, IsOpen, Moved, stays, stays_if, taken, adds, between_moved}
use Rattle.spec_scan.proofs.RunTokens.{run_of}

pub rising-le : {early later : ℕ} (late : ℕ) (ts : List Placed) → early ≤ later → Rising later late ts → Rising early late ts
rising-le late [] sooner rising = omega arith
rising-le late (placed ∷ ts) sooner rising = (omega arith, rising.1)

-- a token, and then a byte behind it
ended : {place byte : ℕ} {part : Part} {below : List Goal} {placed : List Placed} {s : State} (at : ℕ) (token : Token)
    → option_and_then (behind place byte) (take_token below placed at token) ≡ Some s → start part place ≡ at → at < place
    → ((bytes : List ℕ) (ts : List Placed) → Spelled place (byte ∷ bytes) ts
    → Goes part place (byte ∷ bytes) (token_at at token ∷ ts))
    → Moved place byte part below placed s
ended {place} {byte} {part} {below} {placed} {s} at token is began sooner back = go (take_token below placed at token) refl is
  where
    go : (found : Option State) → take_token below placed at token ≡ found → option_and_then (behind place byte) found ≡ Some s
        → Moved place byte part below placed s
    go None searched is = absurd cc
    go (Some middle) searched is =
        let took = taken below placed at token middle searched in
        let from : between took.0 (placed ++ token_at at token ∷ []) place byte ≡ Some s = subst (λ m. behind place byte m ≡ Some s) (sym took.2) is in
        let moved = between_moved place byte took.0 (placed ++ token_at at token ∷ []) s from in record {
          new = token_at at token ∷ moved.new;
          added = moved.added ∙ append_assoc placed (token_at at token ∷ []) moved.new;
          runs = rw took.1 moved.runs;
          rising = (omega arith, rising-le _ moved.new (omega arith) moved.rising);
          open_part = moved.open_part;
          back = λ bytes ts goes. back bytes (moved.new ++ ts) (moved.back bytes ts goes);
        }

-- a digit and its value
pub digit_is : (byte value : ℕ) → digit_of byte ≡ Some value → (hex_digit value ≡ byte) × (value < 16)
digit_is byte value is =
    elim (cases_Bool (nat_le 48 byte && nat_le byte 57)) [
      | inl e ↦
          (let parts = and_parts _ _ e in
          let low = leb-true 48 byte parts.0 in
          let high = leb-true byte 57 parts.1 in
          let same : Some (byte - 48) ≡ Some value = sym (cond-true _ _ _ e) ∙ is in
          let equal : byte - 48 ≡ value = cc in
          (grind (arith, nat_tests), omega arith))
      | inr n ↦ (elim (cases_Bool (nat_le 97 byte && nat_le byte 102)) [
        | inl e ↦
            (let parts = and_parts _ _ e in
            let low = leb-true 97 byte parts.0 in
            let high = leb-true byte 102 parts.1 in
            let same : Some (byte - 87) ≡ Some value = sym (cond-true _ _ _ e) ∙ (sym (cond-false _ _ _ n) ∙ is) in
            let equal : byte - 87 ≡ value = cc in
            (grind (arith, nat_tests), omega arith))
        | inr n1 ↦ absurd (let none : None ≡ Some value = sym (cond-false _ _ _ n1) ∙ (sym (cond-false _ _ _ n) ∙ is) in cc)
      ])
    ]

-- what a search led to
pub map_gave : {A : Type 0} (f : A → State) (found : Option A) (s : State) → option_map f found ≡ Some s
    → (x : A) × (found ≡ Some x) × (f x ≡ s)
map_gave f None s is = absurd cc
map_gave f (Some x) s is = (x, refl, cc)

comment_moved : (place byte : ℕ) (below : List Goal) (placed : List Placed) (s : State)
    → step_in Comment below placed place byte ≡ Some s
    → Moved place byte Comment below placed s
comment_moved place byte below placed s is =
    elim (cases_Bool (byte == line_feed)) [
      | inl e ↦
          (let same : Some (state Between below placed) ≡ Some s = sym (cond-true _ _ _ e) ∙ is in
          let equal : state Between below placed ≡ s = cc in
          subst (λ found. Moved place byte Comment below placed found) equal (stays Between (omega arith) tt (λ bytes ts goes.
          subst (λ b. Goes Comment place (b ∷ bytes) ts) (sym (eqb-true byte line_feed e)) (to_line_end [] refl goes))))
      | inr n ↦ stays_if (is_comment_byte byte) Comment (sym (cond-false _ _ _ n)
          ∙ is) (omega arith) (λ test. tt) (λ test bytes ts goes. comment_before test goes)
    ]

run_moved : (at : ℕ) (run : List ℕ) (place byte : ℕ) (below : List Goal) (placed : List Placed) (s : State) → at < place
    → step_in (Run at run) below placed place byte ≡ Some s → Moved place byte (Run at run) below placed s
run_moved at run place byte below placed s sooner is =
    elim (cases_Bool (is_run_byte byte)) [
      | inl e ↦
          stays_if (opens below (run ++ byte ∷ [])) (Run at (run ++ byte ∷ [])) (sym (cond-true (is_run_byte byte) _ _ e)
          ∙ is) (omega arith)
          (λ opened. (omega arith, opened)) (λ opened bytes ts goes. run_before goes)
      | inr n ↦ go n (token_of_run run) refl (sym (cond-false (is_run_byte byte) _ _ n) ∙ is)
    ]
  where
    go : is_run_byte byte ≡ false → (found : Option Token) → token_of_run run ≡ found
        → option_and_then (behind place byte) (option_and_then (take_token below placed at) found) ≡ Some s
        → Moved place byte (Run at run) below placed s
    go apart None searched is = absurd cc
    go apart (Some token) searched is = ended at token is refl sooner (λ bytes ts spelled. record {
      more = [];
      token = token;
      rest = byte ∷ bytes;
      later = ts;
      split = refl;
      is = run_of (run ++ []) token (subst (λ r. token_of_run r ≡ Some token) (sym (append-nil run)) searched);
      apart = apart;
      spelled = moved_to (omega arith) spelled;
      placed = refl;
    })

text_moved : (at : ℕ) (text : List ℕ) (place byte : ℕ) (below : List Goal) (placed : List Placed) (s : State) → at < place
    → takes below classes.Text ≡ true
    → step_in (Inside at text) below placed place byte ≡ Some s → Moved place byte (Inside at text) below placed s
text_moved at text place byte below placed s sooner opened is =
    elim (cases_Bool (byte == quote_sign)) [
      | inl e ↦
          adds at (tokens.Text text) (sym (cond-true _ _ _ e) ∙ is) refl (omega arith) (λ bytes ts spelled.
          subst (λ b. Goes (Inside at text) place (b ∷ bytes) (token_at at (tokens.Text text) ∷ ts)) (sym (eqb-true byte quote_sign e)) (text_ends spelled))
      | inr n ↦ (elim (cases_Bool (byte == backslash)) [
        | inl e ↦
            (let same : Some (state (Escape at text) below placed) ≡ Some s = sym (cond-true _ _ _ e) ∙ (sym (cond-false _ _ _ n)
            ∙ is) in
            let equal : state (Escape at text) below placed ≡ s = cc in
            subst (λ found. Moved place byte (Inside at text) below placed found) equal (stays (Escape at text) (omega arith) (omega arith, opened) (λ bytes ts goes.
            subst (λ b. Goes (Inside at text) place (b ∷ bytes) ts) (sym (eqb-true byte backslash e)) (escape_before goes))))
        | inr n1 ↦ stays_if (stands_for_itself byte) (Inside at (text ++ byte ∷ [])) (sym (cond-false _ _ _ n1)
            ∙ (sym (cond-false _ _ _ n) ∙ is)) (omega arith)
            (λ test. (omega arith, opened)) (λ test bytes ts goes. text_before test goes)
      ])
    ]

escape_moved : (at : ℕ) (text : List ℕ) (place byte : ℕ) (below : List Goal) (placed : List Placed) (s : State) → at < place
    → takes below classes.Text ≡ true
    → step_in (Escape at text) below placed place byte ≡ Some s → Moved place byte (Escape at text) below placed s
escape_moved at text place byte below placed s sooner opened is =
    elim (cases_Bool (byte == 120)) [
      | inl e ↦
          (let same : Some (state (FirstDigit at text) below placed) ≡ Some s = sym (cond-true _ _ _ e) ∙ is in
          let equal : state (FirstDigit at text) below placed ≡ s = cc in
          subst (λ found. Moved place byte (Escape at text) below placed found) equal (stays (FirstDigit at text) (omega arith) (omega arith, opened) (λ bytes ts goes.
          subst (λ b. Goes (Escape at text) place (b ∷ bytes) ts) (sym (eqb-true byte 120 e)) (long goes))))
      | inr n ↦
          (let gave = map_gave (λ meant. state (Inside at (text ++ meant ∷ [])) below placed) (escaped_byte byte) s (sym (cond-false _ _ _ n) ∙ is) in
          subst (λ found. Moved place byte (Escape at text) below placed found) gave.2
          (stays (Inside at (text ++ gave.0 ∷ [])) (omega arith) (omega arith, opened) (λ bytes ts goes. short gave.1 goes)))
    ]

first_moved : (at : ℕ) (text : List ℕ) (place byte : ℕ) (below : List Goal) (placed : List Placed) (s : State) → at < place
    → takes below classes.Text ≡ true
    → step_in (FirstDigit at text) below placed place byte ≡ Some s → Moved place byte (FirstDigit at text) below placed s
first_moved at text place byte below placed s sooner opened is =
    let gave = map_gave (λ high. state (SecondDigit at text high) below placed) (digit_of byte) s is in
    let digit = digit_is byte gave.0 gave.1 in
    subst (λ found. Moved place byte (FirstDigit at text) below placed found) gave.2
    (stays (SecondDigit at text gave.0) (omega arith) (omega arith, opened, digit.1) (λ bytes ts goes.
    subst (λ b. InFirst at text place (b ∷ bytes) ts) digit.0 (high_digit digit.1 goes)))

second_moved : (at : ℕ) (text : List ℕ) (high place byte : ℕ) (below : List Goal) (placed : List Placed) (s : State) → at < place
    → takes below classes.Text ≡ true
    → step_in (SecondDigit at text high) below placed place byte ≡ Some s
    → Moved place byte (SecondDigit at text high) below placed s
second_moved at text high place byte below placed s sooner opened is =
    let gave = map_gave (λ low. state (Inside at (text ++ (16 * high + low) ∷ [])) below placed) (digit_of byte) s is in
    let digit = digit_is byte gave.0 gave.1 in
    subst (λ found. Moved place byte (SecondDigit at text high) below placed found) gave.2
    (stays (Inside at (text ++ (16 * high + gave.0) ∷ [])) (omega arith) (omega arith, opened) (λ bytes ts goes.
    subst (λ b. InSecond at text high place (b ∷ bytes) ts) digit.0 (low_digit digit.1 goes)))

equal_moved : (at place byte : ℕ) (below : List Goal) (placed : List Placed) (s : State) → at < place
    → step_in (Equal at) below placed place byte ≡ Some s → Moved place byte (Equal at) below placed s
equal_moved at place byte below placed s sooner is =
    elim (cases_Bool (byte == 61)) [
      | inl e ↦
          adds at (tokens.Sign signs.Same) (sym (cond-true _ _ _ e) ∙ is) refl (omega arith) (λ bytes ts spelled.
          subst (λ b. Goes (Equal at) place (b ∷ bytes) (token_at at (tokens.Sign signs.Same) ∷ ts)) (sym (eqb-true byte 61 e)) (doubled spelled))
      | inr n ↦ ended at (tokens.Sign signs.Becomes) (sym (cond-false _ _ _ n)
          ∙ is) refl sooner (λ bytes ts spelled. alone (rw n refl) spelled)
    ]

bang_moved : (at place byte : ℕ) (below : List Goal) (placed : List Placed) (s : State) → at < place
    → step_in (Bang at) below placed place byte ≡ Some s → Moved place byte (Bang at) below placed s
bang_moved at place byte below placed s sooner is =
    elim (cases_Bool (byte == 61)) [
      | inl e ↦
          adds at (tokens.Sign signs.Other) (sym (cond-true _ _ _ e) ∙ is) refl (omega arith) (λ bytes ts spelled.
          subst (λ b. Goes (Bang at) place (b ∷ bytes) (token_at at (tokens.Sign signs.Other) ∷ ts)) (sym (eqb-true byte 61 e)) (unequal spelled))
      | inr n ↦ absurd (let none : None ≡ Some s = sym (cond-false _ _ _ n) ∙ is in cc)
    ]

pub step_moved : (part : Part) (place byte : ℕ) (below : List Goal) (placed : List Placed) (s : State) → IsOpen place part below
    → step_in part below placed place byte ≡ Some s → Moved place byte part below placed s
step_moved Between place byte below placed s opened is = between_moved place byte below placed s is
step_moved Comment place byte below placed s opened is = comment_moved place byte below placed s is
step_moved (Run at run) place byte below placed s opened is = run_moved at run place byte below placed s opened.0 is
step_moved (Inside at text) place byte below placed s opened is =
    text_moved at text place byte below placed s opened.0 opened.1 is
step_moved (Escape at text) place byte below placed s opened is =
    escape_moved at text place byte below placed s opened.0 opened.1 is
step_moved (FirstDigit at text) place byte below placed s opened is =
    first_moved at text place byte below placed s opened.0 opened.1 is
step_moved (SecondDigit at text high) place byte below placed s opened is =
    second_moved at text high place byte below placed s opened.0 opened.1 is
step_moved (Equal at) place byte below placed s opened is = equal_moved at place byte below placed s opened.0 is
step_moved (Bang at) place byte below placed s opened is = bang_moved at place byte below placed s opened.0 is
