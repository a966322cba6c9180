-- Bytes that spell tokens of the grammar are read as these tokens.
use Rattle.std.proofs.Common.{◌≡◌, ℕ, ◌+◌, ◌-◌, ◌*◌, ◌<◌, ◌≤◌, true, false, if◌then◌else◌, ◌&&◌, ◌||◌, ◌==◌, nat_le, nat_lt, List, [], ◌∷◌, ◌++◌, length, Some, option_map, Result, Ok, Err, refl, sym, ap, ◌∙◌, subst, inl, inr, arith, append-nil, append_assoc}
use Rattle.std.specs.List.{list_all}
use Rattle.std.proofs.lemmas.Bool.{true≢false, and_parts, or_cases, not-true, eqb-true, le-leb, ltb-true, ltb-false, cases_Bool, cond-true, cond-false}
use Rattle.std.proofs.lemmas.Bool.Decides.{nat_tests}
use Rattle.spec_model.specs.declared.token.Placed.{Placed}
use Rattle.spec_model.specs.Canonical.{depth_behind}
use Rattle.spec_model.specs.Message.{line_feed}
use Rattle.spec_model.specs.Quote.{quote_sign, backslash, hex_digit}
use Rattle.spec_model.specs.Spelling.{IsQuoted, nothing, plain, escape, hexadecimal, is_blank, is_comment_byte, stands_for_itself, escaped_byte, open_behind}
use Rattle.spec_scan.specs.declared.goal.Goal.{Goal}
use Rattle.spec_scan.specs.declared.part.Part.TheVariants.{Between, Comment, Inside, Escape, FirstDigit, SecondDigit}
use Rattle.spec_scan.specs.Scan.{digit_of, State, state, between, step, done, or_refused, go_on, scan, only_if}

-- What is read of tokens behind so many open braces: all of them, or the place of the first brace that is one too many.
abbrev pub limited : ℕ → ℕ → List Placed → List Placed → Result (List Placed) ℕ
limited most open_now [] all = Ok all
limited most open_now (placed ∷ more) all =
    if nat_le (depth_behind open_now placed.token) most then limited most (depth_behind open_now placed.token) more all else Err placed.at

-- one byte on
pub scan_step : (most place byte : ℕ) (rest : List ℕ) (s next : State) → step place s byte ≡ Some next
    → open_behind 0 next.placed ≤ most
    → scan most (byte ∷ rest) place s ≡ scan most rest (place + 1) next
scan_step most place byte rest s next moves small =
    ap (go_on most place (scan most rest (place + 1))) moves ∙ cond-true _ _ _ (le-leb _ _ small)

pub scan_from : (most place other : ℕ) (rest : List ℕ) (s : State) → place ≡ other
    → scan most rest place s ≡ scan most rest other s
scan_from most place other rest s same = ap (λ p. scan most rest p s) same

pub blank_step : (byte : ℕ) (below : List Goal) (placed : List Placed) (place : ℕ) → is_blank byte ≡ true
    → between below placed place byte ≡ Some (state Between below placed)
blank_step byte below placed place is =
    elim (or_cases (byte == 32 || byte == 9 || byte == 13) (byte == line_feed) is) [
      | inl some ↦ elim (or_cases (byte == 32 || byte == 9) (byte == 13) some) [
        | inl few ↦ elim (or_cases (byte == 32) (byte == 9) few) [ inl e ↦ at_byte 32 e refl | inr e ↦ at_byte 9 e refl ]
        | inr e ↦ at_byte 13 e refl
      ]
      | inr e ↦ at_byte line_feed e refl
    ]
  where
    at_byte : (blank_byte : ℕ) → (byte == blank_byte) ≡ true
        → between below placed place blank_byte ≡ Some (state Between below placed)
        → between below placed place byte ≡ Some (state Between below placed)
    at_byte blank_byte e known = subst (λ b. between below placed place b ≡ Some (state Between below placed)) (sym (eqb-true byte blank_byte e)) known

-- a comment

comment_step : (byte place : ℕ) (below : List Goal) (placed : List Placed) → is_comment_byte byte ≡ true
    → step place (state Comment below placed) byte ≡ Some (state Comment below placed)
comment_step byte place below placed is =
    let parts = and_parts _ _ is in
    cond-false (byte == line_feed) _ _ (not-true (byte == line_feed) parts.1)
    ∙ ap (λ test. only_if test (state Comment below placed)) is

pub comment_scans : (most : ℕ) (text : List ℕ) (place : ℕ) (rest : List ℕ) (below : List Goal) (placed : List Placed)
    → list_all is_comment_byte text ≡ true
    → open_behind 0 placed ≤ most
    → scan most (text ++ line_feed ∷ rest) place (state Comment below placed) ≡ scan most rest (place + (length text + 1)) (state Between below placed)
comment_scans most [] place rest below placed all small =
    scan_step most place line_feed rest (state Comment below placed) (state Between below placed) refl small
comment_scans most (byte ∷ text) place rest below placed all small =
    let parts = and_parts (is_comment_byte byte) (list_all is_comment_byte text) all in
    scan_step most place byte (text ++ line_feed ∷ rest) (state Comment below placed) (state Comment below placed) (comment_step byte place below placed parts.0) small
    ∙ (comment_scans most text (place + 1) rest below placed parts.1 small
    ∙ scan_from most _ _ rest (state Between below placed) (omega arith))

pub last_comment_scans : (most : ℕ) (text : List ℕ) (place : ℕ) (below : List Goal) (placed all : List Placed)
    → list_all is_comment_byte text ≡ true
    → open_behind 0 placed ≤ most → done below placed ≡ Some all → scan most text place (state Comment below placed) ≡ Ok all
last_comment_scans most [] place below placed all passes small is = ap (or_refused place) is
last_comment_scans most (byte ∷ text) place below placed all passes small is =
    let parts = and_parts (is_comment_byte byte) (list_all is_comment_byte text) passes in
    scan_step most place byte text (state Comment below placed) (state Comment below placed) (comment_step byte place below placed parts.0) small
    ∙ last_comment_scans most text (place + 1) below placed all parts.1 small is

-- a string

digit_back : (value : ℕ) → value < 16 → digit_of (hex_digit value) ≡ Some value
digit_back value small =
    elim (cases_Bool (nat_lt value 10)) [
      | inl e ↦ low e
      | inr n ↦ high n
    ]
  where
    low : (nat_lt value 10) ≡ true → digit_of (hex_digit value) ≡ Some value
    low e =
        let glyph : hex_digit value ≡ 48 + value = cond-true _ _ _ e in
        let less = ltb-true value 10 e in
        let tests : (nat_le 48 (48 + value) && nat_le (48 + value) 57) ≡ true = grind (arith, nat_tests) in
        ap digit_of glyph ∙ (cond-true _ _ _ tests ∙ ap Some (let back : 48 + value - 48 ≡ value = omega arith in back))

    high : (nat_lt value 10) ≡ false → digit_of (hex_digit value) ≡ Some value
    high n =
        let glyph : hex_digit value ≡ 87 + value = cond-false _ _ _ n in
        let least = ltb-false value 10 n in
        let no_low : (nat_le 48 (87 + value) && nat_le (87 + value) 57) ≡ false = grind (arith, nat_tests) in
        let tests : (nat_le 97 (87 + value) && nat_le (87 + value) 102) ≡ true = grind (arith, nat_tests) in
        ap digit_of glyph ∙ (cond-false _ _ _ no_low ∙ (cond-true _ _ _ tests
        ∙ ap Some (let back : 87 + value - 87 ≡ value = omega arith in back)))

plain_step : (byte at place : ℕ) (text : List ℕ) (below : List Goal) (placed : List Placed) → stands_for_itself byte ≡ true
    → step place (state (Inside at text) below placed) byte ≡ Some (state (Inside at (text ++ byte ∷ [])) below placed)
plain_step byte at place text below placed is =
    cond-false (byte == quote_sign) _ _ (no_quote byte is)
    ∙ (cond-false (byte == backslash) _ _ (no_backslash byte is)
    ∙ ap (λ test. only_if test (state (Inside at (text ++ byte ∷ [])) below placed)) is)
  where
    no_quote : (byte : ℕ) → stands_for_itself byte ≡ true → (byte == quote_sign) ≡ false
    no_quote byte is = elim (cases_Bool (byte == quote_sign)) [
      | inl e ↦ absurd (let at_quote : stands_for_itself quote_sign ≡ true = subst (λ b. stands_for_itself b ≡ true) (eqb-true byte quote_sign e) is in true≢false (sym at_quote))
      | inr n ↦ n
    ]

    no_backslash : (byte : ℕ) → stands_for_itself byte ≡ true → (byte == backslash) ≡ false
    no_backslash byte is = elim (cases_Bool (byte == backslash)) [
      | inl e ↦ absurd (let at_sign : stands_for_itself backslash ≡ true = subst (λ b. stands_for_itself b ≡ true) (eqb-true byte backslash e) is in true≢false (sym at_sign))
      | inr n ↦ n
    ]

-- `x` is no short escape
short_step : (letter byte at place : ℕ) (text : List ℕ) (below : List Goal) (placed : List Placed)
    → escaped_byte letter ≡ Some byte
    → step place (state (Escape at text) below placed) letter ≡ Some (state (Inside at (text ++ byte ∷ [])) below placed)
short_step letter byte at place text below placed is =
    cond-false (letter == 120) _ _ (no_x letter byte is)
    ∙ ap (option_map (λ meant. state (Inside at (text ++ meant ∷ [])) below placed)) is
  where
    no_x : (letter byte : ℕ) → escaped_byte letter ≡ Some byte → (letter == 120) ≡ false
    no_x letter byte is = elim (cases_Bool (letter == 120)) [
      | inl e ↦ absurd (let at_x : escaped_byte 120 ≡ Some byte = subst (λ b. escaped_byte b ≡ Some byte) (eqb-true letter 120 e) is in cc)
      | inr n ↦ n
    ]

pub text_scans : (most at : ℕ) {bytes meant : List ℕ} → IsQuoted bytes meant
    → (text : List ℕ) (place : ℕ) (rest : List ℕ) (below : List Goal) (placed : List Placed)
    → open_behind 0 placed ≤ most
    → scan most (bytes ++ rest) place (state (Inside at text) below placed) ≡ scan most rest (place + length bytes) (state (Inside at (text ++ meant)) below placed)
text_scans most at nothing text place rest below placed small =
    ap (λ t. scan most rest place (state (Inside at t) below placed)) (sym (append-nil text))
    ∙ scan_from most _ _ rest (state (Inside at (text ++ [])) below placed) (omega arith)
text_scans most at (plain {byte} {bytes} {text = meant} is later) text place rest below placed small =
    scan_step most place byte (bytes ++ rest) (state (Inside at text) below placed) (state (Inside at (text ++ byte ∷ [])) below placed)
    (plain_step byte at place text below placed is) small
    ∙ (text_scans most at later (text ++ byte ∷ []) (place + 1) rest below placed small
    ∙ (ap (λ t. scan most rest (place + 1 + length bytes) (state (Inside at t) below placed)) (append_assoc text (byte ∷ []) meant)
    ∙ scan_from most _ _ rest (state (Inside at (text ++ byte ∷ meant)) below placed) (omega arith)))
text_scans most at (escape {letter} {byte} {bytes} {text = meant} is later) text place rest below placed small =
    scan_step most place backslash (letter ∷ (bytes ++ rest)) (state (Inside at text) below placed) (state (Escape at text) below placed) refl small
    ∙ (scan_step most (place + 1) letter (bytes ++ rest) (state (Escape at text) below placed) (state (Inside at (text ++ byte ∷ [])) below placed)
    (short_step letter byte at (place + 1) text below placed is) small
    ∙ (text_scans most at later (text ++ byte ∷ []) (place + 1 + 1) rest below placed small
    ∙ (ap (λ t. scan most rest (place + 1 + 1 + length bytes) (state (Inside at t) below placed)) (append_assoc text (byte ∷ []) meant)
    ∙ scan_from most _ _ rest (state (Inside at (text ++ byte ∷ meant)) below placed) (omega arith))))
text_scans most at (hexadecimal {high} {low} {bytes} {text =
    meant} small_high small_low later) text place rest below placed small =
    let byte = 16 * high + low in
    scan_step most place backslash (120 ∷ hex_digit high ∷ hex_digit low ∷ (bytes ++ rest)) (state (Inside at text) below placed) (state (Escape at text) below placed) refl small
    ∙ (scan_step most (place + 1) 120 (hex_digit high ∷ hex_digit low ∷ (bytes ++ rest)) (state (Escape at text) below placed) (state (FirstDigit at text) below placed) refl small
    ∙ (scan_step most (place + 1 + 1) (hex_digit high) (hex_digit low ∷ (bytes ++ rest)) (state (FirstDigit at text) below placed) (state (SecondDigit at text high) below placed)
    (ap (option_map (λ h. state (SecondDigit at text h) below placed)) (digit_back high small_high)) small
    ∙ (scan_step most (place + 1 + 1 + 1) (hex_digit low) (bytes ++ rest) (state (SecondDigit at text high) below placed) (state (Inside at (text ++ byte ∷ [])) below placed)
    (ap (option_map (λ l. state (Inside at (text ++ (16 * high + l) ∷ [])) below placed)) (digit_back low small_low)) small
    ∙ (text_scans most at later (text ++ byte ∷ []) (place + 1 + 1 + 1 + 1) rest below placed small
    ∙ (ap (λ t. scan most rest (place + 1 + 1 + 1 + 1 + length bytes) (state (Inside at t) below placed)) (append_assoc text (byte ∷ []) meant)
    ∙ scan_from most _ _ rest (state (Inside at (text ++ byte ∷ meant)) below placed) (omega arith))))))
