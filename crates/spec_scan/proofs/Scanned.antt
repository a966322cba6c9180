-- Bytes that spell tokens which leave no goal are read as these tokens, up to the first brace that is one too many.
use Rattle.std.proofs.Common.{◌≡◌, ℕ, ◌+◌, ◌<◌, ◌≤◌, Bool, true, false, not, ◌==◌, nat_le, List, [], ◌∷◌, ◌++◌, length, Option, Some, option_map, option_and_then, is_some, refl, sym, ap, ◌∙◌, subst, inl, inr, arith, append-nil, append_assoc}
use Rattle.std.specs.List.{list_all}
use Rattle.std.proofs.lemmas.Bool.{and_parts, or_left, or_right, not-true, leb-true, le-leb, cases_Bool, cond-true, cond-false}
use Rattle.spec_model.specs.declared.token.Keyword.{Keyword}
use Rattle.spec_model.specs.declared.token.Keyword.TheVariants as words
use Rattle.spec_model.specs.declared.token.Placed.{Placed}
use Rattle.spec_model.specs.declared.token.Punctuation.{Punctuation}
use Rattle.spec_model.specs.declared.token.Punctuation.TheVariants as signs
use Rattle.spec_model.specs.declared.token.Token.{Token}
use Rattle.spec_model.specs.declared.token.Token.TheVariants as tokens
use Rattle.spec_model.specs.Canonical.{keyword_text, sign_text, depth_behind}
use Rattle.spec_model.specs.Message.{line_feed}
use Rattle.spec_model.specs.Pattern.{is_digit}
use Rattle.spec_model.specs.Quote.{quote_sign}
use Rattle.spec_model.specs.Spelling.{Spelled, end, blank, comment, last_comment, run, string, sign, IsRun, number, keyword, name, IsQuoted, comment_sign, is_run_byte, is_whole, begins_with, open_behind}
use Rattle.spec_scan.specs.declared.goal.Class.TheVariants as classes
use Rattle.spec_scan.specs.declared.goal.Goal.{Goal}
use Rattle.spec_scan.specs.declared.part.Part.TheVariants.{Between, Comment, Run, Inside, Equal, Bang}
use Rattle.spec_scan.specs.Scan.{token_of_run, opens, state, take_token, take_run, behind, step, done, done_state, or_refused, go_on, scan, only_if}
use Rattle.spec_scan.specs.Table.{class_of, shift, shifts, takes}
use Rattle.spec_scan.proofs.Ahead.{keyword_is_long}
use Rattle.spec_scan.proofs.Back.{shifted_on}
use Rattle.spec_scan.proofs.Depths.{open_behind_push}
use Rattle.spec_scan.proofs.Forth.{limited, scan_step, scan_from, blank_step, comment_scans, last_comment_scans, text_scans}
use Rattle.spec_scan.proofs.Goes.{token_at}
use Rattle.spec_scan.proofs.OpenRuns.{run_opens}
use Rattle.spec_scan.proofs.RunTokens.{token_of}

all_imply : (p q : ℕ → Bool) → ((byte : ℕ) → p byte ≡ true → q byte ≡ true) → (bytes : List ℕ) → list_all p bytes ≡ true
    → list_all q bytes ≡ true
all_imply p q implies [] all = refl
all_imply p q implies (byte ∷ bytes) all =
    let parts = and_parts (p byte) (list_all p bytes) all in rw (implies byte parts.0) (all_imply p q implies bytes parts.1)

keyword_bytes : (word : Keyword) → list_all is_run_byte (keyword_text word) ≡ true
keyword_bytes words.Frame = refl
keyword_bytes _ = refl

run_bytes : {run : List ℕ} {token : Token} → IsRun run token → list_all is_run_byte run ≡ true
run_bytes (number {run} is) =
    let digits = and_parts _ _ (and_parts _ _ (and_parts _ _ is).0).0 in
    all_imply is_digit is_run_byte (λ byte e. or_left _ _ (or_left _ _ (or_left _ _ e))) run digits.1
run_bytes (keyword word) = keyword_bytes word
run_bytes (name is other) = (and_parts _ _ (and_parts _ _ is).0).1

not_empty : (run : List ℕ) → 0 < length run → (byte : ℕ) × (more : List ℕ) × (run ≡ byte ∷ more)
not_empty [] long = absurd (omega arith)
not_empty (byte ∷ more) long = (byte, more, refl)

begins_long : (test : ℕ → Bool) (run : List ℕ) → begins_with test run ≡ true → 0 < length run
begins_long test [] is = absurd cc
begins_long test (byte ∷ bytes) is = omega arith

pub run_long : {run : List ℕ} {token : Token} → IsRun run token → 0 < length run
run_long (number {run} is) = begins_long is_digit run (and_parts _ _ (and_parts _ _ (and_parts _ _ is).0).0).0
run_long (keyword word) = omega (arith, keyword_is_long word)
run_long (name {run} is other) = begins_long (λ byte. not (is_digit byte)) run (and_parts _ _ (and_parts _ _ is).0).0

run_depth : {run : List ℕ} {token : Token} → IsRun run token → (open_now : ℕ) → depth_behind open_now token ≡ open_now
run_depth (number is) open_now = refl
run_depth (keyword mark) open_now = refl
run_depth (name is other) open_now = refl

takes_it : (found : Option (List Goal)) {after : List Goal} → found ≡ Some after → is_some found ≡ true
takes_it found is = rw is refl

take_token_is : (below after : List Goal) (placed : List Placed) (at : ℕ) (token : Token)
    → shift below (class_of token) ≡ Some after
    → take_token below placed at token ≡ Some (state Between after (placed ++ token_at at token ∷ []))
take_token_is below after placed at token moves =
    ap (option_map (λ goals. state Between goals (placed ++ token_at at token ∷ []))) moves

-- what is left of a run
run_scans : (most at : ℕ) {run : List ℕ} {token : Token} → IsRun run token
    → (byte : ℕ) (front more : List ℕ) (place : ℕ) (rest : List ℕ) (below : List Goal) (placed : List Placed)
    → run ≡ byte ∷ (front ++ more) → list_all is_run_byte more ≡ true → takes below (class_of token) ≡ true
    → open_behind 0 placed ≤ most
    → scan most (more ++ rest) place (state (Run at (byte ∷ front)) below placed) ≡ scan most rest (place + length more) (state (Run at run) below placed)
run_scans most at {run} is byte front [] place rest below placed same all taken small =
    let whole : byte ∷ front ≡ run = ap (λ f. byte ∷ f) (sym (append-nil front)) ∙ sym same in
    ap (λ r. scan most rest place (state (Run at r) below placed)) whole
    ∙ scan_from most _ _ rest (state (Run at run) below placed) (omega arith)
run_scans most at {run} {token} is byte front (next ∷ more) place rest below placed same all taken small =
    let parts = and_parts (is_run_byte next) (list_all is_run_byte more) all in
    let split : run ≡ byte ∷ ((front ++ next ∷ []) ++ more) = same
    ∙ ap (λ r. byte ∷ r) (sym (append_assoc front (next ∷ []) more)) in
    let opened : opens below (byte ∷ (front ++ next ∷ [])) ≡ true = run_opens below is byte (front ++ next ∷ []) more split taken in
    let moves : step place (state (Run at (byte ∷ front)) below placed) next ≡ Some (state (Run at (byte ∷ (front ++ next ∷ []))) below placed) =
    cond-true (is_run_byte next) _ _ parts.0
    ∙ ap (λ test. only_if test (state (Run at (byte ∷ (front ++ next ∷ []))) below placed)) opened in
    scan_step most place next (more ++ rest) (state (Run at (byte ∷ front)) below placed) (state (Run at (byte ∷ (front ++ next ∷ []))) below placed) moves small
    ∙ (run_scans most at is byte (front ++ next ∷ []) more (place + 1) rest below placed split parts.1 taken small
    ∙ scan_from most _ _ rest (state (Run at run) below placed) (omega arith))

run_ended : (most at : ℕ) (whole : List ℕ) (token : Token) (rest : List ℕ) (place : ℕ) (below after : List Goal) (placed : List Placed) → token_of_run whole ≡ Some token
    → shift below (class_of token) ≡ Some after → begins_with is_run_byte rest ≡ false
    → scan most rest place (state (Run at whole) below placed) ≡ scan most rest place (state Between after (placed ++ token_at at token ∷ []))
run_ended most at whole token [] place below after placed is moves apart =
    let taken : take_run below placed at whole ≡ Some (state Between after (placed ++ token_at at token ∷ [])) =
    ap (option_and_then (take_token below placed at)) is ∙ take_token_is below after placed at token moves in
    ap (λ found. or_refused place (option_and_then done_state found)) taken
run_ended most at whole token (byte ∷ rest) place below after placed is moves apart =
    let taken : take_run below placed at whole ≡ Some (state Between after (placed ++ token_at at token ∷ [])) =
    ap (option_and_then (take_token below placed at)) is ∙ take_token_is below after placed at token moves in
    ap (go_on most place (scan most rest (place + 1))) (cond-false (is_run_byte byte) _ _ apart
    ∙ ap (option_and_then (behind place byte)) taken)

equal_ended : (most at : ℕ) (rest : List ℕ) (place : ℕ) (below after : List Goal) (placed : List Placed)
    → shift below (classes.Sign signs.Becomes) ≡ Some after
    → begins_with (λ byte. byte == 61) rest ≡ false
    → scan most rest place (state (Equal at) below placed) ≡ scan most rest place (state Between after (placed ++ token_at at (tokens.Sign signs.Becomes) ∷ []))
equal_ended most at [] place below after placed moves apart =
    ap (λ found. or_refused place (option_and_then done_state found)) (take_token_is below after placed at (tokens.Sign signs.Becomes) moves)
equal_ended most at (byte ∷ rest) place below after placed moves apart =
    ap (go_on most place (scan most rest (place + 1)))
    (cond-false (byte == 61) _ _ apart
    ∙ ap (option_and_then (behind place byte)) (take_token_is below after placed at (tokens.Sign signs.Becomes) moves))

-- the tokens behind a token that is within the limit
counted : (most : ℕ) (placed : List Placed) (t : Placed) (ts : List Placed) → depth_behind (open_behind 0 placed) t.token ≤ most
    → limited most (open_behind 0 (placed ++ t ∷ [])) ts ((placed ++ t ∷ []) ++ ts) ≡ limited most (open_behind 0 placed) (t ∷ ts) (placed ++ t ∷ ts)
counted most placed t ts small =
    ap (λ n. limited most n ts ((placed ++ t ∷ []) ++ ts)) (open_behind_push 0 placed t)
    ∙ (ap (limited most (depth_behind (open_behind 0 placed) t.token) ts) (append_assoc placed (t ∷ []) ts)
    ∙ sym (cond-true _ _ _ (le-leb _ _ small)))

-- What is to be shown of the bytes behind tokens.
abbrev IsRead : ℕ → ℕ → List ℕ → List Placed → Type 0
IsRead most place bytes ts = (below : List Goal) (placed : List Placed) → shifts ts below ≡ Some [] → open_behind 0 placed ≤ most
    → scan most bytes place (state Between below placed) ≡ limited most (open_behind 0 placed) ts (placed ++ ts)

-- the same behind one token that opens no brace
read_behind : (most place : ℕ) (rest : List ℕ) (t : Placed) (ts : List Placed) (after : List Goal) (placed : List Placed)
    → IsRead most place rest ts
    → shifts ts after ≡ Some [] → depth_behind (open_behind 0 placed) t.token ≤ most
    → scan most rest place (state Between after (placed ++ t ∷ [])) ≡ limited most (open_behind 0 placed) (t ∷ ts) (placed ++ t ∷ ts)
read_behind most place rest t ts after placed known runs small =
    known after (placed ++ t ∷ []) runs (rw (open_behind_push 0 placed t) small) ∙ counted most placed t ts small

-- a token whose last byte is this one
byte_read : (most place byte : ℕ) (rest : List ℕ) (token : Token) (ts : List Placed) (below after : List Goal) (placed : List Placed)
    → step place (state Between below placed) byte ≡ Some (state Between after (placed ++ token_at place token ∷ []))
    → IsRead most (place + 1) rest ts
    → shifts ts after ≡ Some []
    → scan most (byte ∷ rest) place (state Between below placed) ≡ limited most (open_behind 0 placed) (token_at place token ∷ ts) (placed ++ token_at place token ∷ ts)
byte_read most place byte rest token ts below after placed moves known runs =
    let t = token_at place token in
    let pushed : open_behind 0 (placed ++ t ∷ []) ≡ depth_behind (open_behind 0 placed) token = open_behind_push 0 placed t in
    elim (cases_Bool (nat_le (depth_behind (open_behind 0 placed) token) most)) [
      | inl e ↦ (
          let small : depth_behind (open_behind 0 placed) token ≤ most = leb-true _ _ e in
          scan_step most place byte rest (state Between below placed) (state Between after (placed ++ t ∷ [])) moves (rw pushed small)
          ∙ read_behind most (place + 1) rest t ts after placed known runs small)
      | inr n ↦ ap (go_on most place (scan most rest (place + 1))) moves ∙ (cond-false _ _ _ (ap (λ d. nat_le d most) pushed ∙ n)
          ∙ sym (cond-false _ _ _ n))
    ]

run_read : (most place : ℕ) (bytes : List ℕ) (token : Token) (rest : List ℕ) (ts : List Placed) → IsRun bytes token
    → begins_with is_run_byte rest ≡ false
    → IsRead most (place + length bytes) rest ts → IsRead most place (bytes ++ rest) (token_at place token ∷ ts)
run_read most place bytes token rest ts is apart known below placed runs small =
    let shifted = shifted_on (shift below (class_of token)) ts runs in
    let taken : takes below (class_of token) ≡ true = takes_it (shift below (class_of token)) shifted.1 in
    let cut = not_empty bytes (run_long is) in
    let all : list_all is_run_byte (cut.0 ∷ cut.1) ≡ true = subst (λ r. list_all is_run_byte r ≡ true) cut.2 (run_bytes is) in
    let parts = and_parts (is_run_byte cut.0) (list_all is_run_byte cut.1) all in
    let opened : opens below (cut.0 ∷ []) ≡ true = run_opens below is cut.0 [] cut.1 cut.2 taken in
    let moves : step place (state Between below placed) cut.0 ≡ Some (state (Run place (cut.0 ∷ [])) below placed) =
    cond-true (is_run_byte cut.0) _ _ parts.0 ∙ ap (λ test. only_if test (state (Run place (cut.0 ∷ [])) below placed)) opened in
    ap (λ r. scan most (r ++ rest) place (state Between below placed)) cut.2
    ∙ (scan_step most place cut.0 (cut.1 ++ rest) (state Between below placed) (state (Run place (cut.0 ∷ [])) below placed) moves small
    ∙ (run_scans most place is cut.0 [] cut.1 (place + 1) rest below placed cut.2 parts.1 taken small
    ∙ (run_ended most place bytes token rest (place + 1 + length cut.1) below shifted.0 placed (token_of is) shifted.1 apart
    ∙ (scan_from most _ _ rest (state Between shifted.0 (placed ++ token_at place token ∷ [])) (let long = ap length cut.2 in omega arith)
    ∙ read_behind most (place + length bytes) rest (token_at place token) ts shifted.0 placed known shifted.2 (rw (run_depth is (open_behind 0 placed)) small)))))

-- the bytes of a sign
sign_read : (most place : ℕ) (mark : Punctuation) (rest : List ℕ) (ts : List Placed) → is_whole mark rest ≡ true
    → IsRead most (place + length (sign_text mark)) rest ts
    → IsRead most place (sign_text mark ++ rest) (token_at place (tokens.Sign mark) ∷ ts)
sign_read most place signs.Becomes rest ts whole known below placed runs small =
    let token = tokens.Sign signs.Becomes in
    let shifted = shifted_on (shift below (class_of token)) ts runs in
    let taken : takes below (class_of token) ≡ true = takes_it (shift below (class_of token)) shifted.1 in
    scan_step most place 61 rest (state Between below placed) (state (Equal place) below placed)
    (ap (λ test. only_if test (state (Equal place) below placed)) (or_left _ (takes below (classes.Sign signs.Same)) taken)) small
    ∙ (equal_ended most place rest (place + 1) below shifted.0 placed shifted.1 (not-true _ whole)
    ∙ read_behind most (place + 1) rest (token_at place token) ts shifted.0 placed known shifted.2 small)
sign_read most place signs.Same rest ts whole known below placed runs small =
    let token = tokens.Sign signs.Same in
    let shifted = shifted_on (shift below (class_of token)) ts runs in
    let taken : takes below (class_of token) ≡ true = takes_it (shift below (class_of token)) shifted.1 in
    scan_step most place 61 (61 ∷ rest) (state Between below placed) (state (Equal place) below placed)
    (ap (λ test. only_if test (state (Equal place) below placed)) (or_right (takes below (classes.Sign signs.Becomes)) _ taken)) small
    ∙ (scan_step most (place + 1) 61 rest (state (Equal place) below placed) (state Between shifted.0 (placed ++ token_at place token ∷ []))
    (take_token_is below shifted.0 placed place token shifted.1) (rw (open_behind_push 0 placed (token_at place token)) small)
    ∙ (scan_from most _ _ rest (state Between shifted.0 (placed ++ token_at place token ∷ [])) (omega arith)
    ∙ read_behind most (place + 2) rest (token_at place token) ts shifted.0 placed known shifted.2 small))
sign_read most place signs.Other rest ts whole known below placed runs small =
    let token = tokens.Sign signs.Other in
    let shifted = shifted_on (shift below (class_of token)) ts runs in
    let taken : takes below (class_of token) ≡ true = takes_it (shift below (class_of token)) shifted.1 in
    scan_step most place 33 (61 ∷ rest) (state Between below placed) (state (Bang place) below placed)
    (ap (λ test. only_if test (state (Bang place) below placed)) taken) small
    ∙ (scan_step most (place + 1) 61 rest (state (Bang place) below placed) (state Between shifted.0 (placed ++ token_at place token ∷ []))
    (take_token_is below shifted.0 placed place token shifted.1) (rw (open_behind_push 0 placed (token_at place token)) small)
    ∙ (scan_from most _ _ rest (state Between shifted.0 (placed ++ token_at place token ∷ [])) (omega arith)
    ∙ read_behind most (place + 2) rest (token_at place token) ts shifted.0 placed known shifted.2 small))
sign_read most place signs.Open rest ts whole known below placed runs small =
    let token = tokens.Sign signs.Open in
    let shifted = shifted_on (shift below (class_of token)) ts runs in
    byte_read most place 123 rest token ts below shifted.0 placed (take_token_is below shifted.0 placed place token shifted.1) known shifted.2
sign_read most place signs.Close rest ts whole known below placed runs small =
    let token = tokens.Sign signs.Close in
    let shifted = shifted_on (shift below (class_of token)) ts runs in
    byte_read most place 125 rest token ts below shifted.0 placed (take_token_is below shifted.0 placed place token shifted.1) known shifted.2
sign_read most place signs.Colon rest ts whole known below placed runs small =
    let token = tokens.Sign signs.Colon in
    let shifted = shifted_on (shift below (class_of token)) ts runs in
    byte_read most place 58 rest token ts below shifted.0 placed (take_token_is below shifted.0 placed place token shifted.1) known shifted.2
sign_read most place signs.Less rest ts whole known below placed runs small =
    let token = tokens.Sign signs.Less in
    let shifted = shifted_on (shift below (class_of token)) ts runs in
    byte_read most place 60 rest token ts below shifted.0 placed (take_token_is below shifted.0 placed place token shifted.1) known shifted.2
sign_read most place signs.Plus rest ts whole known below placed runs small =
    let token = tokens.Sign signs.Plus in
    let shifted = shifted_on (shift below (class_of token)) ts runs in
    byte_read most place 43 rest token ts below shifted.0 placed (take_token_is below shifted.0 placed place token shifted.1) known shifted.2
sign_read most place signs.Minus rest ts whole known below placed runs small =
    let token = tokens.Sign signs.Minus in
    let shifted = shifted_on (shift below (class_of token)) ts runs in
    byte_read most place 45 rest token ts below shifted.0 placed (take_token_is below shifted.0 placed place token shifted.1) known shifted.2

text_read : (most place : ℕ) (bytes text rest : List ℕ) (ts : List Placed) → IsQuoted bytes text
    → IsRead most (place + (length bytes + 2)) rest ts
    → IsRead most place (quote_sign ∷ (bytes ++ quote_sign ∷ rest)) (token_at place (tokens.Text text) ∷ ts)
text_read most place bytes text rest ts is known below placed runs small =
    let token = tokens.Text text in
    let shifted = shifted_on (shift below (class_of token)) ts runs in
    let taken : takes below classes.Text ≡ true = takes_it (shift below classes.Text) shifted.1 in
    scan_step most place quote_sign (bytes ++ quote_sign ∷ rest) (state Between below placed) (state (Inside place []) below placed)
    (ap (λ test. only_if test (state (Inside place []) below placed)) taken) small
    ∙ (text_scans most place is [] (place + 1) (quote_sign ∷ rest) below placed small
    ∙ (scan_step most (place + 1 + length bytes) quote_sign rest (state (Inside place text) below placed) (state Between shifted.0 (placed ++ token_at place token ∷ []))
    (take_token_is below shifted.0 placed place token shifted.1) (rw (open_behind_push 0 placed (token_at place token)) small)
    ∙ (scan_from most _ _ rest (state Between shifted.0 (placed ++ token_at place token ∷ [])) (omega arith)
    ∙ read_behind most (place + (length bytes + 2)) rest (token_at place token) ts shifted.0 placed known shifted.2 small)))

no_goal_left : (below : List Goal) (placed : List Placed) → Some below ≡ Some [] → done below placed ≡ Some (placed ++ [])
no_goal_left below placed runs =
    let none : below ≡ [] = cc in ap (λ goals. done goals placed) none ∙ ap Some (sym (append-nil placed))

pub spelled_scans : (most : ℕ) {place : ℕ} {bytes : List ℕ} {ts : List Placed} → Spelled place bytes ts
    → IsRead most place bytes ts
spelled_scans most {place} end below placed runs small = ap (or_refused place) (no_goal_left below placed runs)
spelled_scans most {place} (blank {byte = byte} {rest} is later) below placed runs small =
    scan_step most place byte rest (state Between below placed) (state Between below placed) (blank_step byte below placed place is) small
    ∙ spelled_scans most later below placed runs small
spelled_scans most {place} (comment {rest = rest} text all later) below placed runs small =
    scan_step most place comment_sign (text ++ line_feed ∷ rest) (state Between below placed) (state Comment below placed) refl small
    ∙ (comment_scans most text (place + 1) rest below placed all small
    ∙ (scan_from most _ _ rest (state Between below placed) (omega arith) ∙ spelled_scans most later below placed runs small))
spelled_scans most {place} (last_comment {words = text} all) below placed runs small =
    scan_step most place comment_sign text (state Between below placed) (state Comment below placed) refl small
    ∙ last_comment_scans most text (place + 1) below placed (placed ++ []) all small (no_goal_left below placed runs)
spelled_scans most {place} (run {token = token} {rest} {more} bytes is apart later) below placed runs small =
    run_read most place bytes token rest more is apart (spelled_scans most later) below placed runs small
spelled_scans most {place} (string {text = text} {rest} {more} bytes is later) below placed runs small =
    text_read most place bytes text rest more is (spelled_scans most later) below placed runs small
spelled_scans most {place} (sign {rest = rest} {more} mark whole later) below placed runs small =
    sign_read most place mark rest more whole (spelled_scans most later) below placed runs small
