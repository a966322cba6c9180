-- How texts go on behind a part of a token: what is left of the token, and then tokens.
use Rattle.std.proofs.Common.{◌≡◌, ℕ, ◌+◌, ◌*◌, ◌<◌, true, false, List, [], ◌∷◌, ◌++◌, length, Some, refl, sym, ap, ◌∙◌, subst, arith, append_assoc, append-nil, length-append}
use Rattle.std.specs.List.{list_all}
use Rattle.spec_model.specs.declared.token.Placed.{Placed}
use Rattle.spec_model.specs.declared.token.Punctuation.TheVariants as signs
use Rattle.spec_model.specs.declared.token.Token.{Token}
use Rattle.spec_model.specs.declared.token.Token.TheVariants as tokens
use Rattle.spec_model.specs.Message.{line_feed}
use Rattle.spec_model.specs.Quote.{quote_sign, backslash, hex_digit}
use Rattle.spec_model.specs.Spelling.{Spelled, comment, last_comment, run, string, sign, IsRun, IsQuoted, nothing, plain, escape, hexadecimal, comment_sign, is_comment_byte, is_run_byte, is_whole, begins_with, stands_for_itself, escaped_byte}
use Rattle.spec_scan.specs.declared.part.Part.{Part}
use Rattle.spec_scan.specs.declared.part.Part.TheVariants.{Between, Comment, Run, Inside, Escape, FirstDigit, SecondDigit, Equal, Bang}

-- a token and its place
abbrev pub token_at : ℕ → Token → Placed
token_at at token = record { at = at; token = token }

-- behind a front of a run
pub record InRun (at : ℕ) (front : List ℕ) (place : ℕ) (bytes : List ℕ) (ts : List Placed) : Type 0 where
  pub more : List ℕ
  pub token : Token
  pub rest : List ℕ
  pub later : List Placed
  pub split : bytes ≡ more ++ rest
  pub is : IsRun (front ++ more) token
  pub apart : begins_with is_run_byte rest ≡ false
  pub spelled : Spelled (place + length more) rest later
  pub placed : ts ≡ token_at at token ∷ later

-- in a string
pub record InText (at : ℕ) (text : List ℕ) (place : ℕ) (bytes : List ℕ) (ts : List Placed) : Type 0 where
  pub quoted : List ℕ
  pub meant : List ℕ
  pub rest : List ℕ
  pub later : List Placed
  pub split : bytes ≡ quoted ++ quote_sign ∷ rest
  pub is : IsQuoted quoted meant
  pub spelled : Spelled (place + (length quoted + 1)) rest later
  pub placed : ts ≡ token_at at (tokens.Text (text ++ meant)) ∷ later

pub data InSecond (at : ℕ) (text : List ℕ) (high place : ℕ) : List ℕ → List Placed → Type 0 where
  low_digit : {low : ℕ} {bytes : List ℕ} {ts : List Placed} → low < 16
      → InText at (text ++ (16 * high + low) ∷ []) (place + 1) bytes ts
      → InSecond at text high place (hex_digit low ∷ bytes) ts

pub data InFirst (at : ℕ) (text : List ℕ) (place : ℕ) : List ℕ → List Placed → Type 0 where
  high_digit : {high : ℕ} {bytes : List ℕ} {ts : List Placed} → high < 16 → InSecond at text high (place + 1) bytes ts
      → InFirst at text place (hex_digit high ∷ bytes) ts

-- behind a `\`
pub data InEscape (at : ℕ) (text : List ℕ) (place : ℕ) : List ℕ → List Placed → Type 0 where
  short : {letter byte : ℕ} {bytes : List ℕ} {ts : List Placed} → escaped_byte letter ≡ Some byte
      → InText at (text ++ byte ∷ []) (place + 1) bytes ts
      → InEscape at text place (letter ∷ bytes) ts
  long : {bytes : List ℕ} {ts : List Placed} → InFirst at text (place + 1) bytes ts → InEscape at text place (120 ∷ bytes) ts

pub data InComment (place : ℕ) : List ℕ → List Placed → Type 0 where
  to_line_end : {rest : List ℕ} {ts : List Placed} (words : List ℕ) → list_all is_comment_byte words ≡ true
      → Spelled (place + (length words + 1)) rest ts
      → InComment place (words ++ line_feed ∷ rest) ts
  to_text_end : {words : List ℕ} → list_all is_comment_byte words ≡ true → InComment place words []

-- behind a `=`
pub data InEqual (at place : ℕ) : List ℕ → List Placed → Type 0 where
  doubled : {rest : List ℕ} {ts : List Placed} → Spelled (place + 1) rest ts
      → InEqual at place (61 ∷ rest) (token_at at (tokens.Sign signs.Same) ∷ ts)
  alone : {rest : List ℕ} {ts : List Placed} → is_whole signs.Becomes rest ≡ true → Spelled place rest ts
      → InEqual at place rest (token_at at (tokens.Sign signs.Becomes) ∷ ts)

-- behind a `!`
pub data InBang (at place : ℕ) : List ℕ → List Placed → Type 0 where
  unequal : {rest : List ℕ} {ts : List Placed} → Spelled (place + 1) rest ts
      → InBang at place (61 ∷ rest) (token_at at (tokens.Sign signs.Other) ∷ ts)

-- The bytes from a place on end the part, and then spell; the tokens are that of the part, and those.
abbrev pub Goes : Part → ℕ → List ℕ → List Placed → Type 0
Goes Between place bytes ts = Spelled place bytes ts
Goes Comment place bytes ts = InComment place bytes ts
Goes (Run at front) place bytes ts = InRun at front place bytes ts
Goes (Inside at text) place bytes ts = InText at text place bytes ts
Goes (Escape at text) place bytes ts = InEscape at text place bytes ts
Goes (FirstDigit at text) place bytes ts = InFirst at text place bytes ts
Goes (SecondDigit at text high) place bytes ts = InSecond at text high place bytes ts
Goes (Equal at) place bytes ts = InEqual at place bytes ts
Goes (Bang at) place bytes ts = InBang at place bytes ts

pub moved_to : {place other : ℕ} {bytes : List ℕ} {ts : List Placed} → place ≡ other → Spelled place bytes ts
    → Spelled other bytes ts
moved_to {bytes = bytes} {ts = ts} same spelled = subst (λ p. Spelled p bytes ts) same spelled

-- what a part began with

pub run_begun : {place byte : ℕ} {bytes : List ℕ} {ts : List Placed} → InRun place (byte ∷ []) (place + 1) bytes ts
    → Spelled place (byte ∷ bytes) ts
run_begun {place} {byte} {bytes} {ts} r =
    let whole : Spelled place ((byte ∷ r.more) ++ r.rest) (token_at place r.token ∷ r.later) = run (byte ∷ r.more) r.is r.apart (moved_to (omega arith) r.spelled) in
    subst (λ found. Spelled place (byte ∷ bytes) found) (sym r.placed) (subst (λ rest. Spelled place (byte ∷ rest) (token_at place r.token ∷ r.later)) (sym r.split) whole)

pub text_begun : {place : ℕ} {bytes : List ℕ} {ts : List Placed} → InText place [] (place + 1) bytes ts
    → Spelled place (quote_sign ∷ bytes) ts
text_begun {place} {bytes} {ts} r =
    let whole : Spelled place (quote_sign ∷ (r.quoted ++ quote_sign ∷ r.rest)) (token_at place (tokens.Text r.meant) ∷ r.later) =
    string r.quoted r.is (moved_to (omega arith) r.spelled) in
    subst (λ found. Spelled place (quote_sign ∷ bytes) found) (sym r.placed)
    (subst (λ rest. Spelled place (quote_sign ∷ rest) (token_at place (tokens.Text r.meant) ∷ r.later)) (sym r.split) whole)

pub comment_begun : {place : ℕ} {bytes : List ℕ} {ts : List Placed} → InComment (place + 1) bytes ts
    → Spelled place (comment_sign ∷ bytes) ts
comment_begun (to_line_end words all spelled) = comment words all (moved_to (omega arith) spelled)
comment_begun (to_text_end all) = last_comment all

pub equal_begun : {place : ℕ} {bytes : List ℕ} {ts : List Placed} → InEqual place (place + 1) bytes ts
    → Spelled place (61 ∷ bytes) ts
equal_begun (doubled spelled) = sign signs.Same refl (moved_to (omega arith) spelled)
equal_begun (alone whole spelled) = sign signs.Becomes whole spelled

pub bang_begun : {place : ℕ} {bytes : List ℕ} {ts : List Placed} → InBang place (place + 1) bytes ts
    → Spelled place (33 ∷ bytes) ts
bang_begun (unequal spelled) = sign signs.Other refl (moved_to (omega arith) spelled)

-- one byte more

pub run_before : {at place byte : ℕ} {front bytes : List ℕ} {ts : List Placed}
    → InRun at (front ++ byte ∷ []) (place + 1) bytes ts
    → InRun at front place (byte ∷ bytes) ts
run_before {at} {place} {byte} {front} {bytes} r = record {
  more = byte ∷ r.more;
  token = r.token;
  rest = r.rest;
  later = r.later;
  split = ap (λ rest. byte ∷ rest) r.split;
  is = subst (λ whole. IsRun whole r.token) (append_assoc front (byte ∷ []) r.more) r.is;
  apart = r.apart;
  spelled = moved_to (omega arith) r.spelled;
  placed = r.placed;
}

pub comment_before : {place byte : ℕ} {bytes : List ℕ} {ts : List Placed} → is_comment_byte byte ≡ true
    → InComment (place + 1) bytes ts → InComment place (byte ∷ bytes) ts
comment_before {byte =
    byte} is (to_line_end words all spelled) = to_line_end (byte ∷ words) (rw (is, all) refl) (moved_to (omega arith) spelled)
comment_before is (to_text_end all) = to_text_end (rw (is, all) refl)

-- a string goes on behind bytes that mean bytes
text_behind : {at place : ℕ} {text bytes : List ℕ} {ts : List Placed} (written means : List ℕ)
    → ((more meant : List ℕ) → IsQuoted more meant → IsQuoted (written ++ more) (means ++ meant))
    → InText at (text ++ means) (place + length written) bytes ts → InText at text place (written ++ bytes) ts
text_behind {at} {place} {text} {bytes} written means quotes r = record {
  quoted = written ++ r.quoted;
  meant = means ++ r.meant;
  rest = r.rest;
  later = r.later;
  split = ap (λ rest. written ++ rest) r.split ∙ sym (append_assoc written r.quoted (quote_sign ∷ r.rest));
  is = quotes r.quoted r.meant r.is;
  spelled = moved_to (lengths written r.quoted place) r.spelled;
  placed = r.placed ∙ ap (λ whole. token_at at (tokens.Text whole) ∷ r.later) (append_assoc text means r.meant);
}
  where
    lengths : (a b : List ℕ) (start : ℕ) → start + length a + (length b + 1) ≡ start + (length (a ++ b) + 1)
    lengths a b start = rw (length-append a b) (omega arith)

pub text_before : {at place byte : ℕ} {text bytes : List ℕ} {ts : List Placed} → stands_for_itself byte ≡ true
    → InText at (text ++ byte ∷ []) (place + 1) bytes ts
    → InText at text place (byte ∷ bytes) ts
text_before {byte = byte} is r = text_behind (byte ∷ []) (byte ∷ []) (λ more meant later. plain is later) r

pub escape_before : {at place : ℕ} {text bytes : List ℕ} {ts : List Placed} → InEscape at text (place + 1) bytes ts
    → InText at text place (backslash ∷ bytes) ts
escape_before {at} {place} {text} {ts = ts} (short {letter} {byte} {bytes} is r) =
    text_behind (backslash ∷ letter ∷ []) (byte ∷ []) (λ more meant later. escape is later)
    (subst (λ p. InText at (text ++ byte ∷ []) p bytes ts) (let e : place + 1 + 1 ≡ place + 2 = omega arith in e) r)
escape_before {at} {place} {text} {ts = ts} (long (high_digit {high} small (low_digit {low} {bytes} tiny r))) =
    text_behind (backslash ∷ 120 ∷ hex_digit high ∷ hex_digit low ∷ []) ((16 * high + low) ∷ []) (λ more meant later. hexadecimal small tiny later)
    (subst (λ p. InText at (text ++ (16 * high + low) ∷ []) p bytes ts) (let e : place + 1 + 1 + 1 + 1 ≡ place + 4 = omega arith in e) r)

-- a string ends here
pub text_ends : {at place : ℕ} {text bytes : List ℕ} {ts : List Placed} → Spelled (place + 1) bytes ts
    → InText at text place (quote_sign ∷ bytes) (token_at at (tokens.Text text) ∷ ts)
text_ends {at} {text = text} {bytes} {ts} spelled = record {
  quoted = [];
  meant = [];
  rest = bytes;
  later = ts;
  split = refl;
  is = nothing;
  spelled = spelled;
  placed = ap (λ whole. token_at at (tokens.Text whole) ∷ ts) (sym (append-nil text));
}
