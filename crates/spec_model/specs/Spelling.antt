-- The texts of specifications: which bytes spell which tokens, each at its place, and which text spells which tree.
use Rattle.std.specs.Prelude.{◌≡◌, ℕ, ◌+◌, ◌*◌, ◌<◌, ◌≤◌, Bool, true, false, not, ◌&&◌, ◌||◌, ◌⊎◌, ◌==◌, if◌then◌else◌, nat_le, nat_lt, List, [], ◌∷◌, ◌++◌, length, take, Option, Some, None}
use Rattle.std.specs.Char.{is_ascii_alphanumeric}
use Rattle.std.specs.Int.{is_in_range}
use Rattle.std.specs.List.{list_all}
use Rattle.spec_model.specs.declared.token.Keyword.{Keyword}
use Rattle.spec_model.specs.declared.token.Placed.{Placed}
use Rattle.spec_model.specs.declared.token.Punctuation.{Punctuation}
use Rattle.spec_model.specs.declared.token.Punctuation.TheVariants as signs
use Rattle.spec_model.specs.declared.token.Token.{Token}
use Rattle.spec_model.specs.declared.token.Token.TheVariants as tokens
use Rattle.spec_model.specs.declared.tree.Block.{Block}
use Rattle.spec_model.specs.declared.tree.Spec.{Spec}
use Rattle.spec_model.specs.Canonical.{keyword_text, sign_text, depth_behind}
use Rattle.spec_model.specs.Grammar.{Fits, place_of, pieces_of_spec}
use Rattle.spec_model.specs.Message.{line_feed}
use Rattle.spec_model.specs.Pattern.{is_digit, number_written}
use Rattle.spec_model.specs.Quote.{quote_sign, backslash, hex_digit}
use Rattle.spec_model.specs.Value.{greatest}

-- a space, a tab, CR or LF
abbrev pub is_blank : ℕ → Bool
is_blank byte = byte == 32 || byte == 9 || byte == 13 || byte == line_feed

-- the byte `#`, with which a comment begins
abbrev pub comment_sign : ℕ
comment_sign = 35

-- any byte but LF
abbrev pub is_comment_byte : ℕ → Bool
is_comment_byte byte = nat_lt byte 256 && not (byte == line_feed)

-- a letter, a digit or `_`
abbrev pub is_run_byte : ℕ → Bool
is_run_byte byte = is_ascii_alphanumeric byte || byte == 95

abbrev pub begins_with : (ℕ → Bool) → List ℕ → Bool
begins_with test [] = false
begins_with test (byte ∷ bytes) = test byte

-- 1 or more digits, the first of them no `0` unless it is the only one, of a number that is at most the greatest u64
abbrev pub is_number : List ℕ → Bool
is_number run =
    begins_with is_digit run && list_all is_digit run && (length run == 1 || not (begins_with (λ byte. byte == 48) run)) && nat_le (number_written run) greatest

-- 1 to 32 letters, digits and `_`, the first of them no digit; whether it is a keyword is asked apart
abbrev pub is_word : List ℕ → Bool
is_word run = begins_with (λ byte. not (is_digit byte)) run && list_all is_run_byte run && nat_le (length run) 32

-- what a whole run is: a number, a keyword, or else a name
pub data IsRun : List ℕ → Token → Type 0 where
  number : {run : List ℕ} → is_number run ≡ true → IsRun run (tokens.Number (number_written run))
  keyword : (word : Keyword) → IsRun (keyword_text word) (tokens.Keyword word)
  name : {run : List ℕ} → is_word run ≡ true → ((word : Keyword) → run ≡ keyword_text word → ⊥) → IsRun run (tokens.Name run)

-- 0x20 to 0x7e other than `"` and `\`, and 0x80 to 0xff
abbrev pub stands_for_itself : ℕ → Bool
stands_for_itself byte = is_in_range 32 126 byte && not (byte == quote_sign) && not (byte == backslash) || is_in_range 128 255 byte

-- what `\` and one byte stand for: `\"`, `\\`, `\n`, `\r` and `\t`
abbrev pub escaped_byte : ℕ → Option ℕ
escaped_byte byte =
    if byte == quote_sign then Some quote_sign
    else (if byte == backslash then Some backslash
    else (if byte == 110 then Some line_feed
    else (if byte == 114 then Some 13
    else (if byte == 116 then Some 9 else None))))

-- the bytes between two quotes, and the text that they stand for
pub data IsQuoted : List ℕ → List ℕ → Type 0 where
  nothing : IsQuoted [] []
  plain : {byte : ℕ} {bytes text : List ℕ} → stands_for_itself byte ≡ true → IsQuoted bytes text → IsQuoted (byte ∷ bytes) (byte ∷ text)
  escape : {letter byte : ℕ} {bytes text : List ℕ} → escaped_byte letter ≡ Some byte → IsQuoted bytes text
      → IsQuoted (backslash ∷ letter ∷ bytes) (byte ∷ text)
  -- `\x` and two digits, lower case
  hexadecimal : {high low : ℕ} {bytes text : List ℕ} → high < 16 → low < 16 → IsQuoted bytes text
      → IsQuoted (backslash ∷ 120 ∷ hex_digit high ∷ hex_digit low ∷ bytes) ((16 * high + low) ∷ text)

-- A sign is as long as it can be: no `=` stands directly behind `=`.
abbrev pub is_whole : Punctuation → List ℕ → Bool
is_whole signs.Becomes rest = not (begins_with (λ byte. byte == 61) rest)
is_whole _ rest = true

-- The bytes from this place on spell these tokens, each at the place of its first byte.
pub data Spelled : ℕ → List ℕ → List Placed → Type 0 where
  end : {place : ℕ} → Spelled place [] []
  blank : {place byte : ℕ} {rest : List ℕ} {more : List Placed} → is_blank byte ≡ true → Spelled (place + 1) rest more → Spelled place (byte ∷ rest) more
  -- a comment ends with LF, or with the text
  comment : {place : ℕ} {rest : List ℕ} {more : List Placed} (words : List ℕ) → list_all is_comment_byte words ≡ true
      → Spelled (place + (length words + 2)) rest more → Spelled place (comment_sign ∷ (words ++ line_feed ∷ rest)) more
  last_comment : {place : ℕ} {words : List ℕ} → list_all is_comment_byte words ≡ true → Spelled place (comment_sign ∷ words) []
  -- a run is as long as it can be
  run : {place : ℕ} {token : Token} {rest : List ℕ} {more : List Placed} (bytes : List ℕ) → IsRun bytes token → begins_with is_run_byte rest ≡ false
      → Spelled (place + length bytes) rest more → Spelled place (bytes ++ rest) (record { at = place; token = token } ∷ more)
  string : {place : ℕ} {text rest : List ℕ} {more : List Placed} (bytes : List ℕ) → IsQuoted bytes text
      → Spelled (place + (length bytes + 2)) rest more
      → Spelled place (quote_sign ∷ (bytes ++ quote_sign ∷ rest)) (record { at = place; token = tokens.Text text } ∷ more)
  sign : {place : ℕ} {rest : List ℕ} {more : List Placed} (mark : Punctuation) → is_whole mark rest ≡ true
      → Spelled (place + length (sign_text mark)) rest more → Spelled place (sign_text mark ++ rest) (record { at = place; token = tokens.Sign mark } ∷ more)

-- A text leaves an `else` out exactly where its block has the place of its statement.
abbrev pub is_left_out : ℕ → Block → Bool
is_left_out place block = place == place_of block

-- The text spells the tree, the tree's places being those of the text.
pub record Spells (text : List ℕ) (spec : Spec) : Type 0 where
  pub tokens : List Placed
  pub spelled : Spelled 0 text tokens
  pub fits : Fits (pieces_of_spec is_left_out spec) tokens

-- the greatest number of braces that are open at one time
abbrev pub greatest_open : ℕ
greatest_open = 32

-- Where so many braces are open before them, the tokens never have more than 32 open.
abbrev pub IsWithinBraces : ℕ → List Placed → Type 0
IsWithinBraces open_before [] = Unit {0}
IsWithinBraces open_before (placed ∷ more) =
    let open_behind = depth_behind open_before placed.token in (open_behind ≤ greatest_open) × IsWithinBraces open_behind more

-- how many braces are open behind tokens
abbrev pub open_behind : ℕ → List Placed → ℕ
open_behind open_before [] = open_before
open_behind open_before (placed ∷ more) = open_behind (depth_behind open_before placed.token) more

-- Some text that spells a tree begins with these bytes.
pub record CanGoOn (front : List ℕ) : Type 0 where
  pub more : List ℕ
  pub spec : Spec
  pub spells : Spells (front ++ more) spec

-- The text cannot go on so: what stands before this place can go on to a text that spells a tree; with the byte there it cannot,
-- or the text ends there and spells none.
pub record StopsAt (text : List ℕ) (place : ℕ) : Type 0 where
  pub within : place ≤ length text
  pub before : CanGoOn (take place text)
  pub cannot : place < length text → CanGoOn (take (place + 1) text) → ⊥
  pub no_tree : (spec : Spec) → Spells text spec → ⊥

-- An open brace stands here where the grammar has one, and 32 are open before it: in some text that spells a tree and begins with
-- the bytes up to and including this place, the token here is an open brace with 32 open before it.
pub record OpensTooMany (text : List ℕ) (place : ℕ) : Type 0 where
  pub within : place < length text
  pub more : List ℕ
  pub spec : Spec
  pub spells : Spells (take (place + 1) text ++ more) spec
  pub before : List Placed
  pub after : List Placed
  pub here : spells.tokens ≡ before ++ record { at = place; token = tokens.Sign signs.Open } ∷ after
  pub full : open_behind 0 before ≡ greatest_open

-- The place at which a text is refused: the first at which it cannot go on, or opens too many braces.
pub record IsRefusedAt (text : List ℕ) (place : ℕ) : Type 0 where
  pub reason : StopsAt text place ⊎ OpensTooMany text place
  pub first : (earlier : ℕ) → earlier < place → OpensTooMany text earlier → ⊥
