-- The reading of a text byte by byte: after each byte it is known what the rest may be.
use Rattle.std.specs.Prelude.{ℕ, ◌+◌, ◌-◌, ◌*◌, Bool, true, false, if◌then◌else◌, ◌&&◌, ◌||◌, ◌==◌, nat_eq, nat_le, List, [], ◌∷◌, ◌++◌, Option, Some, None, option_map, option_and_then, Result, Ok, Err, bytes_eq, find}
use Rattle.std.specs.List.{list_any, starts_with}
use Rattle.spec_model.specs.declared.token.Keyword.{Keyword}
use Rattle.spec_model.specs.declared.token.Keyword.TheVariants as words
use Rattle.spec_model.specs.declared.token.Placed.{Placed}
use Rattle.spec_model.specs.declared.token.Punctuation.{Punctuation}
use Rattle.spec_model.specs.declared.token.Punctuation.TheVariants as signs
use Rattle.spec_model.specs.declared.token.Token.{Token}
use Rattle.spec_model.specs.declared.token.Token.TheVariants as tokens
use Rattle.spec_model.specs.Canonical.{keyword_text}
use Rattle.spec_model.specs.Message.{line_feed}
use Rattle.spec_model.specs.Pattern.{number_written}
use Rattle.spec_model.specs.Quote.{quote_sign, backslash}
use Rattle.spec_model.specs.Spelling.{is_blank, comment_sign, is_comment_byte, is_run_byte, is_number, is_word, stands_for_itself, escaped_byte, open_behind}
use Rattle.spec_scan.specs.declared.goal.Class.TheVariants as classes
use Rattle.spec_scan.specs.declared.goal.Goal.{Goal}
use Rattle.spec_scan.specs.declared.goal.Goal.TheVariants as goals
use Rattle.spec_scan.specs.declared.part.Part.{Part}
use Rattle.spec_scan.specs.declared.part.Part.TheVariants.{Between, Comment, Run, Inside, Escape, FirstDigit, SecondDigit, Equal, Bang}
use Rattle.spec_scan.specs.Table.{class_of, shift, takes}

-- each keyword
abbrev pub keywords : List Keyword
keywords =
    words.Frame ∷ words.Line ∷ words.Len16 ∷ words.Conns ∷ words.Text ∷ words.Num ∷ words.Conn ∷ words.Table ∷ words.Start ∷ words.Loop ∷ words.Recv ∷ words.From ∷ words.Case ∷ words.Other ∷ words.Send ∷
    words.Pick ∷ words.Hex ∷ words.Alnum ∷ words.Any ∷ words.Set ∷ words.If ∷ words.Else ∷ words.Either ∷ words.Or ∷ words.Where ∷ words.Put ∷ words.Get ∷ words.Del ∷ words.Word ∷ words.Rest ∷ []

-- a keyword, or else a name
abbrev pub word_of_run : List ℕ → Option Keyword → Option Token
word_of_run run (Some word) = Some (tokens.Keyword word)
word_of_run run None = if is_word run then Some (tokens.Name run) else None

-- what a whole run is
abbrev pub token_of_run : List ℕ → Option Token
token_of_run run =
    if is_number run then Some (tokens.Number (number_written run))
    else word_of_run run (find (λ word. bytes_eq (keyword_text word) run) keywords)

-- whether a keyword that may come next begins so
abbrev pub may_become : List Goal → List ℕ → Keyword → Bool
may_become below run word = starts_with nat_eq (keyword_text word) run && takes below (classes.Keyword word)

-- whether a run that may come next begins so
abbrev pub opens : List Goal → List ℕ → Bool
opens below run =
    is_number run && takes below classes.Number || is_word run && takes below classes.Name || list_any (may_become below run) keywords

-- the signs of one byte with which no other sign begins
abbrev pub sign_of : ℕ → Option Punctuation
sign_of byte =
    if byte == 123 then Some signs.Open
    else (if byte == 125 then Some signs.Close
    else (if byte == 58 then Some signs.Colon
    else (if byte == 60 then Some signs.Less
    else (if byte == 43 then Some signs.Plus
    else (if byte == 45 then Some signs.Minus else None)))))

-- the value of a digit of hexadecimal numbers, lower case
abbrev pub digit_of : ℕ → Option ℕ
digit_of byte =
    if nat_le 48 byte && nat_le byte 57 then Some (byte - 48)
    else (if nat_le 97 byte && nat_le byte 102 then Some (byte - 87) else None)

-- The part of a token that was read so far, the goals behind the whole tokens, and these.
pub record State : Type 0 where
  pub part : Part
  pub below : List Goal
  pub placed : List Placed

abbrev pub state : Part → List Goal → List Placed → State
state part below placed = record { part = part; below = below; placed = placed }

-- the state behind a whole token, where it may come next
abbrev pub take_token : List Goal → List Placed → ℕ → Token → Option State
take_token below placed at token =
    option_map (λ after. state Between after (placed ++ record { at = at; token = token } ∷ [])) (shift below (class_of token))

abbrev pub take_sign : List Goal → List Placed → ℕ → Option Punctuation → Option State
take_sign below placed at None = None
take_sign below placed at (Some sign) = take_token below placed at (tokens.Sign sign)

-- the state behind a whole run
abbrev pub take_run : List Goal → List Placed → ℕ → List ℕ → Option State
take_run below placed at run = option_and_then (take_token below placed at) (token_of_run run)

abbrev pub only_if : Bool → State → Option State
only_if true s = Some s
only_if false s = None

-- a byte that no token is open before
abbrev pub between : List Goal → List Placed → ℕ → ℕ → Option State
between below placed place byte =
    if is_run_byte byte then only_if (opens below (byte ∷ [])) (state (Run place (byte ∷ [])) below placed)
    else (if is_blank byte then Some (state Between below placed)
    else (if byte == comment_sign then Some (state Comment below placed)
    else (if byte == quote_sign then only_if (takes below classes.Text) (state (Inside place []) below placed)
    else (if byte == 61 then only_if (takes below (classes.Sign signs.Becomes) || takes below (classes.Sign signs.Same)) (state (Equal place) below placed)
    else (if byte == 33 then only_if (takes below (classes.Sign signs.Other)) (state (Bang place) below placed)
    else take_sign below placed place (sign_of byte))))))

-- a byte behind a state
abbrev pub behind : ℕ → ℕ → State → Option State
behind place byte s = between s.below s.placed place byte

abbrev pub step_in : Part → List Goal → List Placed → ℕ → ℕ → Option State
step_in Between below placed place byte = between below placed place byte
step_in Comment below placed place byte =
    if byte == line_feed then Some (state Between below placed) else only_if (is_comment_byte byte) (state Comment below placed)
step_in (Run at run) below placed place byte =
    if is_run_byte byte then only_if (opens below (run ++ byte ∷ [])) (state (Run at (run ++ byte ∷ [])) below placed)
    else option_and_then (behind place byte) (take_run below placed at run)
step_in (Inside at text) below placed place byte =
    if byte == quote_sign then take_token below placed at (tokens.Text text)
    else (if byte == backslash then Some (state (Escape at text) below placed)
    else only_if (stands_for_itself byte) (state (Inside at (text ++ byte ∷ [])) below placed))
step_in (Escape at text) below placed place byte =
    if byte == 120 then Some (state (FirstDigit at text) below placed)
    else option_map (λ meant. state (Inside at (text ++ meant ∷ [])) below placed) (escaped_byte byte)
step_in (FirstDigit at text) below placed place byte =
    option_map (λ high. state (SecondDigit at text high) below placed) (digit_of byte)
step_in (SecondDigit at text high) below placed place byte =
    option_map (λ low. state (Inside at (text ++ (16 * high + low) ∷ [])) below placed) (digit_of byte)
step_in (Equal at) below placed place byte =
    if byte == 61 then take_token below placed at (tokens.Sign signs.Same)
    else option_and_then (behind place byte) (take_token below placed at (tokens.Sign signs.Becomes))
step_in (Bang at) below placed place byte = if byte == 61 then take_token below placed at (tokens.Sign signs.Other) else None

-- the state behind the byte at this place, where the text may go on so
abbrev pub step : ℕ → State → ℕ → Option State
step place s byte = step_in s.part s.below s.placed place byte

-- the tokens, where no goal is left
abbrev pub done : List Goal → List Placed → Option (List Placed)
done [] placed = Some placed
done (goal ∷ below) placed = None

abbrev pub done_state : State → Option (List Placed)
done_state s = done s.below s.placed

-- the tokens of a text that ends here
abbrev pub finish_in : Part → List Goal → List Placed → Option (List Placed)
finish_in Between below placed = done below placed
finish_in Comment below placed = done below placed
finish_in (Run at run) below placed = option_and_then done_state (take_run below placed at run)
finish_in (Equal at) below placed = option_and_then done_state (take_token below placed at (tokens.Sign signs.Becomes))
finish_in _ below placed = None

abbrev pub finish : State → Option (List Placed)
finish s = finish_in s.part s.below s.placed

abbrev pub or_refused : ℕ → Option (List Placed) → Result (List Placed) ℕ
or_refused place None = Err place
or_refused place (Some placed) = Ok placed

-- whether no more than so many braces are open
abbrev pub is_within : ℕ → State → Bool
is_within most s = nat_le (open_behind 0 s.placed) most

-- what follows a step
abbrev pub go_on : ℕ → ℕ → (State → Result (List Placed) ℕ) → Option State → Result (List Placed) ℕ
go_on most place later None = Err place
go_on most place later (Some s) = if is_within most s then later s else Err place

-- The tokens of the bytes from a place on, or the place that is refused, where so many braces may be open.
abbrev pub scan : ℕ → List ℕ → ℕ → State → Result (List Placed) ℕ
scan most [] place s = or_refused place (finish s)
scan most (byte ∷ bytes) place s = go_on most place (scan most bytes (place + 1)) (step place s byte)

abbrev pub first_state : State
first_state = state Between (goals.Spec ∷ []) []
