-- Readers: what is read from the first tokens, and the tokens behind it.
use Rattle.std.specs.Prelude.{◌≡◌, ℕ, Bool, true, false, if◌then◌else◌, List, [], ◌∷◌, length, Option, Some, None, Result, Ok, Err}
use denote.Enum.Bare.{sameb}
use Rattle.spec_model.specs.contracts.token.Keyword as keyword_type
use Rattle.spec_model.specs.contracts.token.Punctuation as punctuation_type
use Rattle.spec_model.specs.declared.token.Keyword.{Keyword}
use Rattle.spec_model.specs.declared.token.Keyword.TheVariants as words
use Rattle.spec_model.specs.declared.token.Placed.{Placed}
use Rattle.spec_model.specs.declared.token.Punctuation.{Punctuation}
use Rattle.spec_model.specs.declared.token.Token.{Token}
use Rattle.spec_model.specs.declared.token.Token.TheVariants as tokens
use Rattle.spec_build.specs.declared.fault.Fault.{Fault}
use Rattle.spec_build.specs.declared.fault.Fault.TheVariants.{Shape, Memory}

abbrev pub Outcome : Type 0 → Type 0
Outcome A = Option (A × List Placed)

abbrev pub Reader : Type 0 → Type 0
Reader A = List Placed → Outcome A

abbrev pub and_then : {A B : Type 0} → Outcome A → (A → Reader B) → Outcome B
and_then None next = None
and_then (Some read) next = next read.0 read.1

infixl 10 ◌>>=◌
abbrev pub ◌>>=◌ : {A B : Type 0} → Reader A → (A → Reader B) → Reader B
p >>= next = λ ts. and_then (p ts) next

infixl 10 ◌>>◌
abbrev pub ◌>>◌ : {A B : Type 0} → Reader A → Reader B → Reader B
p >> q = p >>= (λ _. q)

abbrev pub pure : {A : Type 0} → A → Reader A
pure x = λ ts. Some (x, ts)

abbrev pub refuse : {A : Type 0} → Reader A
refuse = λ _. None

-- What a function that reads answers: what the reader reads, unless memory fails.
abbrev pub Gives : {A : Type 0} → Outcome A → Result A Fault → List Placed → Type 0
Gives outcome (Ok x) rest = outcome ≡ Some (x, rest)
Gives outcome (Err Memory) rest = Unit {0}
Gives outcome (Err Shape) rest = outcome ≡ None

abbrev pub given : {A : Type 0} → Option A → Reader A
given None more = None
given (Some x) more = Some (x, more)

-- what one token says
abbrev pub reading : {A : Type 0} → (Token → Option A) → Reader A
reading meaning [] = None
reading meaning (placed ∷ more) = given (meaning placed.token) more

abbrev pub is_word : Keyword → Token → Bool
is_word keyword (tokens.Keyword word) = sameb keyword_type.the_type word keyword
is_word keyword _ = false

abbrev pub is_sign : Punctuation → Token → Bool
is_sign punctuation (tokens.Sign sign) = sameb punctuation_type.the_type sign punctuation
is_sign punctuation _ = false

-- the place of a token for which a test holds
abbrev pub place_where : (Token → Bool) → Reader ℕ
place_where test [] = None
place_where test (placed ∷ more) = if test placed.token then Some (placed.at, more) else None

abbrev pub word : Keyword → Reader ℕ
word keyword = place_where (is_word keyword)

abbrev pub sign : Punctuation → Reader ℕ
sign punctuation = place_where (is_sign punctuation)

-- takes a token for which a test holds, if it comes next
abbrev pub eat : (Token → Bool) → Reader Bool
eat test [] = Some (false, [])
eat test (placed ∷ more) = if test placed.token then Some (true, more) else Some (false, placed ∷ more)

abbrev pub eat_word : Keyword → Reader Bool
eat_word keyword = eat (is_word keyword)

abbrev pub eat_sign : Punctuation → Reader Bool
eat_sign punctuation = eat (is_sign punctuation)

abbrev pub placed_word : ℕ → Token → Option (ℕ × Keyword)
placed_word place (tokens.Keyword keyword) = Some (place, keyword)
placed_word place _ = None

-- any word, with its place
abbrev pub any_word : Reader (ℕ × Keyword)
any_word [] = None
any_word (placed ∷ more) = given (placed_word placed.at placed.token) more

abbrev pub name_in : Token → Option (List ℕ)
name_in (tokens.Name name) = Some name
name_in _ = None

abbrev pub text_in : Token → Option (List ℕ)
text_in (tokens.Text text) = Some text
text_in _ = None

abbrev pub number_in : Token → Option ℕ
number_in (tokens.Number number) = Some number
number_in _ = None

abbrev pub name : Reader (List ℕ)
name = reading name_in

abbrev pub text : Reader (List ℕ)
text = reading text_in

abbrev pub number : Reader ℕ
number = reading number_in

-- whether the next token passes a test
abbrev pub sees : (Token → Bool) → List Placed → Bool
sees test [] = false
sees test (placed ∷ more) = test placed.token

abbrev pub begins_part : Token → Bool
begins_part (tokens.Text value) = true
begins_part (tokens.Name value) = true
begins_part _ = false

abbrev pub declares : Keyword → Bool
declares words.Text = true
declares words.Num = true
declares words.Conn = true
declares words.Table = true
declares _ = false

abbrev pub begins_declaration : Token → Bool
begins_declaration (tokens.Keyword keyword) = declares keyword
begins_declaration _ = false

abbrev pub sees_part : List Placed → Bool
sees_part = sees begins_part

abbrev pub sees_declaration : List Placed → Bool
sees_declaration = sees begins_declaration

-- how many tokens are left, as many turns as a list has at most
abbrev pub counted : {A : Type 0} → (ℕ → Reader A) → Reader A
counted p = λ ts. p (length ts) ts
