-- A text to which tokens are put one by one, each laid out by the one before it and the braces that are open.
use Rattle.std.specs.Prelude.{ℕ, ◌-◌, List, [], ◌∷◌, ◌++◌, if◌then◌else◌, refl}
use Rattle.std.specs.Coded.{Coded, code_by, coded×, coded_ℕ, coded_list}
use Rattle.spec_model.specs.declared.token.Keyword.{Keyword}
use Rattle.spec_model.specs.declared.token.Punctuation.{Punctuation}
use Rattle.spec_model.specs.declared.token.Punctuation.TheVariants as signs
use Rattle.spec_model.specs.declared.token.Token.{Token}
use Rattle.spec_model.specs.declared.token.Token.TheVariants as tokens
use Rattle.spec_model.specs.Canonical.{depth_behind, goes_on, new_line, one_space, token_text}
use Rattle.spec_model.specs.Grammar.{Piece, some, at, capped, never}
use Rattle.spec_print.specs.contracts.page.Before as before_type
use Rattle.spec_print.specs.declared.page.Before.{Before}
use Rattle.spec_print.specs.declared.page.Before.TheVariants as befores
use Rattle.spec_print.specs.declared.page.Stands.{Stands}
use Rattle.spec_print.specs.declared.page.Stands.TheVariants as stands

abbrev pub before_sign : Punctuation → Before
before_sign signs.Open = befores.Open
before_sign signs.Colon = befores.Colon
before_sign _ = befores.Other

-- what a token is for the next one
abbrev pub before_of : Token → Before
before_of (tokens.Sign sign) = before_sign sign
before_of _ = befores.Other

abbrev pub sign_stands : Punctuation → Stands
sign_stands signs.Colon = stands.Beside
sign_stands signs.Close = stands.Outside
sign_stands _ = stands.Apart

abbrev pub word_stands : Keyword → Stands
word_stands keyword = if goes_on keyword then stands.Apart else stands.First

-- how a token stands behind another
abbrev pub stand_of : Token → Stands
stand_of (tokens.Sign sign) = sign_stands sign
stand_of (tokens.Keyword keyword) = word_stands keyword
stand_of _ = stands.Apart

abbrev pub gap_behind_open : ℕ → Stands → List ℕ
gap_behind_open depth stands.Beside = []
gap_behind_open depth stands.Outside = new_line (depth - 1)
gap_behind_open depth _ = new_line depth

abbrev pub gap_behind_other : ℕ → Stands → List ℕ
gap_behind_other depth stands.Beside = []
gap_behind_other depth stands.Outside = new_line (depth - 1)
gap_behind_other depth stands.First = new_line depth
gap_behind_other depth stands.Apart = one_space

-- what parts a token from what stands before it
abbrev pub gap_behind : ℕ → Before → Stands → List ℕ
gap_behind depth befores.Nothing _ = []
gap_behind depth befores.Colon _ = []
gap_behind depth befores.Open s = gap_behind_open depth s
gap_behind depth befores.Other s = gap_behind_other depth s

pub record Printed : Type 0 where
  pub text : List ℕ
  -- how many braces are open
  pub depth : ℕ
  pub before : Before

-- the page with bytes behind it that stand so
abbrev pub with_bytes : Printed → Stands → List ℕ → Printed
with_bytes page s bytes = record {
  text = page.text ++ (gap_behind page.depth page.before s ++ bytes);
  depth = page.depth;
  before = befores.Other;
}

abbrev pub put : Printed → Token → Printed
put page token = record {
  text = page.text ++ (gap_behind page.depth page.before (stand_of token) ++ token_text token);
  depth = depth_behind page.depth token;
  before = before_of token;
}

-- the tokens of pieces are put one by one
abbrev pub puts : Printed → List Piece → Printed
puts page [] = page
puts page (some token ∷ pieces) = puts (put page token) pieces
puts page (at place token ∷ pieces) = puts (put page token) pieces
puts page (capped number ∷ pieces) = puts (put page (tokens.Number number)) pieces
puts page (never ∷ pieces) = puts page pieces

abbrev pub blank : Printed
blank = record { text = []; depth = 0; before = befores.Nothing }

abbrev pub printed_code : Coded Printed
printed_code = code_by (List ℕ × (ℕ × Before)) (coded× (coded_list coded_ℕ) (coded× coded_ℕ before_type.the_row.coded))
    (λ p. (p.text, (p.depth, p.before))) (λ c. record { text = c.0; depth = c.1.0; before = c.1.1 }) (λ _. refl)
