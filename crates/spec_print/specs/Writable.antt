-- Tokens that bytes spell.
use Rattle.std.specs.Prelude.{◌≡◌, ◌≤◌, ℕ, List, [], ◌∷◌}
use Rattle.spec_model.specs.declared.token.Placed.{Placed}
use Rattle.spec_model.specs.declared.token.Token.{Token}
use Rattle.spec_model.specs.declared.token.Token.TheVariants as tokens
use Rattle.spec_model.specs.Quote.{IsText}
use Rattle.spec_model.specs.Spelling.{IsRun, Spelled}
use Rattle.spec_model.specs.Value.{greatest}

-- a name that its bytes spell, a number up to the greatest, a text of bytes, and any word or sign
abbrev pub IsWritable : Token → Type 0
IsWritable (tokens.Keyword keyword) = Unit {0}
IsWritable (tokens.Name name) = IsRun name (tokens.Name name)
IsWritable (tokens.Number number) = number ≤ greatest
IsWritable (tokens.Text text) = IsText text
IsWritable (tokens.Sign sign) = Unit {0}

-- the tokens without their places
abbrev pub tokens_in : List Placed → List Token
tokens_in [] = []
tokens_in (placed ∷ more) = placed.token ∷ tokens_in more

-- The bytes from this place on spell these tokens, each at some place.
pub record SpellsTokens (place : ℕ) (bytes : List ℕ) (all : List Token) : Type 0 where
  pub placed : List Placed
  pub spelled : Spelled place bytes placed
  pub same : tokens_in placed ≡ all
