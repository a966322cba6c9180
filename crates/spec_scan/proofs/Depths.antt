-- How many braces are open behind one token more.
use Rattle.std.proofs.Common.{◌≡◌, ℕ, ◌+◌, ◌≤◌, List, [], ◌∷◌, ◌++◌, refl, arith}
use Rattle.spec_model.specs.declared.token.Placed.{Placed}
use Rattle.spec_model.specs.declared.token.Punctuation.TheVariants as signs
use Rattle.spec_model.specs.declared.token.Token.{Token}
use Rattle.spec_model.specs.declared.token.Token.TheVariants as tokens
use Rattle.spec_model.specs.Canonical.{depth_behind}
use Rattle.spec_model.specs.Spelling.{open_behind}

pub open_behind_push : (open_now : ℕ) (xs : List Placed) (x : Placed)
    → open_behind open_now (xs ++ x ∷ []) ≡ depth_behind (open_behind open_now xs) x.token
open_behind_push open_now [] x = refl
open_behind_push open_now (y ∷ xs) x = open_behind_push (depth_behind open_now y.token) xs x

-- a token opens one brace at most
pub depth_le : (open_now : ℕ) (token : Token) → depth_behind open_now token ≤ open_now + 1
depth_le open_now (tokens.Sign signs.Open) = omega arith
depth_le open_now (tokens.Sign signs.Close) = omega arith
depth_le open_now _ = omega arith
