-- The canonical spelling of a specification.
use Rattle.std.specs.Prelude.{ℕ, ◌+◌, ◌-◌, ◌*◌, Bool, true, false, if◌then◌else◌, List, [], ◌∷◌, ◌++◌, replicate, codes, decimal}
use Rattle.spec_model.specs.declared.token.Keyword.{Keyword}
use Rattle.spec_model.specs.declared.token.Keyword.TheVariants as words
use Rattle.spec_model.specs.declared.token.Punctuation.{Punctuation}
use Rattle.spec_model.specs.declared.token.Punctuation.TheVariants as signs
use Rattle.spec_model.specs.declared.token.Token.{Token}
use Rattle.spec_model.specs.declared.token.Token.TheVariants as tokens
use Rattle.spec_model.specs.declared.tree.Spec.{Spec}
use Rattle.spec_model.specs.Grammar.{Piece, some, at, capped, never, is_empty, pieces_of_spec}
use Rattle.spec_model.specs.Message.{line_feed}
use Rattle.spec_model.specs.Quote.{quotation_of}

abbrev pub keyword_text : Keyword → List ℕ
keyword_text words.Frame = codes "frame"
keyword_text words.Line = codes "line"
keyword_text words.Len16 = codes "len16"
keyword_text words.Conns = codes "conns"
keyword_text words.Text = codes "text"
keyword_text words.Num = codes "num"
keyword_text words.Conn = codes "conn"
keyword_text words.Table = codes "table"
keyword_text words.Start = codes "start"
keyword_text words.Loop = codes "loop"
keyword_text words.Recv = codes "recv"
keyword_text words.From = codes "from"
keyword_text words.Case = codes "case"
keyword_text words.Other = codes "other"
keyword_text words.Send = codes "send"
keyword_text words.Pick = codes "pick"
keyword_text words.Hex = codes "hex"
keyword_text words.Alnum = codes "alnum"
keyword_text words.Any = codes "any"
keyword_text words.Set = codes "set"
keyword_text words.If = codes "if"
keyword_text words.Else = codes "else"
keyword_text words.Either = codes "either"
keyword_text words.Or = codes "or"
keyword_text words.Where = codes "where"
keyword_text words.Put = codes "put"
keyword_text words.Get = codes "get"
keyword_text words.Del = codes "del"
keyword_text words.Word = codes "word"
keyword_text words.Rest = codes "rest"

abbrev pub sign_text : Punctuation → List ℕ
sign_text signs.Open = codes "{"
sign_text signs.Close = codes "}"
sign_text signs.Colon = codes ":"
sign_text signs.Becomes = codes "="
sign_text signs.Same = codes "=="
sign_text signs.Other = codes "!="
sign_text signs.Less = codes "<"
sign_text signs.Plus = codes "+"
sign_text signs.Minus = codes "-"

-- the one spelling of a token that the canonical spelling has
abbrev pub token_text : Token → List ℕ
token_text (tokens.Keyword keyword) = keyword_text keyword
token_text (tokens.Name name) = name
token_text (tokens.Number number) = decimal number
token_text (tokens.Text text) = quotation_of text
token_text (tokens.Sign sign) = sign_text sign

-- the words that stand behind another token of their line, where no sign says otherwise; each other word begins a line
abbrev pub goes_on : Keyword → Bool
goes_on words.Line = true
goes_on words.Len16 = true
goes_on words.From = true
goes_on words.Hex = true
goes_on words.Alnum = true
goes_on words.Any = true
goes_on words.Else = true
goes_on words.Or = true
goes_on _ = false

-- LF, and two spaces for each open brace
abbrev pub new_line : ℕ → List ℕ
new_line depth = line_feed ∷ replicate (2 * depth) 32

abbrev pub one_space : List ℕ
one_space = 32 ∷ []

-- What stands before a token at this depth of open braces, behind another token. Nothing stands beside a colon. An opening
-- brace ends its line, a closing brace and a word that begins a line stand first on theirs, and one space parts any other two
-- tokens.
abbrev pub gap : ℕ → Token → Token → List ℕ
gap depth (tokens.Sign signs.Colon) token = []
gap depth before (tokens.Sign signs.Colon) = []
gap depth before (tokens.Sign signs.Close) = new_line (depth - 1)
gap depth (tokens.Sign signs.Open) token = new_line depth
gap depth before (tokens.Keyword keyword) = if goes_on keyword then one_space else new_line depth
gap depth before token = one_space

-- how many braces are open behind a token
abbrev pub depth_behind : ℕ → Token → ℕ
depth_behind depth (tokens.Sign signs.Open) = depth + 1
depth_behind depth (tokens.Sign signs.Close) = depth - 1
depth_behind depth token = depth

-- the tokens behind another one, and the last LF
abbrev pub layout_behind : ℕ → Token → List Token → List ℕ
layout_behind depth before [] = line_feed ∷ []
layout_behind depth before (token ∷ more) =
    gap depth before token ++ (token_text token ++ layout_behind (depth_behind depth token) token more)

abbrev pub layout_of : List Token → List ℕ
layout_of [] = line_feed ∷ []
layout_of (token ∷ more) = token_text token ++ layout_behind (depth_behind 0 token) token more

-- the tokens that pieces ask for, without their places
abbrev pub tokens_of : List Piece → List Token
tokens_of [] = []
tokens_of (some token ∷ pieces) = token ∷ tokens_of pieces
tokens_of (at place token ∷ pieces) = token ∷ tokens_of pieces
tokens_of (capped number ∷ pieces) = tokens.Number number ∷ tokens_of pieces
tokens_of (never ∷ pieces) = tokens_of pieces

-- The canonical spelling of a written tree: its tokens, laid out so, with each empty `else` left out.
unfoldable pub canonical : Spec → List ℕ
canonical spec = layout_of (tokens_of (pieces_of_spec (λ place block. is_empty block) spec))
