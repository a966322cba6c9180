-- Readers of declarations and of a whole specification.
use Rattle.std.specs.Prelude.{ℕ, zero, suc, if◌then◌else◌, List, [], ◌∷◌, ◌++◌, Option, Some, None}
use Rattle.spec_model.specs.declared.event.Framing.{Framing}
use Rattle.spec_model.specs.declared.event.Framing.TheVariants as framings
use Rattle.spec_model.specs.declared.token.Keyword.{Keyword}
use Rattle.spec_model.specs.declared.token.Keyword.TheVariants as words
use Rattle.spec_model.specs.declared.token.Placed.{Placed}
use Rattle.spec_model.specs.declared.token.Punctuation.TheVariants as signs
use Rattle.spec_model.specs.declared.token.Token.{Token}
use Rattle.spec_model.specs.declared.token.Token.TheVariants as tokens
use Rattle.spec_model.specs.declared.tree.Block.{Block, roll-Block}
use Rattle.spec_model.specs.declared.tree.Decl.{Decl}
use Rattle.spec_model.specs.declared.tree.First.{First}
use Rattle.spec_model.specs.declared.tree.First.TheVariants as firsts
use Rattle.spec_model.specs.declared.tree.Spec.{Spec}
use Rattle.spec_model.specs.Grammar.{kept_number}
use Rattle.spec_build.specs.Reader.{Outcome, Reader, ◌>>=◌, ◌>>◌, pure, refuse, reading, word, sign, any_word, name, text, number, sees, sees_declaration, is_word, counted}
use Rattle.spec_build.specs.Statements.{block, statements}

abbrev pub framing_of : Keyword → Option Framing
framing_of words.Line = Some framings.Line
framing_of words.Len16 = Some framings.Len16
framing_of _ = None

abbrev pub framing_in : Token → Option Framing
framing_in (tokens.Keyword keyword) = framing_of keyword
framing_in _ = None

abbrev pub framing : Reader Framing
framing = reading framing_in

-- a number that a header keeps
abbrev pub kept : Reader ℕ
kept = number >>= (λ value. pure (kept_number value))

-- what this word declares, behind the name
abbrev pub first_by : Keyword → Reader First
first_by words.Text = sign signs.Becomes >> (text >>= (λ value. pure (firsts.Text value)))
first_by words.Num = sign signs.Becomes >> (number >>= (λ value. pure (firsts.Num value)))
first_by words.Conn = sign signs.Becomes >> (number >>= (λ value. pure (firsts.Conn value)))
first_by words.Table = pure firsts.Table
first_by _ = refuse

unfoldable pub declaration : Reader Decl
declaration = do
  begun ← any_word
  declared ← name
  first ← first_by begun.1
  pure (record { at = begun.0; name = declared; first = first })

unfoldable pub declarations_from : List Decl → ℕ → Reader (List Decl)
declarations_from found zero = pure found
declarations_from found (suc n) = λ ts.
    if sees_declaration ts then (declaration >>= (λ x. declarations_from (found ++ x ∷ []) n)) ts else Some (found, ts)

abbrev pub declarations : Reader (List Decl)
declarations = counted (declarations_from [])

-- a block behind this word, which stands at its place
unfoldable pub block_behind : Keyword → Reader Block
block_behind keyword = do
  place ← word keyword
  sign signs.Open
  found ← statements (block 31)
  pure (roll-Block (record { at = place; stmts = found }))

unfoldable pub start : Reader (Option Block)
start = λ ts. if sees (is_word words.Start) ts then (block_behind words.Start >>= (λ b. pure (Some b))) ts else Some (None, ts)

unfoldable pub specification : Reader Spec
specification = do
  frame_at ← word words.Frame
  shape ← framing
  limit ← kept
  conns_at ← word words.Conns
  conns ← kept
  decls ← declarations
  begin ← start
  body ← block_behind words.Loop
  pure (record {
    shape = record { framing = shape; limit = limit; conns = conns };
    frame_at = frame_at;
    conns_at = conns_at;
    decls = decls;
    start = begin;
    body = body;
  })

abbrev pub if_last : {A : Type 0} → A → List Placed → Option A
if_last x [] = Some x
if_last x (placed ∷ more) = None

-- what was read, where no token is left
abbrev pub to_the_end : {A : Type 0} → Outcome A → Option A
to_the_end None = None
to_the_end (Some read) = if_last read.0 read.1

abbrev pub built : List Placed → Option Spec
built ts = to_the_end (specification ts)
