-- Readers of statements and of blocks.
use Rattle.std.specs.Prelude.{ℕ, zero, suc, if◌then◌else◌, List, [], ◌∷◌, ◌++◌}
use Rattle.spec_model.specs.declared.token.Keyword.{Keyword}
use Rattle.spec_model.specs.declared.token.Keyword.TheVariants as words
use Rattle.spec_model.specs.declared.token.Punctuation.TheVariants as signs
use Rattle.spec_model.specs.declared.tree.Block.{Block, roll-Block}
use Rattle.spec_model.specs.declared.tree.Case.{Case, roll-Case}
use Rattle.spec_model.specs.declared.tree.Kind.{Kind}
use Rattle.spec_model.specs.declared.tree.Kind.TheVariants.{Recv, If, Either, Lookup}
use Rattle.spec_model.specs.declared.tree.Stmt.{Stmt}
use Rattle.spec_build.specs.Reader.{Reader, ◌>>=◌, ◌>>◌, pure, refuse, word, sign, any_word, eat_sign, eat_word, name, counted}
use Rattle.spec_build.specs.Parts.{atom, cond, chan, items, send, pick, assign, assume, put, delete}

-- The blocks that stand inside are read by `block`.
module _ (block : Reader Block) where
  unfoldable pub cases_from : List Case → ℕ → Reader (List Case)
  cases_from found zero = refuse
  cases_from found (suc n) = do
    is_over ← eat_word words.Other
    if is_over then pure found else (do
      word words.Case
      pattern ← items
      inside ← block
      cases_from (found ++ roll-Case (record { items = pattern; block = inside }) ∷ []) n)

  -- the cases and the word `other` behind them
  abbrev pub cases : Reader (List Case)
  cases = counted (cases_from [])

  unfoldable pub recv : Reader Kind
  recv = do
    from ← chan
    sign signs.Open
    found ← cases
    bound ← name
    rest ← block
    sign signs.Close
    pure (Recv from found bound rest)

  unfoldable pub arms_from : List Block → ℕ → Reader (List Block)
  arms_from found zero = pure found
  arms_from found (suc n) = do
    more ← eat_word words.Or
    if more then (do inside ← block; arms_from (found ++ inside ∷ []) n) else pure found

  abbrev pub further_arms : List Block → Reader (List Block)
  further_arms found = counted (arms_from found)

  unfoldable pub either : Reader Kind
  either = do
    first ← block
    word words.Or
    second ← block
    arms ← further_arms (first ∷ second ∷ [])
    pure (Either arms)

  -- what stands behind `else`, or an empty block at this place
  unfoldable pub else_part : ℕ → Reader Block
  else_part place = do
    is_there ← eat_word words.Else
    if is_there then block else pure (roll-Block (record { at = place; stmts = [] }))

  unfoldable pub conditional : ℕ → Reader Kind
  conditional place = do
    c ← cond
    holds ← block
    fails ← else_part place
    pure (If c holds fails)

  unfoldable pub lookup : ℕ → Reader Kind
  lookup place = do
    table ← name
    key ← atom
    bound ← name
    found ← block
    missing ← else_part place
    pure (Lookup table key bound found missing)

  -- a statement at this place, behind its first word
  abbrev pub kind_by : ℕ → Keyword → Reader Kind
  kind_by place words.Recv = recv
  kind_by place words.Send = send
  kind_by place words.Pick = pick
  kind_by place words.Set = assign
  kind_by place words.If = conditional place
  kind_by place words.Either = either
  kind_by place words.Where = assume
  kind_by place words.Put = put
  kind_by place words.Get = lookup place
  kind_by place words.Del = delete
  kind_by place _ = refuse

  unfoldable pub stmts_from : List Stmt → ℕ → Reader (List Stmt)
  stmts_from found zero = refuse
  stmts_from found (suc n) = do
    is_over ← eat_sign signs.Close
    if is_over then pure found else (do
      begun ← any_word
      kind ← kind_by begun.0 begun.1
      stmts_from (found ++ record { at = begun.0; kind = kind } ∷ []) n)

  -- the statements and the closing brace behind them
  abbrev pub statements : Reader (List Stmt)
  statements = counted (stmts_from [])

-- a block that has blocks inside it no deeper than this
unfoldable pub block : ℕ → Reader Block
block zero = refuse
block (suc depth) = do
  place ← sign signs.Open
  found ← statements (block depth)
  pure (roll-Block (record { at = place; stmts = found }))
