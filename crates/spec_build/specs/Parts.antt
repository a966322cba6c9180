-- Readers of the parts of statements that hold no statements.
use Rattle.std.specs.Prelude.{ℕ, zero, suc, if◌then◌else◌, List, [], ◌∷◌, ◌++◌, Option, Some, None}
use Rattle.spec_model.specs.declared.token.Keyword.{Keyword}
use Rattle.spec_model.specs.declared.token.Keyword.TheVariants as words
use Rattle.spec_model.specs.declared.token.Punctuation.{Punctuation}
use Rattle.spec_model.specs.declared.token.Punctuation.TheVariants as signs
use Rattle.spec_model.specs.declared.token.Token.{Token}
use Rattle.spec_model.specs.declared.token.Token.TheVariants as tokens
use Rattle.spec_model.specs.declared.tree.Alphabet.{Alphabet}
use Rattle.spec_model.specs.declared.tree.Alphabet.TheVariants as alphabets
use Rattle.spec_model.specs.declared.tree.Chan.{Chan}
use Rattle.spec_model.specs.declared.tree.Chan.TheVariants.{Bind, From}
use Rattle.spec_model.specs.declared.tree.Cond.{Cond}
use Rattle.spec_model.specs.declared.tree.Expr.{Expr}
use Rattle.spec_model.specs.declared.tree.Expr.TheVariants.{Text, Num, Name}
use Rattle.spec_model.specs.declared.tree.HoleKind.{HoleKind}
use Rattle.spec_model.specs.declared.tree.HoleKind.TheVariants as holes
use Rattle.spec_model.specs.declared.tree.Item.{Item}
use Rattle.spec_model.specs.declared.tree.Item.TheVariants.{Lit, Hole}
use Rattle.spec_model.specs.declared.tree.Kind.{Kind}
use Rattle.spec_model.specs.declared.tree.Kind.TheVariants.{Send, Pick, Assign, Assume, Put, Delete}
use Rattle.spec_model.specs.declared.tree.Op.{Op}
use Rattle.spec_model.specs.declared.tree.Op.TheVariants as ops
use Rattle.spec_model.specs.declared.tree.Sign.{Sign}
use Rattle.spec_model.specs.declared.tree.Sign.TheVariants.{Plus, Minus}
use Rattle.spec_build.specs.Reader.{Reader, ◌>>=◌, ◌>>◌, pure, refuse, reading, sees_part, sign, eat_sign, eat_word, name, number, counted}

abbrev pub atom_in : Token → Option Expr
atom_in (tokens.Text value) = Some (Text value)
atom_in (tokens.Number value) = Some (Num value)
atom_in (tokens.Name value) = Some (Name value)
atom_in _ = None

abbrev pub conn_in : Token → Option Expr
conn_in (tokens.Number value) = Some (Num value)
conn_in (tokens.Name value) = Some (Name value)
conn_in _ = None

abbrev pub part_in : Token → Option Expr
part_in (tokens.Text value) = Some (Text value)
part_in (tokens.Name value) = Some (Name value)
part_in _ = None

abbrev pub atom : Reader Expr
atom = reading atom_in

abbrev pub conn : Reader Expr
conn = reading conn_in

abbrev pub part : Reader Expr
part = reading part_in

-- the parts found so far and those that come next, in so many turns at most
unfoldable pub parts_from : List Expr → ℕ → Reader (List Expr)
parts_from found zero = pure found
parts_from found (suc n) = λ ts.
    if sees_part ts then (part >>= (λ x. parts_from (found ++ x ∷ []) n)) ts else Some (found, ts)

abbrev pub further_parts : List Expr → Reader (List Expr)
further_parts found = counted (parts_from found)

abbrev pub parts : Reader (List Expr)
parts = part >>= (λ first. further_parts (first ∷ []))

abbrev pub hole_kind_of : Keyword → Option HoleKind
hole_kind_of words.Word = Some holes.Word
hole_kind_of words.Num = Some holes.Num
hole_kind_of words.Rest = Some holes.Rest
hole_kind_of _ = None

abbrev pub hole_kind_in : Token → Option HoleKind
hole_kind_in (tokens.Keyword keyword) = hole_kind_of keyword
hole_kind_in _ = None

abbrev pub hole_kind : Reader HoleKind
hole_kind = reading hole_kind_in

abbrev pub item_by : Expr → Reader Item
item_by (Text value) = pure (Lit value)
item_by (Name value) = sign signs.Colon >> (hole_kind >>= (λ kind. pure (Hole value kind)))
item_by (Num value) = refuse

abbrev pub item : Reader Item
item = part >>= item_by

unfoldable pub items_from : List Item → ℕ → Reader (List Item)
items_from found zero = pure found
items_from found (suc n) = λ ts.
    if sees_part ts then (item >>= (λ x. items_from (found ++ x ∷ []) n)) ts else Some (found, ts)

abbrev pub further_items : List Item → Reader (List Item)
further_items found = counted (items_from found)

abbrev pub items : Reader (List Item)
items = item >>= (λ first. further_items (first ∷ []))

abbrev pub op_of : Punctuation → Option Op
op_of signs.Same = Some ops.Same
op_of signs.Other = Some ops.Other
op_of signs.Less = Some ops.Less
op_of _ = None

abbrev pub op_in : Token → Option Op
op_in (tokens.Sign punctuation) = op_of punctuation
op_in _ = None

abbrev pub op : Reader Op
op = reading op_in

unfoldable pub cond : Reader Cond
cond = do
  left ← atom
  comparison ← op
  right ← atom
  pure (record { left = left; op = comparison; right = right })

abbrev pub alphabet_of : Keyword → Option Alphabet
alphabet_of words.Hex = Some alphabets.Hex
alphabet_of words.Alnum = Some alphabets.Alnum
alphabet_of words.Any = Some alphabets.Any
alphabet_of _ = None

abbrev pub alphabet_in : Token → Option Alphabet
alphabet_in (tokens.Keyword keyword) = alphabet_of keyword
alphabet_in _ = None

abbrev pub alphabet : Reader Alphabet
alphabet = reading alphabet_in

unfoldable pub tail : Reader (Option (Sign × Expr))
tail = do
  plus ← eat_sign signs.Plus
  if plus then (do right ← atom; pure (Some (Plus, right))) else (do
    minus ← eat_sign signs.Minus
    if minus then (do right ← atom; pure (Some (Minus, right))) else pure None)

unfoldable pub chan : Reader Chan
chan = do
  from ← eat_word words.From
  if from then (do value ← conn; pure (From value)) else (do value ← name; pure (Bind value))

unfoldable pub send : Reader Kind
send = do
  to ← conn
  what ← parts
  pure (Send to what)

unfoldable pub pick : Reader Kind
pick = do
  bound ← name
  len ← number
  over ← alphabet
  pure (Pick bound len over)

unfoldable pub assign : Reader Kind
assign = do
  register ← name
  left ← atom
  more ← tail
  pure (Assign register left more)

unfoldable pub assume : Reader Kind
assume = do
  c ← cond
  pure (Assume c)

unfoldable pub put : Reader Kind
put = do
  table ← name
  key ← atom
  value ← atom
  pure (Put table key value)

unfoldable pub delete : Reader Kind
delete = do
  table ← name
  key ← atom
  pure (Delete table key)
