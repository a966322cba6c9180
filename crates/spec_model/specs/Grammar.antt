-- The grammar of specifications: which tokens spell a tree, each rule as one line of the grammar. `next` is what follows.
use Rattle.std.specs.Prelude.{◌≡◌, ℕ, min, Bool, true, false, if◌then◌else◌, List, [], ◌∷◌, Option, Some, None}
use Rattle.spec_model.specs.declared.event.Framing.{Framing}
use Rattle.spec_model.specs.declared.event.Framing.TheVariants as framings
use Rattle.spec_model.specs.declared.token.Keyword.{Keyword}
use Rattle.spec_model.specs.declared.token.Keyword.TheVariants as words
use Rattle.spec_model.specs.declared.token.Placed.{Placed}
use Rattle.spec_model.specs.declared.token.Punctuation.{Punctuation}
use Rattle.spec_model.specs.declared.token.Punctuation.TheVariants as signs
use Rattle.spec_model.specs.declared.token.Token.{Token}
use Rattle.spec_model.specs.declared.token.Token.TheVariants as tokens
use Rattle.spec_model.specs.declared.tree.Alphabet.{Alphabet}
use Rattle.spec_model.specs.declared.tree.Alphabet.TheVariants as alphabets
use Rattle.spec_model.specs.declared.tree.Block.{Block, Block'}
use Rattle.spec_model.specs.declared.tree.Case.{Case, Case'}
use Rattle.spec_model.specs.declared.tree.Chan.{Chan}
use Rattle.spec_model.specs.declared.tree.Chan.TheVariants.{Bind, From}
use Rattle.spec_model.specs.declared.tree.Cond.{Cond}
use Rattle.spec_model.specs.declared.tree.Decl.{Decl}
use Rattle.spec_model.specs.declared.tree.Expr.{Expr}
use Rattle.spec_model.specs.declared.tree.Expr.TheVariants.{Text, Num, Name}
use Rattle.spec_model.specs.declared.tree.First.{First}
use Rattle.spec_model.specs.declared.tree.First.TheVariants as firsts
use Rattle.spec_model.specs.declared.tree.HoleKind.{HoleKind}
use Rattle.spec_model.specs.declared.tree.HoleKind.TheVariants as holes
use Rattle.spec_model.specs.declared.tree.Item.{Item}
use Rattle.spec_model.specs.declared.tree.Item.TheVariants.{Lit, Hole}
use Rattle.spec_model.specs.declared.tree.Kind.{Kind}
use Rattle.spec_model.specs.declared.tree.Kind.TheVariants.{Recv', Send, Pick, Assign, If, Either', Assume, Put, Lookup, Delete}
use Rattle.spec_model.specs.declared.tree.Kind.TheBlock.{Row_of-Block, end_of-Block, more_of-Block, Row_of-Case, end_of-Case, more_of-Case, Row_of-Stmt, end_of-Stmt, more_of-Stmt}
use Rattle.spec_model.specs.declared.tree.Op.{Op}
use Rattle.spec_model.specs.declared.tree.Op.TheVariants as ops
use Rattle.spec_model.specs.declared.tree.Sign.{Sign}
use Rattle.spec_model.specs.declared.tree.Sign.TheVariants.{Plus, Minus}
use Rattle.spec_model.specs.declared.tree.Spec.{Spec}

-- What the grammar asks of the next token: this one, wherever it stands; this one, at this place; a number that is kept as
-- this one, 65,535 standing for itself and every greater one; or what no token is.
pub data Piece : Type 0 where
  some : Token → Piece
  at : ℕ → Token → Piece
  capped : ℕ → Piece
  never : Piece

-- the number as which a header's number is kept
abbrev pub kept_number : ℕ → ℕ
kept_number number = min number 65535

-- the tokens, one for each piece
abbrev pub Fits : List Piece → List Placed → Type 0
Fits [] [] = Unit {0}
Fits (some token ∷ pieces) (placed ∷ more) = (placed.token ≡ token) × Fits pieces more
Fits (at place token ∷ pieces) (placed ∷ more) = (placed.at ≡ place) × (placed.token ≡ token) × Fits pieces more
Fits (capped number ∷ pieces) (placed ∷ more) = (read : ℕ) × (placed.token ≡ tokens.Number read) × (kept_number read ≡ number) × Fits pieces more
Fits _ _ = ⊥

abbrev pub word : Keyword → Piece
word keyword = some (tokens.Keyword keyword)

abbrev pub sign : Punctuation → Piece
sign punctuation = some (tokens.Sign punctuation)

abbrev pub name : List ℕ → Piece
name text = some (tokens.Name text)

-- a text, a number or a name
abbrev pub atom : Expr → Piece
atom (Text text) = some (tokens.Text text)
atom (Num number) = some (tokens.Number number)
atom (Name text) = name text

-- where_ = NAME | NUMBER
abbrev pub conn_of : Expr → Piece
conn_of (Text text) = never
conn_of e = atom e

-- part = STRING | NAME
abbrev pub part : Expr → Piece
part (Num number) = never
part e = atom e

-- what a list has to have one of at least
abbrev pub one_at_least : {A : Type 0} → List A → List Piece → List Piece
one_at_least [] pieces = never ∷ pieces
one_at_least (x ∷ xs) pieces = pieces

-- part*
abbrev pub parts : List Expr → List Piece → List Piece
parts [] next = next
parts (e ∷ es) next = part e ∷ parts es next

-- "word" | "num" | "rest"
abbrev pub hole_kind : HoleKind → Piece
hole_kind holes.Word = word words.Word
hole_kind holes.Num = word words.Num
hole_kind holes.Rest = word words.Rest

-- item = STRING | NAME ":" ("word" | "num" | "rest")
abbrev pub item : Item → List Piece → List Piece
item (Lit text) next = some (tokens.Text text) ∷ next
item (Hole text kind) next = name text ∷ sign signs.Colon ∷ hole_kind kind ∷ next

-- item*
abbrev pub items : List Item → List Piece → List Piece
items [] next = next
items (i ∷ is) next = item i (items is next)

-- "==" | "!=" | "<"
abbrev pub comparison : Op → Piece
comparison ops.Same = sign signs.Same
comparison ops.Other = sign signs.Other
comparison ops.Less = sign signs.Less

-- cond = atom ("==" | "!=" | "<") atom
abbrev pub cond : Cond → List Piece → List Piece
cond c next = atom c.left ∷ comparison c.op ∷ atom c.right ∷ next

-- "hex" | "alnum" | "any"
abbrev pub alphabet_word : Alphabet → Piece
alphabet_word alphabets.Hex = word words.Hex
alphabet_word alphabets.Alnum = word words.Alnum
alphabet_word alphabets.Any = word words.Any

-- (("+" | "-") atom)?
abbrev pub tail : Option (Sign × Expr) → List Piece → List Piece
tail None next = next
tail (Some (Plus, e)) next = sign signs.Plus ∷ atom e ∷ next
tail (Some (Minus, e)) next = sign signs.Minus ∷ atom e ∷ next

-- which connection a `recv` names: "recv" NAME | "recv" "from" where_
abbrev pub chan : Chan → List Piece → List Piece
chan (Bind text) next = name text ∷ next
chan (From e) next = word words.From ∷ conn_of e ∷ next

abbrev pub has_none : {m : _} → Row_of-Stmt m → Bool
has_none end_of-Stmt = true
has_none (more_of-Stmt _ _ _) = false

-- whether a block has no statements
abbrev pub is_empty : Block → Bool
is_empty (Block' _ _ stmts) = has_none stmts

abbrev pub place_of : Block → ℕ
place_of (Block' place _ _) = place

-- where an `else` is left out nothing stands, and its block is empty
abbrev pub empty_else : {m : _} → Row_of-Stmt m → List Piece → List Piece
empty_else end_of-Stmt next = next
empty_else (more_of-Stmt _ _ _) next = never ∷ next

-- "line" | "len16"
abbrev pub framing : Framing → Piece
framing framings.Line = word words.Line
framing framings.Len16 = word words.Len16

-- decl = "text" NAME "=" STRING | "num" NAME "=" NUMBER | "conn" NAME "=" NUMBER | "table" NAME
abbrev pub declaration : ℕ → List ℕ → First → List Piece → List Piece
declaration place text (firsts.Text value) next = at place (tokens.Keyword words.Text) ∷ name text ∷ sign signs.Becomes ∷ some (tokens.Text value) ∷ next
declaration place text (firsts.Num value) next = at place (tokens.Keyword words.Num) ∷ name text ∷ sign signs.Becomes ∷ some (tokens.Number value) ∷ next
declaration place text (firsts.Conn value) next = at place (tokens.Keyword words.Conn) ∷ name text ∷ sign signs.Becomes ∷ some (tokens.Number value) ∷ next
declaration place text firsts.Table next = at place (tokens.Keyword words.Table) ∷ name text ∷ next

-- decl*
abbrev pub decls : List Decl → List Piece → List Piece
decls [] next = next
decls (d ∷ ds) next = declaration d.at d.name d.first (decls ds next)

-- A text may leave an empty `else` out, or have it; `is_left_out` says which, by the place of the statement and the block.
module _ (is_left_out : ℕ → Block → Bool) where
  abbrev mutual
    -- block = "{" stmt* "}"
    pub block : Block → List Piece → List Piece
    block (Block' place _ row) next = at place (tokens.Sign signs.Open) ∷ stmts row (sign signs.Close ∷ next)

    -- "{" stmt* "}" behind a word that stands at the block's place
    pub block_after : Keyword → Block → List Piece → List Piece
    block_after keyword (Block' place _ row) next =
        at place (tokens.Keyword keyword) ∷ sign signs.Open ∷ stmts row (sign signs.Close ∷ next)

    -- ("else" block)?
    pub else_part : ℕ → Block → List Piece → List Piece
    else_part place (Block' at_else shape row) next =
        if is_left_out place (Block' at_else shape row) then empty_else row next
        else word words.Else ∷ at at_else (tokens.Sign signs.Open) ∷ stmts row (sign signs.Close ∷ next)

    -- stmt*
    pub stmts : {m : _} → Row_of-Stmt m → List Piece → List Piece
    stmts end_of-Stmt next = next
    stmts (more_of-Stmt place kind row) next = stmt place kind (stmts row next)

    -- case*
    pub cases : {m : _} → Row_of-Case m → List Piece → List Piece
    cases end_of-Case next = next
    cases (more_of-Case case row) next = case_ case (cases row next)

    -- case = "case" item+ block
    pub case_ : Case → List Piece → List Piece
    case_ (Case' pattern b) next = word words.Case ∷ one_at_least pattern (items pattern (block b next))

    -- ("or" block)*
    pub other_arms : {m : _} → Row_of-Block m → List Piece → List Piece
    other_arms end_of-Block next = next
    other_arms (more_of-Block b row) next = word words.Or ∷ block b (other_arms row next)

    -- ("or" block)+
    pub one_other_arm_at_least : {m : _} → Row_of-Block m → List Piece → List Piece
    one_other_arm_at_least end_of-Block next = never ∷ next
    one_other_arm_at_least (more_of-Block b row) next = word words.Or ∷ block b (other_arms row next)

    -- block ("or" block)+
    pub arms : {m : _} → Row_of-Block m → List Piece → List Piece
    arms end_of-Block next = never ∷ next
    arms (more_of-Block b row) next = block b (one_other_arm_at_least row next)

    -- the statements, each with its place at its first word
    pub stmt : ℕ → Kind → List Piece → List Piece
    -- "recv" NAME "{" case* other "}" | "recv" "from" where_ "{" case* other "}", where other = "other" NAME block
    stmt place (Recv' c _ row text b) next =
        at place (tokens.Keyword words.Recv) ∷ chan c (sign signs.Open ∷ cases row (word words.Other ∷ name text ∷ block b (sign signs.Close ∷ next)))
    -- "send" where_ part+
    stmt place (Send e es) next = at place (tokens.Keyword words.Send) ∷ conn_of e ∷ one_at_least es (parts es next)
    -- "pick" NAME NUMBER ("hex" | "alnum" | "any")
    stmt place (Pick text len alphabet) next =
        at place (tokens.Keyword words.Pick) ∷ name text ∷ some (tokens.Number len) ∷ alphabet_word alphabet ∷ next
    -- "set" NAME atom (("+" | "-") atom)?
    stmt place (Assign text e more) next = at place (tokens.Keyword words.Set) ∷ name text ∷ atom e ∷ tail more next
    -- "if" cond block ("else" block)?
    stmt place (If c holds fails) next =
        at place (tokens.Keyword words.If) ∷ cond c (block holds (else_part place fails next))
    -- "either" block ("or" block)+
    stmt place (Either' _ row) next = at place (tokens.Keyword words.Either) ∷ arms row next
    -- "where" cond
    stmt place (Assume c) next = at place (tokens.Keyword words.Where) ∷ cond c next
    -- "put" NAME atom atom
    stmt place (Put table key value) next =
        at place (tokens.Keyword words.Put) ∷ name table ∷ atom key ∷ atom value ∷ next
    -- "get" NAME atom NAME block ("else" block)?
    stmt place (Lookup table key text found missing) next =
        at place (tokens.Keyword words.Get) ∷ name table ∷ atom key ∷ name text ∷ block found (else_part place missing next)
    -- "del" NAME atom
    stmt place (Delete table key) next = at place (tokens.Keyword words.Del) ∷ name table ∷ atom key ∷ next

  -- ("start" block)?
  abbrev pub start : Option Block → List Piece → List Piece
  start None next = next
  start (Some b) next = block_after words.Start b next

  -- spec = "frame" ("line" | "len16") NUMBER "conns" NUMBER decl* start? loop, where loop = "loop" block
  abbrev pub pieces_of_spec : Spec → List Piece
  pieces_of_spec spec =
      at spec.frame_at (tokens.Keyword words.Frame) ∷ framing spec.shape.framing ∷ capped spec.shape.limit ∷
      at spec.conns_at (tokens.Keyword words.Conns) ∷ capped spec.shape.conns ∷
      decls spec.decls (start spec.start (block_after words.Loop spec.body []))
