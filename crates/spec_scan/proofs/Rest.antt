-- What goals stand for: the values that they read, and the pieces of the grammar that spell these.
use Rattle.std.proofs.Common.{ℕ, ◌≤◌, List, [], ◌∷◌, Option, Some, None, arith}
use mathlib.Core.Former as former
use Rattle.spec_model.specs.declared.event.Framing.{Framing}
use Rattle.spec_model.specs.declared.token.Keyword.TheVariants as words
use Rattle.spec_model.specs.declared.token.Placed.{Placed}
use Rattle.spec_model.specs.declared.token.Punctuation.TheVariants as signs
use Rattle.spec_model.specs.declared.token.Token.TheVariants as tokens
use Rattle.spec_model.specs.declared.tree.Alphabet.{Alphabet}
use Rattle.spec_model.specs.declared.tree.Block.{Block}
use Rattle.spec_model.specs.declared.tree.Chan.{Chan}
use Rattle.spec_model.specs.declared.tree.Decl.{Decl}
use Rattle.spec_model.specs.declared.tree.Expr.{Expr}
use Rattle.spec_model.specs.declared.tree.HoleKind.{HoleKind}
use Rattle.spec_model.specs.declared.tree.Item.{Item}
use Rattle.spec_model.specs.declared.tree.Kind.TheBlock.{Row_of-Block, Row_of-Case, Row_of-Stmt}
use Rattle.spec_model.specs.declared.tree.Op.{Op}
use Rattle.spec_model.specs.declared.tree.Sign.{Sign}
use Rattle.spec_model.specs.declared.tree.Spec.{Spec}
use Rattle.spec_model.specs.Grammar as grammar
use Rattle.spec_model.specs.Grammar.{Piece, some, at, capped, never, Fits, place_of}
use Rattle.spec_model.specs.Spelling.{is_left_out}
use Rattle.spec_scan.specs.declared.goal.Goal.{Goal}
use Rattle.spec_scan.specs.declared.goal.Goal.TheVariants as goals

-- how many rows a list of children has
abbrev pub Shape : Type 0
Shape = List (Unit {0})

abbrev pub count : Shape → former.Count
count shape = former.arity (former.list former.this) shape

-- what a goal reads
abbrev pub Val : Goal → Type 0
Val goals.Spec = Spec
Val goals.Framing = Framing
Val goals.HeaderNumber = ℕ
Val goals.Conns = ℕ × ℕ
Val goals.Decls = List Decl
Val goals.Start = Option Block
Val goals.Loop = Block
Val goals.Block = Block
Val goals.Stmts = (shape : Shape) × Row_of-Stmt (count shape)
Val goals.Chan = Chan
Val goals.Conn = Expr
Val goals.Cases = (shape : Shape) × Row_of-Case (count shape)
Val goals.Other = List ℕ × Block
Val goals.Item = Item
Val goals.Items = List Item
Val goals.HoleKind = HoleKind
Val goals.SendPart = Expr
Val goals.SendParts = List Expr
Val goals.Alphabet = Alphabet
Val goals.Atom = Expr
Val goals.Comparison = Op
Val goals.Tail = Option (Sign × Expr)
Val goals.Arm = Block
Val goals.Arms = (shape : Shape) × Row_of-Block (count shape)
Val goals.Else = Option Block
Val goals.Name = List ℕ
Val goals.Number = ℕ
Val goals.Text = List ℕ
Val goals.Open = Unit {0}
Val goals.Close = Unit {0}
Val goals.Colon = Unit {0}
Val goals.Becomes = Unit {0}

abbrev pub Vals : List Goal → Type 0
Vals [] = Unit {0}
Vals (goal ∷ below) = Val goal × Vals below

abbrev pub block : Block → List Piece → List Piece
block b next = grammar.block is_left_out b next

-- ("else" block)?
abbrev pub written_else : Option Block → List Piece → List Piece
written_else None next = next
written_else (Some b) next = grammar.word words.Else ∷ block b next

-- what spells a value of a goal
abbrev pub said : (goal : Goal) → Val goal → List Piece → List Piece
said goals.Spec spec next =
    at spec.frame_at (tokens.Keyword words.Frame) ∷ grammar.framing spec.shape.framing ∷ capped spec.shape.limit ∷
    at spec.conns_at (tokens.Keyword words.Conns) ∷ capped spec.shape.conns ∷
    grammar.decls spec.decls (grammar.start is_left_out spec.start (grammar.block_after is_left_out words.Loop spec.body next))
said goals.Framing framing next = grammar.framing framing ∷ next
said goals.HeaderNumber number next = capped number ∷ next
said goals.Conns (place, number) next = at place (tokens.Keyword words.Conns) ∷ capped number ∷ next
said goals.Decls decls next = grammar.decls decls next
said goals.Start start next = grammar.start is_left_out start next
said goals.Loop b next = grammar.block_after is_left_out words.Loop b next
said goals.Block b next = block b next
said goals.Stmts (shape, row) next = grammar.stmts is_left_out row next
said goals.Chan chan next = grammar.chan chan next
said goals.Conn e next = grammar.conn_of e ∷ next
said goals.Cases (shape, row) next = grammar.cases is_left_out row next
said goals.Other (name, b) next = grammar.word words.Other ∷ grammar.name name ∷ block b next
said goals.Item item next = grammar.item item next
said goals.Items items next = grammar.items items next
said goals.HoleKind kind next = grammar.hole_kind kind ∷ next
said goals.SendPart e next = grammar.part e ∷ next
said goals.SendParts es next = grammar.parts es next
said goals.Alphabet alphabet next = grammar.alphabet_word alphabet ∷ next
said goals.Atom e next = grammar.atom e ∷ next
said goals.Comparison op next = grammar.comparison op ∷ next
said goals.Tail tail next = grammar.tail tail next
said goals.Arm b next = grammar.word words.Or ∷ block b next
said goals.Arms (shape, row) next = grammar.other_arms is_left_out row next
said goals.Else b next = written_else b next
said goals.Name text next = grammar.name text ∷ next
said goals.Number number next = some (tokens.Number number) ∷ next
said goals.Text text next = some (tokens.Text text) ∷ next
said goals.Open _ next = grammar.sign signs.Open ∷ next
said goals.Close _ next = grammar.sign signs.Close ∷ next
said goals.Colon _ next = grammar.sign signs.Colon ∷ next
said goals.Becomes _ next = grammar.sign signs.Becomes ∷ next

abbrev pub spell : (below : List Goal) → Vals below → List Piece
spell [] _ = []
spell (goal ∷ below) vals = said goal vals.0 (spell below vals.1)

-- A block that has a brace of its own stands at a place or later.
abbrev pub ValFrom : ℕ → (goal : Goal) → Val goal → Type 0
ValFrom place goals.Block b = place ≤ place_of b
ValFrom place goals.Else (Some b) = place ≤ place_of b
ValFrom place _ _ = Unit {0}

abbrev pub From : ℕ → (below : List Goal) → Vals below → Type 0
From place [] _ = Unit {0}
From place (goal ∷ below) vals = ValFrom place goal vals.0 × From place below vals.1

-- The tokens are what is left of a text from a place on, where these goals are to be read.
pub record Rest (place : ℕ) (below : List Goal) (placed : List Placed) : Type 0 where
  pub vals : Vals below
  pub fits : Fits (spell below vals) placed
  pub from : From place below vals

val_from-le : (goal : Goal) {early late : ℕ} (value : Val goal) → early ≤ late → ValFrom late goal value
    → ValFrom early goal value
val_from-le goals.Block value sooner from = omega arith
val_from-le goals.Else None sooner from = tt
val_from-le goals.Else (Some b) sooner from = omega arith
val_from-le _ value sooner from = tt

pub from-le : (below : List Goal) {early late : ℕ} (vals : Vals below) → early ≤ late → From late below vals
    → From early below vals
from-le [] vals sooner from = tt
from-le (goal ∷ below) vals sooner from = (val_from-le goal vals.0 sooner from.0, from-le below vals.1 sooner from.1)
