-- The pieces of a tree by its lists, an empty `else` being left out.
use Rattle.std.specs.Prelude.{◌≡◌, ℕ, Bool, true, false, List, [], ◌∷◌, Option}
use Rattle.spec_model.specs.declared.event.Shape.{Shape}
use Rattle.spec_model.specs.declared.token.Keyword.{Keyword}
use Rattle.spec_model.specs.declared.token.Keyword.TheVariants as words
use Rattle.spec_model.specs.declared.tree.Block.{Block, out-Block}
use Rattle.spec_model.specs.declared.tree.Case.{Case}
use Rattle.spec_model.specs.declared.tree.Spec.{Spec}
use Rattle.spec_model.specs.declared.tree.Stmt.{Stmt}
use Rattle.spec_model.specs.Grammar as gr
use Rattle.spec_model.specs.Grammar.{Piece, never, sign, word}
use Rattle.spec_print.specs.Page.{Printed, puts}

-- Behind one page the pieces go on as nothing goes on behind the other.
abbrev pub Puts : Printed → (List Piece → List Piece) → Printed → Type 0
Puts old pieces new = (next : List Piece) → puts old (pieces next) ≡ puts new next

abbrev pub leaves_out : ℕ → Block → Bool
leaves_out place block = gr.is_empty block

abbrev pub block : Block → List Piece → List Piece
block = gr.block leaves_out

abbrev pub stmt : Stmt → List Piece → List Piece
stmt s = gr.stmt leaves_out s.at s.kind

abbrev pub stmts : List Stmt → List Piece → List Piece
stmts [] next = next
stmts (s ∷ ss) next = stmt s (stmts ss next)

abbrev pub case_ : Case → List Piece → List Piece
case_ = gr.case_ leaves_out

abbrev pub cases : List Case → List Piece → List Piece
cases [] next = next
cases (c ∷ cs) next = case_ c (cases cs next)

-- what stands before an arm
abbrev pub or_unless : Bool → List Piece → List Piece
or_unless true next = next
or_unless false next = word words.Or ∷ next

-- the arms, of which the first may be that of the statement
abbrev pub arms : Bool → List Block → List Piece → List Piece
arms is_first [] next = next
arms is_first (b ∷ bs) next = or_unless is_first (block b (arms false bs next))

abbrev pub else_listed : List Stmt → Block → List Piece → List Piece
else_listed [] b next = next
else_listed (s ∷ ss) b next = word words.Else ∷ block b next

-- the block behind `else`, which is left out where it has no statements
abbrev pub else_part : Block → List Piece → List Piece
else_part b = else_listed (out-Block b).stmts b

abbrev pub start : Option Block → List Piece → List Piece
start = gr.start leaves_out

abbrev pub block_after : Keyword → Block → List Piece → List Piece
block_after = gr.block_after leaves_out

abbrev pub header : Shape → List Piece → List Piece
header shape next =
    word words.Frame ∷ gr.framing shape.framing ∷ gr.capped shape.limit ∷ word words.Conns ∷ gr.capped shape.conns ∷ next

abbrev pub whole : Spec → List Piece → List Piece
whole spec next = header spec.shape (gr.decls spec.decls (start spec.start (block_after words.Loop spec.body next)))
