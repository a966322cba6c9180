-- The pieces of a tree by its lists are those of the grammar.
use Rattle.std.proofs.Common.{◌≡◌, ℕ, true, false, if◌then◌else◌, List, ◌∷◌, refl, ap, sym, ◌∙◌}
use Rattle.spec_model.specs.declared.event.Shape.{Shape}
use Rattle.spec_model.specs.declared.token.Keyword.{Keyword}
use Rattle.spec_model.specs.declared.token.Keyword.TheVariants as words
use Rattle.spec_model.specs.declared.token.Punctuation.TheVariants as signs
use Rattle.spec_model.specs.declared.token.Token.TheVariants as tokens
use Rattle.spec_model.specs.declared.tree.Block.{Block, Block', out-Block, outs-Block'}
use Rattle.spec_model.specs.declared.tree.Case.{Case}
use Rattle.spec_model.specs.declared.tree.Chan.{Chan}
use Rattle.spec_model.specs.declared.tree.Cond.{Cond}
use Rattle.spec_model.specs.declared.tree.Expr.{Expr}
use Rattle.spec_model.specs.declared.tree.Kind.TheVariants.{Recv, If, Either, Lookup}
use Rattle.spec_model.specs.declared.tree.Kind.TheBlock.{Row_of-Block, end_of-Block, more_of-Block, Row_of-Case, end_of-Case, more_of-Case, Row_of-Stmt, end_of-Stmt, more_of-Stmt, items-the_row-Block, items-the_row-Case, items-the_row-Stmt, items_shown-the_row-Stmt-2, hidden-the_row-Case-0, hidden-the_row-Block-1, items_hidden-the_row-Case-0, items_hidden-the_row-Block-1}
use Rattle.spec_model.specs.Grammar as gr
use Rattle.spec_model.specs.Grammar.{Piece, some, at, never}
use Rattle.spec_print.specs.Listed as li
use Rattle.spec_print.specs.Page.{Printed, put, puts}

stmts_of_row : {m : _} (row : Row_of-Stmt m) (next : List Piece) → gr.stmts li.leaves_out row next ≡ li.stmts (items-the_row-Stmt m row) next
stmts_of_row end_of-Stmt next = refl
stmts_of_row (more_of-Stmt place kind row) next = ap (λ n. gr.stmt li.leaves_out place kind n) (stmts_of_row row next)

cases_of_row : {m : _} (row : Row_of-Case m) (next : List Piece) → gr.cases li.leaves_out row next ≡ li.cases (items-the_row-Case m row) next
cases_of_row end_of-Case next = refl
cases_of_row (more_of-Case c row) next = ap (λ n. gr.case_ li.leaves_out c n) (cases_of_row row next)

other_arms_of_row : {m : _} (row : Row_of-Block m) (next : List Piece) → gr.other_arms li.leaves_out row next ≡ li.arms false (items-the_row-Block m row) next
other_arms_of_row end_of-Block next = refl
other_arms_of_row (more_of-Block b row) next = ap (λ n. gr.word words.Or ∷ gr.block li.leaves_out b n) (other_arms_of_row row next)

stmts_in : (place : ℕ) (shape : _) (row : Row_of-Stmt _) → (out-Block (Block' place shape row)).stmts ≡ items-the_row-Stmt _ row
stmts_in place shape row = ap (λ b. b.stmts) (outs-Block' place shape row) ∙ items_shown-the_row-Stmt-2 shape row

place_in : (place : ℕ) (shape : _) (row : Row_of-Stmt _) → (out-Block (Block' place shape row)).at ≡ place
place_in place shape row = ap (λ b. b.at) (outs-Block' place shape row)

pub block_pieces : (b : Block) (next : List Piece)
    → gr.block li.leaves_out b next ≡ at (out-Block b).at (tokens.Sign signs.Open) ∷ li.stmts (out-Block b).stmts (gr.sign signs.Close ∷ next)
block_pieces (Block' place shape row) next =
    let behind = gr.sign signs.Close ∷ next in
    ap (λ ps. at place (tokens.Sign signs.Open) ∷ ps) (stmts_of_row row behind ∙ ap (λ ss. li.stmts ss behind) (sym (stmts_in place shape row)))
    ∙ ap (λ p. at p (tokens.Sign signs.Open) ∷ li.stmts (out-Block (Block' place shape row)).stmts behind) (sym (place_in place shape row))

pub recv_pieces : (place : ℕ) (chan : Chan) (cases : List Case) (other : List ℕ) (rest : Block) (next : List Piece)
    → gr.stmt li.leaves_out place (Recv chan cases other rest) next
    ≡ at place (tokens.Keyword words.Recv) ∷ gr.chan chan (gr.sign signs.Open ∷ li.cases cases (gr.word words.Other ∷ gr.name other ∷ gr.block li.leaves_out rest (gr.sign signs.Close ∷ next)))
recv_pieces place chan cases other rest next =
    let behind = gr.word words.Other ∷ gr.name other ∷ gr.block li.leaves_out rest (gr.sign signs.Close ∷ next) in
    ap (λ ps. at place (tokens.Keyword words.Recv) ∷ gr.chan chan (gr.sign signs.Open ∷ ps))
    (cases_of_row (hidden-the_row-Case-0 cases) behind ∙ ap (λ cs. li.cases cs behind) (items_hidden-the_row-Case-0 cases))

arms_of_row : {m : _} (page after : Printed) (row : Row_of-Block m) → li.Puts page (li.arms true (items-the_row-Block m row)) after → li.Puts page (gr.arms li.leaves_out row) after
arms_of_row page after end_of-Block h = h
arms_of_row page after (more_of-Block b end_of-Block) h = λ next. h (never ∷ next)
arms_of_row page after (more_of-Block b (more_of-Block c row)) h = λ next.
    ap (λ n. puts page (gr.block li.leaves_out b (gr.word words.Or ∷ gr.block li.leaves_out c n))) (other_arms_of_row row next) ∙ h next

pub arms_put : (place : ℕ) (page before after : Printed) (arms : List Block) → before ≡ put page (tokens.Keyword words.Either) → li.Puts before (li.arms true arms) after
    → li.Puts page (gr.stmt li.leaves_out place (Either arms)) after
arms_put place page before after arms e h =
    arms_of_row (put page (tokens.Keyword words.Either)) after (hidden-the_row-Block-1 arms)
    (λ next. ap (λ bs. puts (put page (tokens.Keyword words.Either)) (li.arms true bs next)) (items_hidden-the_row-Block-1 arms) ∙ (ap (λ b. puts b (li.arms true arms next)) (sym e) ∙ h next))

-- ---- `else`

else_of_row : {m : _} (page : Printed) (row : Row_of-Stmt m) (b : Block) (next : List Piece)
    → puts page (if gr.has_none row then gr.empty_else row next else gr.word words.Else ∷ gr.block li.leaves_out b next) ≡ puts page (li.else_listed (items-the_row-Stmt m row) b next)
else_of_row page end_of-Stmt b next = refl
else_of_row page (more_of-Stmt place kind row) b next = refl

pub else_pieces : (page : Printed) (place : ℕ) (b : Block) (next : List Piece) → puts page (gr.else_part li.leaves_out place b next) ≡ puts page (li.else_part b next)
else_pieces page place (Block' there shape row) next =
    else_of_row page row (Block' there shape row) next
    ∙ ap (λ ss. puts page (li.else_listed ss (Block' there shape row) next)) (sym (stmts_in there shape row))

-- ---- statements of several steps

pub block_puts : (page inside last after : Printed) (b : Block) → inside ≡ put page (tokens.Sign signs.Open) → li.Puts inside (li.stmts (out-Block b).stmts) last
    → after ≡ put last (tokens.Sign signs.Close) → li.Puts page (li.block b) after
block_puts page inside last after b opened h closed = λ next.
    let behind = gr.sign signs.Close ∷ next in
    ap (puts page) (block_pieces b next) ∙ (ap (λ p. puts p (li.stmts (out-Block b).stmts behind)) (sym opened)
    ∙ (h behind ∙ ap (λ p. puts p next) (sym closed)))

pub if_puts : (page tested held after : Printed) (place : ℕ) (c : Cond) (holds fails : Block) → li.Puts page (λ next. gr.word words.If ∷ gr.cond c next) tested
    → li.Puts tested (li.block holds) held → li.Puts held (li.else_part fails) after → li.Puts page (gr.stmt li.leaves_out place (If c holds fails)) after
if_puts page tested held after place c holds fails h k l = λ next.
    let behind = gr.else_part li.leaves_out place fails next in
    h (li.block holds behind) ∙ (k behind ∙ (else_pieces held place fails next ∙ l next))

pub lookup_puts : (page tested held after : Printed) (place : ℕ) (table : List ℕ) (key : Expr) (name : List ℕ) (found missing : Block)
    → li.Puts page (λ next. gr.word words.Get ∷ gr.name table ∷ gr.atom key ∷ gr.name name ∷ next) tested
    → li.Puts tested (li.block found) held → li.Puts held (li.else_part missing) after → li.Puts page (gr.stmt li.leaves_out place (Lookup table key name found missing)) after
lookup_puts page tested held after place table key name found missing h k l = λ next.
    let behind = gr.else_part li.leaves_out place missing next in
    h (li.block found behind) ∙ (k behind ∙ (else_pieces held place missing next ∙ l next))

pub recv_puts : (page opened passed named rested after : Printed) (place : ℕ) (chan : Chan) (cases : List Case) (other : List ℕ) (rest : Block)
    → li.Puts page (λ next. gr.word words.Recv ∷ gr.chan chan (gr.sign signs.Open ∷ next)) opened → li.Puts opened (li.cases cases) passed
    → li.Puts passed (λ next. gr.word words.Other ∷ gr.name other ∷ next) named → li.Puts named (li.block rest) rested
    → after ≡ put rested (tokens.Sign signs.Close) → li.Puts page (gr.stmt li.leaves_out place (Recv chan cases other rest)) after
recv_puts page opened passed named rested after place chan cases other rest h k l m closed = λ next.
    let inside = li.block rest (gr.sign signs.Close ∷ next) in
    let behind = gr.word words.Other ∷ gr.name other ∷ inside in
    ap (puts page) (recv_pieces place chan cases other rest next) ∙ (h (li.cases cases behind) ∙ (k behind ∙ (l inside
    ∙ (m (gr.sign signs.Close ∷ next) ∙ ap (λ p. puts p next) (sym closed)))))

pub after_word_puts : (page first after : Printed) (keyword : Keyword) (b : Block) → first ≡ put page (tokens.Keyword keyword) → li.Puts first (li.block b) after
    → li.Puts page (li.block_after keyword b) after
after_word_puts page first after keyword (Block' place shape row) e h = λ next.
    ap (λ p. puts p (li.block (Block' place shape row) next)) (sym e) ∙ h next

pub header_puts : (page first framed limited named after : Printed) (shape : Shape) → first ≡ put page (tokens.Keyword words.Frame)
    → li.Puts first (λ next. gr.framing shape.framing ∷ next) framed → limited ≡ put framed (tokens.Number shape.limit)
    → named ≡ put limited (tokens.Keyword words.Conns) → after ≡ put named (tokens.Number shape.conns) → li.Puts page (li.header shape) after
header_puts page first framed limited named after shape a h b c d = λ next.
    let behind = gr.capped shape.limit ∷ gr.word words.Conns ∷ gr.capped shape.conns ∷ next in
    ap (λ p. puts p (gr.framing shape.framing ∷ behind)) (sym a) ∙ (h behind ∙ ap (λ p. puts p next) (sym (
    d ∙ ap (λ p. put p (tokens.Number shape.conns)) (c ∙ ap (λ p. put p (tokens.Keyword words.Conns)) b))))
