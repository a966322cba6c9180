-- Nodes of the tree, made of lists, are those made of rows.
use Rattle.std.proofs.Common.{◌≡◌, ℕ, List, ap, sym, ◌∙◌}
use Rattle.spec_model.specs.declared.tree.Block.{Block, Block', roll-Block, out-Block, roll-out-Block, outs-Block'}
use Rattle.spec_model.specs.declared.tree.Case.{Case', roll-Case, roll-out-Case, outs-Case'}
use Rattle.spec_model.specs.declared.tree.Chan.{Chan}
use Rattle.spec_model.specs.declared.tree.Item.{Item}
use Rattle.spec_model.specs.declared.tree.Kind.{roll-Kind, out-Kind, roll-out-Kind}
use Rattle.spec_model.specs.declared.tree.Kind.TheOpen as seen
use Rattle.spec_model.specs.declared.tree.Kind.TheVariants.{Recv, Recv', rolls-Recv, outs-Recv', Either, Either', rolls-Either, outs-Either'}
use Rattle.spec_model.specs.declared.tree.Kind.TheBlock.{Row_of-Block, Row_of-Case, Row_of-Stmt, items-the_row-Block, items-the_row-Case, items-the_row-Stmt, items_shown-the_row-Block-1, items_shown-the_row-Case-0, items_shown-the_row-Stmt-2}

pub block_made : (place : ℕ) (shape : _) (row : Row_of-Stmt _) → roll-Block (record { at = place; stmts = items-the_row-Stmt _ row }) ≡ Block' place shape row
block_made place shape row =
    let e : out-Block (Block' place shape row) ≡ record { at = place; stmts = items-the_row-Stmt _ row } =
    outs-Block' place shape row ∙ ap (λ stmts. record { at = place; stmts = stmts }) (items_shown-the_row-Stmt-2 shape row) in
    ap roll-Block (sym e) ∙ roll-out-Block (Block' place shape row)

pub case_made : (items : List Item) (block : Block) → roll-Case (record { items = items; block = block }) ≡ Case' items block
case_made items block = ap roll-Case (sym (outs-Case' items block)) ∙ roll-out-Case (Case' items block)

pub recv_made : (chan : Chan) (shape : _) (row : Row_of-Case _) (other : List ℕ) (rest : Block) → Recv chan (items-the_row-Case _ row) other rest ≡ Recv' chan shape row other rest
recv_made chan shape row other rest =
    let e : out-Kind (Recv' chan shape row other rest) ≡ seen.Recv chan (items-the_row-Case _ row) other rest =
    outs-Recv' chan shape row other rest ∙ ap (λ cases. seen.Recv chan cases other rest) (items_shown-the_row-Case-0 shape row) in
    sym (rolls-Recv chan (items-the_row-Case _ row) other rest) ∙ (ap roll-Kind (sym e) ∙ roll-out-Kind (Recv' chan shape row other rest))

pub either_made : (shape : _) (row : Row_of-Block _) → Either (items-the_row-Block _ row) ≡ Either' shape row
either_made shape row =
    let e : out-Kind (Either' shape row) ≡ seen.Either (items-the_row-Block _ row) =
    outs-Either' shape row ∙ ap (λ arms. seen.Either arms) (items_shown-the_row-Block-1 shape row) in
    sym (rolls-Either (items-the_row-Block _ row)) ∙ (ap roll-Kind (sym e) ∙ roll-out-Kind (Either' shape row))
