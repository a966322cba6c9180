-- The places of the statements in a block are those of its statements and of what is in them.
use Rattle.std.proofs.Common.{◌≡◌, ℕ, List, [], ◌∷◌, map, refl, ◌∙◌}
use Rattle.std.specs.List.{concat}
use Rattle.spec_model.specs.declared.tree.Block.{Block, fold_out-Block}
use Rattle.spec_model.specs.declared.tree.Case.{Case, fold-Case, fold_out-Case, out-Case}
use Rattle.spec_model.specs.declared.tree.Kind.{Kind, fold_out-Kind, out-Kind}
use Rattle.spec_model.specs.declared.tree.Kind.{fold-Kind}
use Rattle.spec_model.specs.declared.tree.Kind.TheOpen.{Recv, Send, Pick, Assign, If, Either, Assume, Put, Lookup, Delete}
use Rattle.spec_model.specs.declared.tree.Stmt.{Stmt, fold-Stmt, fold_out-Stmt}
use Rattle.spec_model.specs.Config.{StmtKind, kind_of, stmts_of}
use Rattle.spec_rules.specs.Bad.{places_in, places_in_kind}
use Rattle.itree_data.specs.Making.{places_inside, places_of}

abbrev Places : Type 0
Places = List ℕ

cases_folded : (cases : List Case) → map (fold-Case Places Places Places Places places_in_kind (λ block. concat block.stmts) (λ case. case.block) (λ stmt. stmt.at ∷ stmt.kind)) cases
    ≡ map (λ case. places_in (out-Case case).block) cases
cases_folded cases = λ i. map (λ case. fold_out-Case Places Places Places Places places_in_kind (λ block. concat block.stmts) (λ case. case.block) (λ stmt. stmt.at ∷ stmt.kind) case i) cases

kind_folded : (kind : Kind) (open_kind : StmtKind) → out-Kind kind ≡ open_kind
    → fold-Kind Places Places Places Places places_in_kind (λ block. concat block.stmts) (λ case. case.block) (λ stmt. stmt.at ∷ stmt.kind) kind ≡ places_inside open_kind
kind_folded kind (Recv chan cases other block) is =
    fold_out-Kind Places Places Places Places places_in_kind (λ block. concat block.stmts) (λ case. case.block) (λ stmt. stmt.at ∷ stmt.kind) kind
    ∙ rw is (rw (cases_folded cases) refl)
kind_folded kind (Send named parts) is = fold_out-Kind Places Places Places Places places_in_kind (λ block. concat block.stmts) (λ case. case.block) (λ stmt. stmt.at ∷ stmt.kind) kind ∙ rw is refl
kind_folded kind (Pick name len alphabet) is = fold_out-Kind Places Places Places Places places_in_kind (λ block. concat block.stmts) (λ case. case.block) (λ stmt. stmt.at ∷ stmt.kind) kind ∙ rw is refl
kind_folded kind (Assign name left tail) is = fold_out-Kind Places Places Places Places places_in_kind (λ block. concat block.stmts) (λ case. case.block) (λ stmt. stmt.at ∷ stmt.kind) kind ∙ rw is refl
kind_folded kind (If condition holds fails) is = fold_out-Kind Places Places Places Places places_in_kind (λ block. concat block.stmts) (λ case. case.block) (λ stmt. stmt.at ∷ stmt.kind) kind ∙ rw is refl
kind_folded kind (Either arms) is = fold_out-Kind Places Places Places Places places_in_kind (λ block. concat block.stmts) (λ case. case.block) (λ stmt. stmt.at ∷ stmt.kind) kind ∙ rw is refl
kind_folded kind (Assume condition) is = fold_out-Kind Places Places Places Places places_in_kind (λ block. concat block.stmts) (λ case. case.block) (λ stmt. stmt.at ∷ stmt.kind) kind ∙ rw is refl
kind_folded kind (Put name key value) is = fold_out-Kind Places Places Places Places places_in_kind (λ block. concat block.stmts) (λ case. case.block) (λ stmt. stmt.at ∷ stmt.kind) kind ∙ rw is refl
kind_folded kind (Lookup name key bound found absent) is = fold_out-Kind Places Places Places Places places_in_kind (λ block. concat block.stmts) (λ case. case.block) (λ stmt. stmt.at ∷ stmt.kind) kind ∙ rw is refl
kind_folded kind (Delete name key) is = fold_out-Kind Places Places Places Places places_in_kind (λ block. concat block.stmts) (λ case. case.block) (λ stmt. stmt.at ∷ stmt.kind) kind ∙ rw is refl

stmts_folded : (stmts : List Stmt) → concat (map (fold-Stmt Places Places Places Places places_in_kind (λ block. concat block.stmts) (λ case. case.block) (λ stmt. stmt.at ∷ stmt.kind)) stmts) ≡ places_of stmts
stmts_folded [] = refl
stmts_folded (stmt ∷ stmts) =
    let one = fold_out-Stmt Places Places Places Places places_in_kind (λ block. concat block.stmts) (λ case. case.block) (λ stmt. stmt.at ∷ stmt.kind) stmt in
    let inside = kind_folded stmt.kind (kind_of stmt) refl in
    rw (one, inside, stmts_folded stmts) refl

pub places_in_block : (block : Block) → places_in block ≡ places_of (stmts_of block)
places_in_block block =
    fold_out-Block Places Places Places Places places_in_kind (λ block. concat block.stmts) (λ case. case.block) (λ stmt. stmt.at ∷ stmt.kind) block ∙ stmts_folded (stmts_of block)
