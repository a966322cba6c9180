-- Whether a specification picks nothing, as a test. No contract of a public function cites it.
use Rattle.std.specs.Prelude.{Bool, true, false, ◌&&◌, Option, Some, None}
use Rattle.std.specs.List.{list_all}
use Rattle.spec_model.specs.declared.tree.Block.{Block, fold-Block}
use Rattle.spec_model.specs.declared.tree.Case.{Case, out-Case}
use Rattle.spec_model.specs.declared.tree.Kind.{fold-Kind}
use Rattle.spec_model.specs.declared.tree.Kind.TheOpen.{Kind-F, Block-F, Recv, Pick, If, Either, Lookup}
use Rattle.spec_model.specs.declared.tree.Spec.{Spec}
use Rattle.spec_model.specs.declared.tree.Stmt.{Stmt}

-- whether a statement is no pick, and picks nothing in its blocks
abbrev pub kind_picks_nothing : Kind-F Bool Bool Bool Bool → Bool
kind_picks_nothing (Recv chan cases other block) = list_all (λ case. case) cases && block
kind_picks_nothing (Pick name len alphabet) = false
kind_picks_nothing (If cond holds fails) = holds && fails
kind_picks_nothing (Either arms) = list_all (λ arm. arm) arms
kind_picks_nothing (Lookup table key name found missing) = found && missing
kind_picks_nothing _ = true

abbrev pub stmts_pick_nothing : Block-F Bool Bool Bool Bool → Bool
stmts_pick_nothing block = list_all (λ stmt. stmt) block.stmts

abbrev pub block_picks_nothing : Block → Bool
block_picks_nothing block =
    fold-Block Bool Bool Bool Bool kind_picks_nothing stmts_pick_nothing (λ case. case.block) (λ stmt. stmt.kind) block

abbrev pub stmt_picks_nothing : Stmt → Bool
stmt_picks_nothing stmt =
    fold-Kind Bool Bool Bool Bool kind_picks_nothing stmts_pick_nothing (λ case. case.block) (λ stmt. stmt.kind) stmt.kind

abbrev pub case_picks_nothing : Case → Bool
case_picks_nothing case = block_picks_nothing (out-Case case).block

abbrev pub start_picks_nothing : Option Block → Bool
start_picks_nothing None = true
start_picks_nothing (Some start) = block_picks_nothing start

abbrev pub spec_picks_nothing : Spec → Bool
spec_picks_nothing spec = start_picks_nothing spec.start && block_picks_nothing spec.body
