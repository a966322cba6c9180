-- How much is left to do: what the statements weigh.
use Rattle.std.proofs.Common.{◌≡◌, ℕ, ◌+◌, ◌<◌, List, [], ◌∷◌, ◌++◌, map, length, refl, sym, ◌∙◌, ap, subst, arith}
use Rattle.spec_model.specs.declared.config.Binding.{Binding}
use Rattle.spec_model.specs.declared.config.Config.{Config}
use Rattle.spec_model.specs.declared.config.Task.{Task}
use Rattle.spec_model.specs.declared.config.Task.TheVariants.{Do, Forget}
use Rattle.spec_model.specs.declared.tree.Block.{Block, fold-Block, fold_out-Block}
use Rattle.spec_model.specs.declared.tree.Case.{Case, out-Case, fold-Case, fold_out-Case}
use Rattle.spec_model.specs.declared.tree.Chan.{Chan}
use Rattle.spec_model.specs.declared.tree.Expr.{Expr}
use Rattle.spec_model.specs.declared.tree.Kind.{Kind, out-Kind, fold-Kind, fold_out-Kind}
use Rattle.spec_model.specs.declared.tree.Kind.TheOpen.{Kind-F, Block-F, Recv, Send, Pick, Assign, If, Either, Assume, Put, Lookup, Delete}
use Rattle.spec_model.specs.declared.tree.Stmt.{Stmt, fold-Stmt, fold_out-Stmt}
use Rattle.spec_model.specs.Config.{stmts_of, begin, after_entering}

-- the sum of numbers
abbrev pub total : List ℕ → ℕ
total [] = 0
total (n ∷ ns) = n + total ns

-- one, and what its blocks weigh
abbrev pub action_weight : Kind-F ℕ ℕ ℕ ℕ → ℕ
action_weight (Recv chan cases other block) = 1 + total cases + block
action_weight (If condition holds fails) = 1 + holds + fails
action_weight (Either arms) = 1 + total arms
action_weight (Lookup table key name found missing) = 1 + found + missing
action_weight _ = 1

abbrev pub weight_of_block : Block-F ℕ ℕ ℕ ℕ → ℕ
weight_of_block block = 1 + total block.stmts

-- what a statement weighs, and what a block weighs with its end
abbrev pub kind_weight : Kind → ℕ
kind_weight kind = fold-Kind ℕ ℕ ℕ ℕ action_weight weight_of_block (λ case. case.block) (λ stmt. stmt.kind) kind

abbrev pub block_weight : Block → ℕ
block_weight block = fold-Block ℕ ℕ ℕ ℕ action_weight weight_of_block (λ case. case.block) (λ stmt. stmt.kind) block

abbrev pub stmt_weight : Stmt → ℕ
stmt_weight stmt = kind_weight stmt.kind

abbrev pub task_weight : Task → ℕ
task_weight (Do stmt compared) = stmt_weight stmt
task_weight (Forget count) = 1

abbrev pub weight : List Task → ℕ
weight [] = 0
weight (task ∷ tasks) = task_weight task + weight tasks

fold_of_stmt : (stmt : Stmt) → fold-Stmt ℕ ℕ ℕ ℕ action_weight weight_of_block (λ case. case.block) (λ stmt. stmt.kind) stmt ≡ stmt_weight stmt
fold_of_stmt stmt = fold_out-Stmt ℕ ℕ ℕ ℕ action_weight weight_of_block (λ case. case.block) (λ stmt. stmt.kind) stmt

total_of_folds : (stmts : List Stmt) → total (map (fold-Stmt ℕ ℕ ℕ ℕ action_weight weight_of_block (λ case. case.block) (λ stmt. stmt.kind)) stmts) ≡ total (map stmt_weight stmts)
total_of_folds [] = refl
total_of_folds (stmt ∷ stmts) = let one = fold_of_stmt stmt in let others = total_of_folds stmts in omega arith

-- a block weighs what its statements weigh, and one for its end
pub block_weight-out : (block : Block) → block_weight block ≡ 1 + total (map stmt_weight (stmts_of block))
block_weight-out block =
    fold_out-Block ℕ ℕ ℕ ℕ action_weight weight_of_block (λ case. case.block) (λ stmt. stmt.kind) block ∙ ap (λ n. 1 + n) (total_of_folds (stmts_of block))

pub weight_of_todo : (stmts : List Stmt) (rest : List Task) → weight (map begin stmts ++ rest) ≡ total (map stmt_weight stmts) + weight rest
weight_of_todo [] rest = omega arith
weight_of_todo (stmt ∷ stmts) rest = let others = weight_of_todo stmts rest in omega arith

positive : (action : Kind-F ℕ ℕ ℕ ℕ) → 0 < action_weight action
positive (Recv _ _ _ _) = omega arith
positive (Send _ _) = omega arith
positive (Pick _ _ _) = omega arith
positive (Assign _ _ _) = omega arith
positive (If _ _ _) = omega arith
positive (Either _) = omega arith
positive (Assume _) = omega arith
positive (Put _ _ _) = omega arith
positive (Lookup _ _ _ _ _) = omega arith
positive (Delete _ _) = omega arith

-- a statement weighs at least one
pub kind_weight-positive : (kind : Kind) → 0 < kind_weight kind
kind_weight-positive kind =
    let P : ℕ → Type 0 = λ n. 0 < n in
    subst P (sym (fold_out-Kind ℕ ℕ ℕ ℕ action_weight weight_of_block (λ case. case.block) (λ stmt. stmt.kind) kind)) (positive _)

pub kind_weight-lookup : (kind : Kind) (table : List ℕ) (key : Expr) (name : List ℕ) (found missing : Block) → out-Kind kind ≡ Lookup table key name found missing → kind_weight kind ≡ 1 + block_weight found + block_weight missing
kind_weight-lookup kind table key name found missing e =
    fold_out-Kind ℕ ℕ ℕ ℕ action_weight weight_of_block (λ case. case.block) (λ stmt. stmt.kind) kind ∙ rw e refl

pub kind_weight-either : (kind : Kind) (arms : List Block) → out-Kind kind ≡ Either arms → kind_weight kind ≡ 1 + total (map block_weight arms)
kind_weight-either kind arms e =
    fold_out-Kind ℕ ℕ ℕ ℕ action_weight weight_of_block (λ case. case.block) (λ stmt. stmt.kind) kind ∙ rw e refl

-- what the block of a case weighs
abbrev pub case_weight : Case → ℕ
case_weight case = block_weight (out-Case case).block

total_of_cases : (cases : List Case) → total (map (fold-Case ℕ ℕ ℕ ℕ action_weight weight_of_block (λ case. case.block) (λ stmt. stmt.kind)) cases) ≡ total (map case_weight cases)
total_of_cases [] = refl
total_of_cases (case ∷ cases) =
    let one = fold_out-Case ℕ ℕ ℕ ℕ action_weight weight_of_block (λ case. case.block) (λ stmt. stmt.kind) case in let others = total_of_cases cases in omega (arith, one, others)

pub kind_weight-recv : (kind : Kind) (chan : Chan) (cases : List Case) (other : List ℕ) (block : Block) → out-Kind kind ≡ Recv chan cases other block
    → kind_weight kind ≡ 1 + total (map case_weight cases) + block_weight block
kind_weight-recv kind chan cases other block e =
    fold_out-Kind ℕ ℕ ℕ ℕ action_weight weight_of_block (λ case. case.block) (λ stmt. stmt.kind) kind ∙ rw e refl
    ∙ ap (λ n. 1 + n + block_weight block) (total_of_cases cases)

-- what an entered block leaves to do
pub weight-entered : (c : Config) (rest : List Task) (block : Block) (bound : List Binding) → weight (after_entering c rest block bound).todo ≡ block_weight block + weight rest
weight-entered c rest block bound =
    let all = weight_of_todo (stmts_of block) (Forget (length c.locals) ∷ rest) in let of_block = block_weight-out block in omega arith
