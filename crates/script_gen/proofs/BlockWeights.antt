-- A block of a statement weighs less than the statement.
use Rattle.std.proofs.Common.{◌≡◌, ℕ, zero, suc, ◌+◌, ◌<◌, ◌≤◌, List, [], ◌∷◌, ◌++◌, map, slice_get, Some, refl, ◌∙◌, ap, arith}
use Rattle.spec_model.specs.declared.tree.Block.{Block}
use Rattle.spec_model.specs.declared.tree.Case.{Case, out-Case}
use Rattle.spec_model.specs.declared.tree.Chan.{Chan}
use Rattle.spec_model.specs.declared.tree.Kind.{fold_out-Kind}
use Rattle.spec_model.specs.declared.tree.Kind.TheOpen.{Recv, Send, Pick, Assign, If, Either, Assume, Put, Lookup, Delete}
use Rattle.spec_model.specs.declared.tree.Stmt.{Stmt}
use Rattle.spec_model.specs.Config.{StmtKind, kind_of}
use Rattle.spec_model.proofs.Weights.{action_weight, block_weight, case_weight, kind_weight-either, kind_weight-lookup, kind_weight-positive, kind_weight-recv, stmt_weight, total, weight_of_block}
use Rattle.spec_rules.specs.declared.names.ValueType.TheVariants.{Text}
use Rattle.spec_rules.specs.Names.{local, names_of_chan, names_of_pattern}
use Rattle.spec_rules.specs.Place.{Inner, blocks_of, without_names}

abbrev inner_weight : Inner → ℕ
inner_weight inner = block_weight inner.block

cases_weigh : (chan : Chan) (cases : List Case) (last : Inner)
    → total (map inner_weight (map (λ case. record { bound = names_of_chan chan ++ names_of_pattern (out-Case case).items; block = (out-Case case).block }) cases ++ last ∷ []))
    ≡ total (map case_weight cases) + inner_weight last
cases_weigh chan [] last = omega arith
cases_weigh chan (case ∷ cases) last = let later = cases_weigh chan cases last in omega (arith, later)

arms_weigh : (arms : List Block) → total (map inner_weight (map without_names arms)) ≡ total (map block_weight arms)
arms_weigh [] = refl
arms_weigh (arm ∷ arms) = ap (λ weight. block_weight arm + weight) (arms_weigh arms)

blocks_weigh : (stmt : Stmt) (kind : StmtKind) → kind_of stmt ≡ kind → total (map inner_weight (blocks_of kind)) < stmt_weight stmt
blocks_weigh stmt (Recv chan cases other block) is =
    let whole = kind_weight-recv stmt.kind chan cases other block is in
    let parts = cases_weigh chan cases (record { bound = names_of_chan chan ++ local other Text ∷ []; block = block }) in
    omega (arith, whole, parts)
blocks_weigh stmt (If cond holds fails) is =
    let whole : stmt_weight stmt ≡ 1 + block_weight holds + block_weight fails =
    fold_out-Kind ℕ ℕ ℕ ℕ action_weight weight_of_block (λ case. case.block) (λ stmt. stmt.kind) stmt.kind ∙ rw is refl in
    omega (arith, whole)
blocks_weigh stmt (Either arms) is = let whole = kind_weight-either stmt.kind arms is in let parts = arms_weigh arms in omega (arith, whole, parts)
blocks_weigh stmt (Lookup table key name found missing) is = let whole = kind_weight-lookup stmt.kind table key name found missing is in omega (arith, whole)
blocks_weigh stmt (Send conn parts) is = kind_weight-positive stmt.kind
blocks_weigh stmt (Pick name len alphabet) is = kind_weight-positive stmt.kind
blocks_weigh stmt (Assign name left tail) is = kind_weight-positive stmt.kind
blocks_weigh stmt (Assume cond) is = kind_weight-positive stmt.kind
blocks_weigh stmt (Put table key value) is = kind_weight-positive stmt.kind
blocks_weigh stmt (Delete table key) is = kind_weight-positive stmt.kind

one_within : (inners : List Inner) (number : ℕ) (inner : Inner) → slice_get inners number ≡ Some inner → inner_weight inner ≤ total (map inner_weight inners)
one_within [] number inner is = absurd (cc)
one_within (first ∷ inners) zero inner is = let same : first ≡ inner = cc in rw (← same) (omega arith)
one_within (first ∷ inners) (suc number) inner is = let later = one_within inners number inner is in omega (arith, later)

pub block_lighter : (stmt : Stmt) (number : ℕ) (inner : Inner) → slice_get (blocks_of (kind_of stmt)) number ≡ Some inner → block_weight inner.block < stmt_weight stmt
block_lighter stmt number inner is =
    let one = one_within (blocks_of (kind_of stmt)) number inner is in
    let whole = blocks_weigh stmt (kind_of stmt) refl in
    omega (arith, one, whole)
