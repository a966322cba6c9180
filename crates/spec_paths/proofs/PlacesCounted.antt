-- Places are counted from the front.
use Rattle.std.proofs.Common.{◌≡◌, ℕ, zero, suc, ◌+◌, ◌<◌, ◌≤◌, List, [], ◌∷◌, ◌++◌, map, length, take, get_or, add-one, Some, slice_get, refl, sym, ◌∙◌, subst, ap, arith, ◌-◌, length-append}
use Rattle.std.proofs.Math.Seq.{take-length}
use Rattle.std.specs.List.{concat}
use Rattle.spec_model.specs.declared.tree.Block.{Block, fold_out-Block}
use Rattle.spec_model.specs.declared.tree.Case.{Case, fold-Case, fold_out-Case}
use Rattle.spec_model.specs.declared.tree.Chan.{Chan}
use Rattle.spec_model.specs.declared.tree.Cond.{Cond}
use Rattle.spec_model.specs.declared.tree.Expr.{Expr}
use Rattle.spec_model.specs.declared.tree.Kind.{Kind, out-Kind, fold_out-Kind}
use Rattle.spec_model.specs.declared.tree.Kind.TheOpen.{Recv, If, Lookup}
use Rattle.spec_model.specs.declared.tree.Stmt.{Stmt, fold-Stmt, fold_out-Stmt}
use Rattle.spec_model.specs.Config.{stmts_of}
use Rattle.spec_rules.specs.Bad.{places_in, places_in_kind}
use Rattle.spec_paths.specs.declared.places.Sought.{Sought}
use Rattle.spec_paths.specs.declared.places.Sought.TheVariants.{Found, Behind}
use Rattle.spec_paths.specs.Crowded.{block_of_case}
use Rattle.spec_paths.proofs.SomeItems.{found_first, found_later}
use Rattle.spec_paths.specs.Sought.{IsSought, places_of_kind, places_of_stmt}

-- what is sought behind a list that ended is sought in the next
pub sought_later : (first second : List ℕ) (skipped left : ℕ) (sought : Sought) → skipped ≡ length first + left → IsSought second left sought → IsSought (first ++ second) skipped sought
sought_later first second skipped left (Found at) ended is = ap (slice_get (first ++ second)) ended ∙ found_later first second left ∙ is
sought_later first second skipped left (Behind more) ended is = omega (arith, ended, is, length-append first second)

places_of_folds : (stmts : List Stmt)
    → concat (map (fold-Stmt (List ℕ) (List ℕ) (List ℕ) (List ℕ) places_in_kind (λ block. concat block.stmts) (λ case. case.block) (λ stmt. stmt.at ∷ stmt.kind)) stmts)
    ≡ concat (map places_of_stmt stmts)
places_of_folds [] = refl
places_of_folds (stmt ∷ stmts) =
    let one = fold_out-Stmt (List ℕ) (List ℕ) (List ℕ) (List ℕ) places_in_kind (λ block. concat block.stmts) (λ case. case.block) (λ stmt. stmt.at ∷ stmt.kind) stmt in
    let others = places_of_folds stmts in
    rw (one, others) refl

-- the places in a block are those of its statements
pub places_in-out : (block : Block) → places_in block ≡ concat (map places_of_stmt (stmts_of block))
places_in-out block =
    fold_out-Block (List ℕ) (List ℕ) (List ℕ) (List ℕ) places_in_kind (λ block. concat block.stmts) (λ case. case.block) (λ stmt. stmt.at ∷ stmt.kind) block
    ∙ places_of_folds (stmts_of block)

places_of_cases : (cases : List Case)
    → concat (map (fold-Case (List ℕ) (List ℕ) (List ℕ) (List ℕ) places_in_kind (λ block. concat block.stmts) (λ case. case.block) (λ stmt. stmt.at ∷ stmt.kind)) cases)
    ≡ concat (map (λ case. places_in (block_of_case case)) cases)
places_of_cases [] = refl
places_of_cases (case ∷ cases) =
    let one = fold_out-Case (List ℕ) (List ℕ) (List ℕ) (List ℕ) places_in_kind (λ block. concat block.stmts) (λ case. case.block) (λ stmt. stmt.at ∷ stmt.kind) case in
    let others = places_of_cases cases in
    rw (one, others) refl

pub places-recv : (kind : Kind) (chan : Chan) (cases : List Case) (other : List ℕ) (block : Block) → out-Kind kind ≡ Recv chan cases other block
    → places_of_kind kind ≡ concat (map (λ case. places_in (block_of_case case)) cases) ++ places_in block
places-recv kind chan cases other block e =
    fold_out-Kind (List ℕ) (List ℕ) (List ℕ) (List ℕ) places_in_kind (λ block. concat block.stmts) (λ case. case.block) (λ stmt. stmt.at ∷ stmt.kind) kind ∙ rw e refl
    ∙ ap (λ places. places ++ places_in block) (places_of_cases cases)

pub places-if : (kind : Kind) (cond : Cond) (holds fails : Block) → out-Kind kind ≡ If cond holds fails → places_of_kind kind ≡ places_in holds ++ places_in fails
places-if kind cond holds fails e =
    fold_out-Kind (List ℕ) (List ℕ) (List ℕ) (List ℕ) places_in_kind (λ block. concat block.stmts) (λ case. case.block) (λ stmt. stmt.at ∷ stmt.kind) kind ∙ rw e refl

pub places-lookup : (kind : Kind) (table : List ℕ) (key : Expr) (name : List ℕ) (found missing : Block) → out-Kind kind ≡ Lookup table key name found missing
    → places_of_kind kind ≡ places_in found ++ places_in missing
places-lookup kind table key name found missing e =
    fold_out-Kind (List ℕ) (List ℕ) (List ℕ) (List ℕ) places_in_kind (λ block. concat block.stmts) (λ case. case.block) (λ stmt. stmt.at ∷ stmt.kind) kind ∙ rw e refl

-- What is found in an item's places, of those of a list, is found in the places of all. The lists are gone through from the front.
found_in : {A : Type 0} (places : A → List ℕ) (items : List A) (index skipped left at : ℕ) (item : A) → index < length items
    → skipped ≡ length (concat (map places (take index items))) + left → slice_get (places (get_or items index item)) left ≡ Some at
    → slice_get (concat (map places items)) skipped ≡ Some at
found_in places [] index skipped left at item within counted is = absurd (omega arith)
found_in places (first ∷ items) zero skipped left at item within counted is =
    let here : skipped ≡ left = omega (arith, counted) in rw here (found_first (places first) _ left at is)
found_in places (first ∷ items) (suc index) skipped left at item within counted is =
    let before = length (concat (map places (take index items))) in
    let here : skipped ≡ length (places first) + (before + left) = omega (arith, counted, length-append (places first) (concat (map places (take index items)))) in
    rw (here, found_later (places first) (concat (map places items)) (before + left))
    (found_in places items index (before + left) left at item (omega arith) refl is)

counted_to : {A : Type 0} (places : A → List ℕ) (items : List A) (index skipped left more : ℕ) (item : A) → index < length items
    → skipped ≡ length (concat (map places (take index items))) + left → left ≡ length (places (get_or items index item)) + more
    → skipped ≡ length (concat (map places (take (suc index) items))) + more
counted_to places [] index skipped left more item within counted is = absurd (omega arith)
counted_to places (first ∷ items) zero skipped left more item within counted is = omega (arith, counted, is, length-append (places first) [])
counted_to places (first ∷ items) (suc index) skipped left more item within counted is =
    let before = length (concat (map places (take index items))) in
    let later = counted_to places items index (before + left) left more item (omega arith) refl is in
    omega (arith, counted, later, length-append (places first) (concat (map places (take index items))), length-append (places first) (concat (map places (take (suc index) items))))

-- The same of a loop that goes through the items of a list: it found the place, or goes on, or ends.
pub found_by_loop : {A : Type 0} (places : A → List ℕ) (list items : List A) (index skipped left at : ℕ) (item : A) → items ≡ list → index < length items
    → skipped ≡ length (concat (map places (take index items))) + left → item ≡ get_or items index item → slice_get (places item) left ≡ Some at
    → slice_get (concat (map places list)) skipped ≡ Some at
found_by_loop places list items index skipped left at item same within counted here is =
    rw (sym same) (found_in places items index skipped left at item within counted (subst (λ one. slice_get (places one) left ≡ Some at) here is))

pub counted_on : {A : Type 0} (places : A → List ℕ) (items : List A) (index skipped left more : ℕ) (item : A) → index < length items
    → skipped ≡ length (concat (map places (take index items))) + left → item ≡ get_or items index item → left ≡ length (places item) + more
    → skipped ≡ length (concat (map places (take (index + 1) items))) + more
counted_on places items index skipped left more item within counted here is =
    subst (λ upto. skipped ≡ length (concat (map places (take upto items))) + more) (sym (add-one index))
    (counted_to places items index skipped left more item within counted (subst (λ one. left ≡ length (places one) + more) here is))

pub counted_all : {A : Type 0} (places : A → List ℕ) (list items : List A) (index skipped left : ℕ) → items ≡ list → index ≤ length items → length items ≤ index
    → skipped ≡ length (concat (map places (take index items))) + left → skipped ≡ length (concat (map places list)) + left
counted_all places list items index skipped left same within past counted =
    let whole : take index items ≡ list = ap (λ upto. take upto items) (le_antisym within past) ∙ take-length items ∙ same in
    subst (λ front. skipped ≡ length (concat (map places front)) + left) whole counted
  where
    le_antisym : index ≤ length items → length items ≤ index → index ≡ length items
    le_antisym low high = omega (arith, low, high)

-- what is sought behind a statement is sought among those in it
pub sought_behind : (stmt : Stmt) (skipped : ℕ) (places : List ℕ) (sought : Sought) → (skipped ≡ 0 → ⊥) → places_of_kind stmt.kind ≡ places
    → IsSought places (skipped - 1) sought → IsSought (places_of_stmt stmt) skipped sought
sought_behind stmt skipped places sought behind is found =
    let one : skipped ≡ length (stmt.at ∷ []) + (skipped - 1) = omega (arith, behind) in
    subst (λ inside. IsSought (stmt.at ∷ inside) skipped sought) (sym is) (sought_later (stmt.at ∷ []) places skipped (skipped - 1) sought one found)
