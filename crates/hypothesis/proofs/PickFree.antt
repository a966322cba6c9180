-- Which specifications pick nothing: what the test says of their statements.
use Rattle.std.proofs.Common.{◌≡◌, ℕ, zero, suc, ◌<◌, ◌↔◌, inl, inr, Bool, true, false, not, ◌&&◌, List, [], ◌∷◌, ◌++◌, map, slice_get, Option, Some, None, refl, sym, ◌∙◌, ap, arith}
use Rattle.std.specs.List.{list_all}
use Rattle.spec_model.specs.declared.tree.Block.{Block, fold-Block, fold_out-Block}
use Rattle.spec_model.specs.declared.tree.Case.{Case, fold-Case, fold_out-Case, out-Case}
use Rattle.spec_model.specs.declared.tree.Chan.{Chan}
use Rattle.spec_model.specs.declared.tree.Kind.{fold_out-Kind}
use Rattle.spec_model.specs.declared.tree.Kind.TheOpen.{Recv, Send, Pick, Assign, If, Either, Assume, Put, Lookup, Delete}
use Rattle.spec_model.specs.declared.tree.Spec.{Spec}
use Rattle.spec_model.specs.declared.tree.Stmt.{Stmt, fold-Stmt, fold_out-Stmt}
use Rattle.spec_model.specs.Config.{StmtKind, kind_of, stmts_of}
use Rattle.spec_model.proofs.Partial.{both_passed}
use Rattle.spec_model.proofs.Weights.{block_weight-out, kind_weight-positive, stmt_weight, total}
use Rattle.spec_rules.specs.declared.names.Known.{Known}
use Rattle.spec_rules.specs.declared.names.ValueType.TheVariants.{Text}
use Rattle.spec_rules.specs.Names.{local, names_declared, names_of_chan, names_of_pattern}
use Rattle.spec_rules.specs.Place.{Inner, Place, StandsIn, StandsInStart, blocks_of, bound_behind, first, inside, later, without_names}
use Rattle.hypothesis.specs.Judged.{PicksNothing, is_pick}
use Rattle.hypothesis.specs.PickTest.{block_picks_nothing, case_picks_nothing, kind_picks_nothing, spec_picks_nothing, start_picks_nothing, stmt_picks_nothing, stmts_pick_nothing}
use Rattle.hypothesis.proofs.Blocks.{inner_lighter}

abbrev pub inner_picks_nothing : Inner → Bool
inner_picks_nothing inner = block_picks_nothing inner.block

each_stmt : (stmts : List Stmt)
    → list_all (λ b. b) (map (fold-Stmt Bool Bool Bool Bool kind_picks_nothing stmts_pick_nothing (λ case. case.block) (λ stmt. stmt.kind)) stmts) ≡ list_all stmt_picks_nothing stmts
each_stmt [] = refl
each_stmt (stmt ∷ stmts) =
    let one = fold_out-Stmt Bool Bool Bool Bool kind_picks_nothing stmts_pick_nothing (λ case. case.block) (λ stmt. stmt.kind) stmt in
    rw (one, each_stmt stmts) refl

-- a block picks nothing where its statements do not
pub block_picks_nothing-out : (block : Block) → block_picks_nothing block ≡ list_all stmt_picks_nothing (stmts_of block)
block_picks_nothing-out block =
    fold_out-Block Bool Bool Bool Bool kind_picks_nothing stmts_pick_nothing (λ case. case.block) (λ stmt. stmt.kind) block ∙ each_stmt (stmts_of block)

each_case : (cases : List Case)
    → list_all (λ b. b) (map (fold-Case Bool Bool Bool Bool kind_picks_nothing stmts_pick_nothing (λ case. case.block) (λ stmt. stmt.kind)) cases) ≡ list_all case_picks_nothing cases
each_case [] = refl
each_case (case ∷ cases) =
    let one = fold_out-Case Bool Bool Bool Bool kind_picks_nothing stmts_pick_nothing (λ case. case.block) (λ stmt. stmt.kind) case in
    rw (one, each_case cases) refl

each_arm : (arms : List Block)
    → list_all (λ b. b) (map (fold-Block Bool Bool Bool Bool kind_picks_nothing stmts_pick_nothing (λ case. case.block) (λ stmt. stmt.kind)) arms) ≡ list_all block_picks_nothing arms
each_arm [] = refl
each_arm (arm ∷ arms) = rw (each_arm arms) refl

pub stmt_picks-recv : (stmt : Stmt) (chan : Chan) (cases : List Case) (other : List ℕ) (block : Block) → kind_of stmt ≡ Recv chan cases other block
    → stmt_picks_nothing stmt ≡ (list_all case_picks_nothing cases && block_picks_nothing block)
stmt_picks-recv stmt chan cases other block is =
    fold_out-Kind Bool Bool Bool Bool kind_picks_nothing stmts_pick_nothing (λ case. case.block) (λ stmt. stmt.kind) stmt.kind
    ∙ rw is (rw (each_case cases) refl)

pub stmt_picks-either : (stmt : Stmt) (arms : List Block) → kind_of stmt ≡ Either arms → stmt_picks_nothing stmt ≡ list_all block_picks_nothing arms
stmt_picks-either stmt arms is =
    fold_out-Kind Bool Bool Bool Bool kind_picks_nothing stmts_pick_nothing (λ case. case.block) (λ stmt. stmt.kind) stmt.kind
    ∙ rw is (each_arm arms)

all_or_other : (chan : Chan) (cases : List Case) (last : Inner)
    → (list_all case_picks_nothing cases && inner_picks_nothing last)
    ≡ list_all inner_picks_nothing (map (λ case. record { bound = names_of_chan chan ++ names_of_pattern (out-Case case).items; block = (out-Case case).block }) cases ++ last ∷ [])
all_or_other chan [] last = and_true (inner_picks_nothing last)
  where
    and_true : (b : Bool) → b ≡ (b && true)
    and_true true = refl
    and_true false = refl
all_or_other chan (case ∷ cases) last = regroup (case_picks_nothing case) _ _ ∙ ap (λ b. case_picks_nothing case && b) (all_or_other chan cases last)
  where
    regroup : (a b c : Bool) → (a && b && c) ≡ (a && (b && c))
    regroup true b c = refl
    regroup false b c = refl

all_arms : (arms : List Block) → list_all block_picks_nothing arms ≡ list_all inner_picks_nothing (map without_names arms)
all_arms [] = refl
all_arms (arm ∷ arms) = ap (λ b. block_picks_nothing arm && b) (all_arms arms)

both_blocks : (a b : Bool) → (a && b) ≡ (a && (b && true))
both_blocks true true = refl
both_blocks true false = refl
both_blocks false b = refl

by_kind : (stmt : Stmt) (kind : StmtKind) → kind_of stmt ≡ kind → stmt_picks_nothing stmt ≡ (not (is_pick kind) && list_all inner_picks_nothing (blocks_of kind))
by_kind stmt (Recv chan cases other block) is =
    stmt_picks-recv stmt chan cases other block is
    ∙ all_or_other chan cases (record { bound = names_of_chan chan ++ local other Text ∷ []; block = block })
by_kind stmt (Either arms) is = stmt_picks-either stmt arms is ∙ all_arms arms
by_kind stmt (If cond holds fails) is =
    fold_out-Kind Bool Bool Bool Bool kind_picks_nothing stmts_pick_nothing (λ case. case.block) (λ stmt. stmt.kind) stmt.kind
    ∙ rw is (both_blocks (block_picks_nothing holds) (block_picks_nothing fails))
by_kind stmt (Lookup table key name found missing) is =
    fold_out-Kind Bool Bool Bool Bool kind_picks_nothing stmts_pick_nothing (λ case. case.block) (λ stmt. stmt.kind) stmt.kind
    ∙ rw is (both_blocks (block_picks_nothing found) (block_picks_nothing missing))
by_kind stmt (Send conn parts) is = fold_out-Kind Bool Bool Bool Bool kind_picks_nothing stmts_pick_nothing (λ case. case.block) (λ stmt. stmt.kind) stmt.kind ∙ rw is refl
by_kind stmt (Pick name len alphabet) is = fold_out-Kind Bool Bool Bool Bool kind_picks_nothing stmts_pick_nothing (λ case. case.block) (λ stmt. stmt.kind) stmt.kind ∙ rw is refl
by_kind stmt (Assign name left tail) is = fold_out-Kind Bool Bool Bool Bool kind_picks_nothing stmts_pick_nothing (λ case. case.block) (λ stmt. stmt.kind) stmt.kind ∙ rw is refl
by_kind stmt (Assume cond) is = fold_out-Kind Bool Bool Bool Bool kind_picks_nothing stmts_pick_nothing (λ case. case.block) (λ stmt. stmt.kind) stmt.kind ∙ rw is refl
by_kind stmt (Put table key value) is = fold_out-Kind Bool Bool Bool Bool kind_picks_nothing stmts_pick_nothing (λ case. case.block) (λ stmt. stmt.kind) stmt.kind ∙ rw is refl
by_kind stmt (Delete table key) is = fold_out-Kind Bool Bool Bool Bool kind_picks_nothing stmts_pick_nothing (λ case. case.block) (λ stmt. stmt.kind) stmt.kind ∙ rw is refl

-- a statement picks nothing where it is no pick, and its blocks pick nothing
stmt_picks_nothing-out : (stmt : Stmt) → stmt_picks_nothing stmt ≡ (not (is_pick (kind_of stmt)) && list_all inner_picks_nothing (blocks_of (kind_of stmt)))
stmt_picks_nothing-out stmt = by_kind stmt (kind_of stmt) refl

-- one item of a list of which all pass, and a list of which each passes
item_passes : {A : Type 0} (test : A → Bool) (xs : List A) (number : ℕ) (x : A) → list_all test xs ≡ true → slice_get xs number ≡ Some x → test x ≡ true
item_passes test [] number x all is = absurd (cc)
item_passes test (y ∷ xs) zero x all is = let same : y ≡ x = cc in ap test (sym same) ∙ (both_passed (test y) (list_all test xs) all).0
item_passes test (y ∷ xs) (suc number) x all is = item_passes test xs number x (both_passed (test y) (list_all test xs) all).1 is

each_passes : {A : Type 0} (test : A → Bool) (xs : List A) → ((number : ℕ) (x : A) → slice_get xs number ≡ Some x → test x ≡ true) → list_all test xs ≡ true
each_passes test [] each = refl
each_passes test (x ∷ xs) each = rw (each 0 x refl) (each_passes test xs (λ number y is. each (suc number) y is))

not_true : (b : Bool) → not b ≡ true → b ≡ false
not_true true e = absurd (cc)
not_true false e = refl

-- Where the test passes, no statement is a pick.
none_stands : (known : List Known) (stmts behind : List Stmt) (place : Place) → list_all stmt_picks_nothing stmts ≡ true → StandsIn known stmts behind place → is_pick (kind_of place.stmt) ≡ false
none_stands known _ behind place passed (first _ stmt stmts _) =
    let here = (both_passed (stmt_picks_nothing stmt) (list_all stmt_picks_nothing stmts) passed).0 in
    not_true _ (both_passed (not (is_pick (kind_of stmt))) _ (sym (stmt_picks_nothing-out stmt) ∙ here)).0
none_stands known _ behind place passed (later {stmt = stmt} {stmts = stmts} stands) =
    none_stands _ stmts behind place (both_passed (stmt_picks_nothing stmt) (list_all stmt_picks_nothing stmts) passed).1 stands
none_stands known _ behind place passed (inside {stmt = stmt} {stmts = stmts} number inner is stands) =
    let here = (both_passed (stmt_picks_nothing stmt) (list_all stmt_picks_nothing stmts) passed).0 in
    let blocks = (both_passed (not (is_pick (kind_of stmt))) (list_all inner_picks_nothing (blocks_of (kind_of stmt))) (sym (stmt_picks_nothing-out stmt) ∙ here)).1 in
    let block = item_passes inner_picks_nothing (blocks_of (kind_of stmt)) number inner blocks is in
    none_stands _ (stmts_of inner.block) _ place (sym (block_picks_nothing-out inner.block) ∙ block) stands

-- none of the statements that stand among these is a pick
abbrev NonePicks : List Known → List Stmt → List Stmt → Type 0
NonePicks known stmts behind = (place : Place) → StandsIn known stmts behind place → is_pick (kind_of place.stmt) ≡ false

both_pass : (a b : Bool) → a ≡ true → b ≡ true → (a && b) ≡ true
both_pass a b one other = rw (one, other) refl

-- Where no statement is a pick, the test passes.
stmts_pass : (most : ℕ) (known : List Known) (stmts behind : List Stmt) → total (map stmt_weight stmts) < most → NonePicks known stmts behind → list_all stmt_picks_nothing stmts ≡ true
stmts_pass zero known stmts behind small none = absurd (omega arith)
stmts_pass (suc most) known [] behind small none = refl
stmts_pass (suc most) known (stmt ∷ stmts) behind small none =
    let one = kind_weight-positive stmt.kind in
    let others = stmts_pass most (known ++ bound_behind (kind_of stmt)) stmts behind (omega (arith, one)) (λ place stands. none place (later stands)) in
    let no_pick : not (is_pick (kind_of stmt)) ≡ true = ap not (none (record { known = known; stmt = stmt; behind = stmts ++ behind }) (first known stmt stmts behind)) in
    let blocks = each_passes inner_picks_nothing (blocks_of (kind_of stmt))
    (λ number inner is.
    let lighter = inner_lighter stmt number inner is in
    let out = block_weight-out inner.block in
    block_picks_nothing-out inner.block
    ∙ stmts_pass most (known ++ inner.bound) (stmts_of inner.block) (stmts ++ behind) (omega (arith, lighter, out)) (λ place stands. none place (inside number inner is stands))) in
    both_pass (stmt_picks_nothing stmt) (list_all stmt_picks_nothing stmts)
    (stmt_picks_nothing-out stmt ∙ both_pass (not (is_pick (kind_of stmt))) (list_all inner_picks_nothing (blocks_of (kind_of stmt))) no_pick blocks)
    others

block_passes : (known : List Known) (block : Block) → NonePicks known (stmts_of block) [] → block_picks_nothing block ≡ true
block_passes known block none =
    block_picks_nothing-out block ∙ stmts_pass (suc (total (map stmt_weight (stmts_of block)))) known (stmts_of block) [] (omega arith) none

start_passes : (spec : Spec) (start : Option Block) → spec.start ≡ start → PicksNothing spec → start_picks_nothing start ≡ true
start_passes spec None is none = refl
start_passes spec (Some start) is none =
    block_passes (names_declared spec.decls) start (λ place stands. none place (inl (record { start = start; is = is; stands = stands })))

none_in_start : (spec : Spec) (place : Place) → start_picks_nothing spec.start ≡ true → StandsInStart spec place → is_pick (kind_of place.stmt) ≡ false
none_in_start spec place passed stands =
    let block : block_picks_nothing stands.start ≡ true = sym (ap start_picks_nothing stands.is) ∙ passed in
    none_stands _ (stmts_of stands.start) [] place (sym (block_picks_nothing-out stands.start) ∙ block) stands.stands

-- The test tells whether a specification picks nothing.
pub picks_told : (spec : Spec) → (spec_picks_nothing spec ≡ true) ↔ PicksNothing spec
picks_told spec = (none, passes)
  where
    none : spec_picks_nothing spec ≡ true → PicksNothing spec
    none passed place (inl in_start) = none_in_start spec place (both_passed (start_picks_nothing spec.start) (block_picks_nothing spec.body) passed).0 in_start
    none passed place (inr in_loop) =
        none_stands _ (stmts_of spec.body) [] place
        (sym (block_picks_nothing-out spec.body) ∙ (both_passed (start_picks_nothing spec.start) (block_picks_nothing spec.body) passed).1) in_loop

    passes : PicksNothing spec → spec_picks_nothing spec ≡ true
    passes nothing =
        both_pass (start_picks_nothing spec.start) (block_picks_nothing spec.body) (start_passes spec spec.start refl nothing)
        (block_passes (names_declared spec.decls) spec.body (λ place stands. nothing place (inr stands)))
