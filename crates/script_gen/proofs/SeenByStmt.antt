-- What is seen in a specification, statement by statement.
use Rattle.std.proofs.Common.{◌≡◌, ℕ, ◌+◌, ◌<◌, ◌≤◌, List, [], ◌∷◌, ◌++◌, length, map, drop, get_or, refl, sym, ◌∙◌, ap, append_assoc}
use Rattle.std.specs.Prelude.{flat_map}
use Rattle.std.proofs.lemmas.Grind.{flat_map-append}
use Rattle.std.proofs.lemmas.List.{append-nil, drop_all, drop_more}
use Rattle.spec_model.specs.declared.tree.Block.{Block, fold_out-Block}
use Rattle.spec_model.specs.declared.tree.Case.{Case, fold-Case, fold_out-Case, out-Case}
use Rattle.spec_model.specs.declared.tree.Item.{Item}
use Rattle.spec_model.specs.declared.tree.Kind.{Kind, fold-Kind, fold_out-Kind, out-Kind}
use Rattle.spec_model.specs.declared.tree.Kind.TheOpen.{Recv, Send, Pick, Assign, If, Either, Assume, Put, Lookup, Delete}
use Rattle.spec_model.specs.declared.tree.Spec.{Spec}
use Rattle.spec_model.specs.declared.tree.Stmt.{Stmt, fold_out-Stmt}
use Rattle.spec_model.specs.Config.{StmtKind, kind_of, stmts_of}
use Rattle.script_gen.specs.declared.plan.KnownPick.{KnownPick}
use Rattle.script_gen.specs.declared.plan.Plan.{Plan}
use Rattle.script_gen.specs.declared.plan.Site.{Site}
use Rattle.script_gen.specs.Plan.{plan_of, sites_at, templates_at}
use Rattle.script_gen.specs.Ready.{with_seen}
use Rattle.script_gen.specs.Seen.{CaseSeen, Seen, Sight, StmtSeen, asks, block_seen, case_seen, kind_seen, seen_in, seen_in_start, stmts_seen}
use Rattle.script_gen.specs.SeenStmts.{picks_behind, seen_at, seen_by, seen_in_arms, seen_in_cases, seen_in_stmts, templates_of_recv}

cases_folded : (cases : List Case)
    → map (fold-Case StmtSeen Sight CaseSeen StmtSeen kind_seen block_seen case_seen (λ stmt. stmt.kind)) cases
    ≡ map (λ case. record { template = (out-Case case).items; sight = seen_in (out-Case case).block }) cases
cases_folded cases = λ i. map (λ case. fold_out-Case StmtSeen Sight CaseSeen StmtSeen kind_seen block_seen case_seen (λ stmt. stmt.kind) case i) cases

sights_of_cases : (cases : List Case) (picks : List KnownPick)
    → flat_map (λ (case : CaseSeen). case.sight picks) (map (λ case. record { template = (out-Case case).items; sight = seen_in (out-Case case).block }) cases) ≡ seen_in_cases cases picks
sights_of_cases [] picks = refl
sights_of_cases (case ∷ cases) picks = ap (λ more. seen_in (out-Case case).block picks ++ more) (sights_of_cases cases picks)

templates_of_cases : (cases : List Case)
    → map (λ (case : CaseSeen). case.template) (map (λ case. record { template = (out-Case case).items; sight = seen_in (out-Case case).block }) cases) ≡ map (λ case. (out-Case case).items) cases
templates_of_cases [] = refl
templates_of_cases (case ∷ cases) = ap (λ more. (out-Case case).items ∷ more) (templates_of_cases cases)

sights_of_arms : (arms : List Block) (picks : List KnownPick) → flat_map (λ (arm : Sight). arm picks) (map seen_in arms) ≡ seen_in_arms arms picks
sights_of_arms [] picks = refl
sights_of_arms (arm ∷ arms) picks = ap (λ more. seen_in arm picks ++ more) (sights_of_arms arms picks)

-- what is seen of a statement, by what it does
kind_folded : (kind : Kind) (open_kind : StmtKind) → out-Kind kind ≡ open_kind
    → fold-Kind StmtSeen Sight CaseSeen StmtSeen kind_seen block_seen case_seen (λ stmt. stmt.kind) kind ≡ seen_by open_kind
kind_folded kind (Recv chan cases other rest) is =
    fold_out-Kind StmtSeen Sight CaseSeen StmtSeen kind_seen block_seen case_seen (λ stmt. stmt.kind) kind
    ∙ rw is (rw (cases_folded cases, templates_of_cases cases) (λ i. record { sight = λ picks. asks (templates_of_recv cases other) ∷ (sights_of_cases cases picks i ++ seen_in rest picks); picks = [] }))
kind_folded kind (Either arms) is =
    fold_out-Kind StmtSeen Sight CaseSeen StmtSeen kind_seen block_seen case_seen (λ stmt. stmt.kind) kind ∙ rw is (λ i. record { sight = λ picks. sights_of_arms arms picks i; picks = [] })
kind_folded kind (Send conn parts) is = fold_out-Kind StmtSeen Sight CaseSeen StmtSeen kind_seen block_seen case_seen (λ stmt. stmt.kind) kind ∙ rw is refl
kind_folded kind (Pick name len alphabet) is = fold_out-Kind StmtSeen Sight CaseSeen StmtSeen kind_seen block_seen case_seen (λ stmt. stmt.kind) kind ∙ rw is refl
kind_folded kind (Assign name left tail) is = fold_out-Kind StmtSeen Sight CaseSeen StmtSeen kind_seen block_seen case_seen (λ stmt. stmt.kind) kind ∙ rw is refl
kind_folded kind (If cond holds fails) is = fold_out-Kind StmtSeen Sight CaseSeen StmtSeen kind_seen block_seen case_seen (λ stmt. stmt.kind) kind ∙ rw is refl
kind_folded kind (Assume cond) is = fold_out-Kind StmtSeen Sight CaseSeen StmtSeen kind_seen block_seen case_seen (λ stmt. stmt.kind) kind ∙ rw is refl
kind_folded kind (Put table key value) is = fold_out-Kind StmtSeen Sight CaseSeen StmtSeen kind_seen block_seen case_seen (λ stmt. stmt.kind) kind ∙ rw is refl
kind_folded kind (Lookup table key name found missing) is = fold_out-Kind StmtSeen Sight CaseSeen StmtSeen kind_seen block_seen case_seen (λ stmt. stmt.kind) kind ∙ rw is refl
kind_folded kind (Delete table key) is = fold_out-Kind StmtSeen Sight CaseSeen StmtSeen kind_seen block_seen case_seen (λ stmt. stmt.kind) kind ∙ rw is refl

-- what is seen in a block is seen in its statements
pub seen_in-out : (block : Block) → seen_in block ≡ seen_in_stmts (stmts_of block)
seen_in-out block =
    fold_out-Block StmtSeen Sight CaseSeen StmtSeen kind_seen block_seen case_seen (λ stmt. stmt.kind) block
    ∙ ap stmts_seen (λ i. map (λ stmt. (fold_out-Stmt StmtSeen Sight CaseSeen StmtSeen kind_seen block_seen case_seen (λ stmt. stmt.kind) stmt ∙ kind_folded stmt.kind (kind_of stmt) refl) i) (stmts_of block))

same_plan : (plan : Plan) (templates other : List (List Item)) (sites more : List Site) → templates ≡ other → sites ≡ more
    → record plan { templates = templates; sites = sites } ≡ record plan { templates = other; sites = more }
same_plan plan templates other sites more one two = λ i. record plan { templates = one i; sites = two i }

-- what is seen first, and then more
pub with_seen-append : (plan : Plan) (front back : List Seen) → with_seen (with_seen plan front) back ≡ with_seen plan (front ++ back)
with_seen-append plan front back =
    same_plan plan _ _ _ _
    (append_assoc plan.templates (flat_map templates_at front) (flat_map templates_at back) ∙ ap (λ more. plan.templates ++ more) (sym (flat_map-append templates_at front back)))
    (append_assoc plan.sites (flat_map sites_at front) (flat_map sites_at back) ∙ ap (λ more. plan.sites ++ more) (sym (flat_map-append sites_at front back)))

pub with_seen-none : (plan : Plan) → with_seen plan [] ≡ plan
with_seen-none plan = same_plan plan _ _ _ _ (append-nil plan.templates) (append-nil plan.sites)

-- One statement more was seen, of those of a block.
pub seen_more : (plan here first : Plan) (stmts : List Stmt) (index : ℕ) (stmt : Stmt) (picks known : List KnownPick) (all : List Seen) → index < length stmts → stmt ≡ get_or stmts index stmt
    → here ≡ with_seen plan (seen_at stmt picks) → known ≡ picks ++ picks_behind stmt
    → with_seen plan (seen_in_stmts (drop index stmts) picks) ≡ with_seen first all
    → with_seen here (seen_in_stmts (drop (index + 1) stmts) known) ≡ with_seen first all
seen_more plan here first stmts index stmt picks known all within is seen behind left =
    let stmts_left : drop index stmts ≡ stmt ∷ drop (index + 1) stmts = drop_more stmts index stmt within ∙ ap (λ one. one ∷ drop (index + 1) stmts) (sym is) in
    let more = seen_in_stmts (drop (index + 1) stmts) in
    ap (λ plan. with_seen plan (more known)) seen ∙ ap (λ known. with_seen (with_seen plan (seen_at stmt picks)) (more known)) behind
    ∙ with_seen-append plan (seen_at stmt picks) (more (picks ++ picks_behind stmt))
    ∙ ap (λ stmts. with_seen plan (seen_in_stmts stmts picks)) (sym stmts_left) ∙ left

-- All statements of a block were seen.
pub seen_all : (block : Block) (plan first : Plan) (stmts : List Stmt) (index : ℕ) (picks known : List KnownPick) → stmts ≡ stmts_of block → length stmts ≤ index
    → with_seen plan (seen_in_stmts (drop index stmts) known) ≡ with_seen first (seen_in_stmts stmts picks) → plan ≡ with_seen first (seen_in block picks)
seen_all block plan first stmts index picks known is all left =
    let none = ap (λ stmts. with_seen plan (seen_in_stmts stmts known)) (drop_all index stmts all) in
    sym (with_seen-none plan) ∙ sym none ∙ left
    ∙ ap (λ stmts. with_seen first (seen_in_stmts stmts picks)) is ∙ ap (λ sight. with_seen first (sight picks)) (sym (seen_in-out block))

-- All of a specification was seen: first in `start`, then in its body.
pub plan_seen : (spec here : Spec) (begun whole : Plan) (conns : ℕ) (templates : List (List Item)) (sites : List Site) (picks : List KnownPick)
    → here ≡ spec → templates ≡ [] → sites ≡ [] → picks ≡ []
    → begun ≡ with_seen (record { shape = here.shape; conns = conns; templates = templates; sites = sites }) (seen_in_start here.start)
    → whole ≡ with_seen begun (seen_in here.body picks) → whole ≡ plan_of spec conns
plan_seen spec here begun whole conns templates sites picks same no_templates no_sites no_picks is_begun is_whole =
    is_whole ∙ ap (λ picks. with_seen begun (seen_in here.body picks)) no_picks ∙ ap (λ plan. with_seen plan (seen_in here.body [])) is_begun
    ∙ with_seen-append (record { shape = here.shape; conns = conns; templates = templates; sites = sites }) (seen_in_start here.start) (seen_in here.body [])
    ∙ rw (no_templates, no_sites, same) refl
