-- The plan of an accepted specification is ready: no pattern has too many items, and no pick is too short or too long.
use Rattle.std.proofs.Common.{◌≡◌, ℕ, zero, suc, ◌+◌, ◌<◌, ◌≤◌, ◌⊎◌, inl, inr, Bool, true, false, not, ◌||◌, if◌then◌else◌, List, [], ◌∷◌, ◌++◌, length, map, Option, Some, None, slice_get, refl, sym, ap, subst, append_assoc, arith, length-append}
use Rattle.std.specs.Prelude.{bytes_eq, find, flat_map, nat_le, nat_lt, option_and_then, option_map, option_to_list, slice_index_or}
use Rattle.std.specs.List.{AllByRecursion, list_any}
use Rattle.std.proofs.lemmas.Bool.Decides.{nat_tests}
use Rattle.std.proofs.lemmas.Grind.{flat_map-append}
use Rattle.spec_model.specs.declared.tree.Block.{Block}
use Rattle.spec_model.specs.declared.tree.Case.{Case, out-Case}
use Rattle.spec_model.specs.declared.tree.Chan.{Chan}
use Rattle.spec_model.specs.declared.tree.Expr.{Expr}
use Rattle.spec_model.specs.declared.tree.Expr.TheVariants as written
use Rattle.spec_model.specs.declared.tree.Item.{Item}
use Rattle.spec_model.specs.declared.tree.Kind.TheOpen.{Recv, Send, Pick, Assign, If, Either, Assume, Put, Lookup, Delete}
use Rattle.spec_model.specs.declared.tree.Spec.{Spec}
use Rattle.spec_model.specs.declared.tree.Stmt.{Stmt}
use Rattle.spec_model.specs.Config.{StmtKind, kind_of, stmts_of}
use Rattle.spec_model.proofs.Weights.{block_weight-out, kind_weight-positive, stmt_weight, total}
use Rattle.spec_rules.specs.declared.fault.Fault.TheVariants as faults
use Rattle.spec_rules.specs.declared.fault.Limit.TheVariants as limits
use Rattle.spec_rules.specs.declared.names.Known.{Known}
use Rattle.spec_rules.specs.declared.names.ValueType.TheVariants.{Text}
use Rattle.spec_rules.specs.Accepted.{IsAccepted}
use Rattle.spec_rules.specs.Bad.{begins_with_recv, has_bad_length, has_too_many_items, is_within}
use Rattle.spec_rules.specs.Path.{is_recv}
use Rattle.spec_rules.specs.Names.{local, names_declared, names_of_chan, names_of_pattern}
use Rattle.spec_rules.specs.Place.{Inner, Place, StandsIn, StandsInLoop, StandsInStart, blocks_of, bound_behind, first, inside, later, without_names}
use Rattle.script_gen.specs.declared.plan.KnownPick.{KnownPick}
use Rattle.script_gen.specs.Plan.{pick_len, plan_of, site_at, site_behind, sites_at, templates_at, templates_of}
use Rattle.script_gen.specs.Ready.{IsReady, IsSite, IsTemplate}
use Rattle.script_gen.specs.Seen.{Seen, asks, seen_in, seen_in_start, seen_of, sends}
use Rattle.script_gen.specs.SeenStmts.{picks_behind, seen_at, seen_by, seen_in_arms, seen_in_cases, seen_in_stmts, templates_of_recv}
use Rattle.script_gen.proofs.BlockWeights.{block_lighter}
use Rattle.script_gen.proofs.SeenByStmt.{seen_in-out}

pub all_of_both : {A : Type 0} (P : A → Type 0) (items more : List A) → AllByRecursion P items → AllByRecursion P more → AllByRecursion P (items ++ more)
all_of_both P [] more all others = others
all_of_both P (item ∷ items) more all others = (all.0, all_of_both P items more all.1 others)

pub item_of_all : {A : Type 0} (P : A → Type 0) (items : List A) (place : ℕ) (other : A) → place < length items → AllByRecursion P items → P (slice_index_or items place other)
item_of_all P [] place other within all = absurd (omega arith)
item_of_all P (item ∷ items) zero other within all = all.0
item_of_all P (item ∷ items) (suc place) other within all = item_of_all P items place other (omega arith) all.1

-- a length that a pick may have
pub record IsPickLen (pick : KnownPick) : Type 0 where
  pub least : 6 ≤ pick.len
  pub greatest : pick.len ≤ 32

-- Each template is one for a send, and each pick that is known is as long as it may be.
abbrev IsSound : Seen → Type 0
IsSound (asks templates) = AllByRecursion IsTemplate templates
IsSound (sends picks parts) = AllByRecursion IsPickLen picks

abbrev AreSound : List Seen → Type 0
AreSound seen = AllByRecursion IsSound seen

-- No statement among these has a bad pick, or a pattern with too many items.
abbrev NoneBad : List Known → List Stmt → List Stmt → Type 0
NoneBad known stmts behind =
    (place : Place) → StandsIn known stmts behind place → (has_bad_length place.known (kind_of place.stmt) ≡ false) × (has_too_many_items place.known (kind_of place.stmt) ≡ false)

neither : (a b : Bool) → (a || b) ≡ false → (a ≡ false) × (b ≡ false)
neither true b none = absurd (cc)
neither false b none = (refl, none)

few_items : (items : List Item) → nat_lt 16 (length items) ≡ false → IsTemplate items
few_items items few = grind (arith, nat_tests)

templates_sound : (cases : List Case) (other : List ℕ) → list_any (λ case. nat_lt 16 (length (out-Case case).items)) cases ≡ false
    → AllByRecursion IsTemplate (templates_of_recv cases other)
templates_sound [] other few = (omega arith, tt)
templates_sound (case ∷ cases) other few =
    let none = neither (nat_lt 16 (length (out-Case case).items)) _ few in
    (few_items (out-Case case).items none.0, templates_sound cases other none.1)

-- what is seen in a block of a statement is sound
abbrev BlockSound : List KnownPick → Inner → Type 0
BlockSound picks inner = AreSound (seen_in inner.block picks)

cases_sound : (picks : List KnownPick) (chan : Chan) (cases : List Case) (last : Inner)
    → AllByRecursion (BlockSound picks)
    (map (λ case. record { bound = names_of_chan chan ++ names_of_pattern (out-Case case).items; block = (out-Case case).block }) cases ++ last ∷ [])
    → AreSound (seen_in_cases cases picks ++ seen_in last.block picks)
cases_sound picks chan [] last all = all.0
cases_sound picks chan (case ∷ cases) last all =
    subst AreSound (sym (append_assoc (seen_in (out-Case case).block picks) (seen_in_cases cases picks) (seen_in last.block picks)))
    (all_of_both IsSound (seen_in (out-Case case).block picks) _ all.0 (cases_sound picks chan cases last all.1))

arms_sound : (picks : List KnownPick) (arms : List Block) → AllByRecursion (BlockSound picks) (map without_names arms) → AreSound (seen_in_arms arms picks)
arms_sound picks [] all = tt
arms_sound picks (arm ∷ arms) all = all_of_both IsSound (seen_in arm picks) _ all.0 (arms_sound picks arms all.1)

stmt_sound : (known : List Known) (picks : List KnownPick) (kind : StmtKind) → has_too_many_items known kind ≡ false
    → AllByRecursion IsPickLen picks → AllByRecursion (BlockSound picks) (blocks_of kind) → AreSound ((seen_by kind).sight picks)
stmt_sound known picks (Recv chan cases other rest) few sound blocks =
    (templates_sound cases other few, cases_sound picks chan cases (record { bound = names_of_chan chan ++ local other Text ∷ []; block = rest }) blocks)
stmt_sound known picks (Send conn parts) few sound blocks = (sound, tt)
stmt_sound known picks (If cond holds fails) few sound blocks = all_of_both IsSound (seen_in holds picks) _ blocks.0 blocks.1.0
stmt_sound known picks (Either arms) few sound blocks = arms_sound picks arms blocks
stmt_sound known picks (Lookup table key name found missing) few sound blocks = all_of_both IsSound (seen_in found picks) _ blocks.0 blocks.1.0
stmt_sound known picks (Pick name len alphabet) few sound blocks = tt
stmt_sound known picks (Assign name left tail) few sound blocks = tt
stmt_sound known picks (Assume cond) few sound blocks = tt
stmt_sound known picks (Put table key value) few sound blocks = tt
stmt_sound known picks (Delete table key) few sound blocks = tt

good_length : (len : ℕ) → not (is_within 6 32 len) ≡ false → (6 ≤ len) × (len ≤ 32)
good_length len good = (grind (arith, nat_tests), grind (arith, nat_tests))

-- the pick that a statement makes known is as long as it may be
behind_sound : (known : List Known) (kind : StmtKind) → has_bad_length known kind ≡ false → AllByRecursion IsPickLen (seen_by kind).picks
behind_sound known (Pick name len alphabet) good = let lens = good_length len good in (record { least = lens.0; greatest = lens.1 }, tt)
behind_sound known (Recv chan cases other rest) good = tt
behind_sound known (Send conn parts) good = tt
behind_sound known (Assign name left tail) good = tt
behind_sound known (If cond holds fails) good = tt
behind_sound known (Either arms) good = tt
behind_sound known (Assume cond) good = tt
behind_sound known (Put table key value) good = tt
behind_sound known (Lookup table key name found missing) good = tt
behind_sound known (Delete table key) good = tt

each_of : {A : Type 0} (P : A → Type 0) (items : List A) → ((number : ℕ) (item : A) → slice_get items number ≡ Some item → P item) → AllByRecursion P items
each_of P [] each = tt
each_of P (item ∷ items) each = (each 0 item refl, each_of P items (λ number other is. each (suc number) other is))

stmts_sound : (most : ℕ) (known : List Known) (picks : List KnownPick) (stmts behind : List Stmt) → total (map stmt_weight stmts) < most
    → NoneBad known stmts behind → AllByRecursion IsPickLen picks → AreSound (seen_in_stmts stmts picks)
stmts_sound zero known picks stmts behind small none sound = absurd (omega arith)
stmts_sound (suc most) known picks [] behind small none sound = tt
stmts_sound (suc most) known picks (stmt ∷ stmts) behind small none sound =
    let here = none (record { known = known; stmt = stmt; behind = stmts ++ behind }) (first known stmt stmts behind) in
    let positive = kind_weight-positive stmt.kind in
    let blocks = each_of (BlockSound picks) (blocks_of (kind_of stmt))
    (λ number inner is.
    let lighter = block_lighter stmt number inner is in
    let out = block_weight-out inner.block in
    subst (λ sight. AreSound (sight picks)) (sym (seen_in-out inner.block))
    (stmts_sound most (known ++ inner.bound) picks (stmts_of inner.block) (stmts ++ behind) (omega (arith, lighter, out)) (λ place stands. none place (inside number inner is stands)) sound)) in
    all_of_both IsSound (seen_at stmt picks) _
    (stmt_sound known picks (kind_of stmt) here.1 sound blocks)
    (stmts_sound most (known ++ bound_behind (kind_of stmt)) (picks ++ picks_behind stmt) stmts behind (omega (arith, positive)) (λ place stands. none place (later stands))
    (all_of_both IsPickLen picks (picks_behind stmt) sound (behind_sound known (kind_of stmt) here.0)))

block_sound : (known : List Known) (block : Block) → NoneBad known (stmts_of block) [] → AreSound (seen_in block [])
block_sound known block none =
    subst (λ sight. AreSound (sight [])) (sym (seen_in-out block)) (stmts_sound (suc (total (map stmt_weight (stmts_of block)))) known [] (stmts_of block) [] (omega arith) none tt)

is_false : (test : Bool) → (test ≡ true → ⊥) → test ≡ false
is_false true none = absurd (none refl)
is_false false none = refl

none_bad_at : (spec : Spec) → IsAccepted spec → (place : Place) → StandsInStart spec place ⊎ StandsInLoop spec place
    → (has_bad_length place.known (kind_of place.stmt) ≡ false) × (has_too_many_items place.known (kind_of place.stmt) ≡ false)
none_bad_at spec accepted place stands = (
  is_false _ (λ bad. accepted.none_bad faults.PickLength place.stmt.at (record { place = place; stands = stands; passes = bad; here = refl })),
  is_false _ (λ bad. accepted.none_bad (faults.Limit limits.Items) place.stmt.at (record { place = place; stands = stands; passes = bad; here = refl })),
)

start_sound : (spec : Spec) (start : Option Block) → IsAccepted spec → spec.start ≡ start → AreSound (seen_in_start start)
start_sound spec None accepted is = tt
start_sound spec (Some start) accepted is =
    block_sound (names_declared spec.decls) start (λ place stands. none_bad_at spec accepted place (inl (record { start = start; is = is; stands = stands })))

pub all_sound : (spec : Spec) → IsAccepted spec → AreSound (seen_of spec)
all_sound spec accepted =
    all_of_both IsSound (seen_in_start spec.start) _ (start_sound spec spec.start accepted refl)
    (block_sound (names_declared spec.decls) spec.body (λ place stands. none_bad_at spec accepted place (inr stands)))

templates_few : (seen : List Seen) → AreSound seen → AllByRecursion IsTemplate (flat_map templates_at seen)
templates_few [] sound = tt
templates_few (asks templates ∷ seen) sound = all_of_both IsTemplate templates _ sound.0 (templates_few seen sound.1)
templates_few (sends picks parts ∷ seen) sound = templates_few seen sound.1

-- a pick that is known by a name is as long as it may be
named_sound : (picks : List KnownPick) (name : List ℕ) (len : ℕ) → AllByRecursion IsPickLen picks → pick_len picks name ≡ Some len → (6 ≤ len) × (len ≤ 32)
named_sound [] name len sound is = absurd (cc)
named_sound (pick ∷ picks) name len sound is = by_test (bytes_eq pick.name name) (λ found. named_sound picks name len sound.1 found) is
  where
    by_test : (test : Bool) → (pick_len picks name ≡ Some len → (6 ≤ len) × (len ≤ 32))
        → option_map (λ (pick : KnownPick). pick.len) (if test then Some pick else find (λ (pick : KnownPick). bytes_eq pick.name name) picks) ≡ Some len
        → (6 ≤ len) × (len ≤ 32)
    by_test true behind found = let same : pick.len ≡ len = cc in (omega (arith, sound.0.least), omega (arith, sound.0.greatest))
    by_test false behind found = behind found

sited : (start len : ℕ) → 6 ≤ len → len ≤ 32 → AllByRecursion IsSite (option_to_list (site_at start len))
sited start len least greatest = by_test (nat_le (start + len) 4096) refl
  where
    by_test : (test : Bool) → nat_le (start + len) 4096 ≡ test → AllByRecursion IsSite (option_to_list (if test then Some (record { start = start; len = len }) else None))
    by_test true near =
        let end : start + len ≤ 4096 = grind (arith, nat_tests) in
        (record { start_within = omega arith; one_byte = omega arith; length_within = omega arith }, tt)
    by_test false far = tt

parts_sited : (picks : List KnownPick) (start : ℕ) (parts : List Expr) → AllByRecursion IsPickLen picks → AllByRecursion IsSite (option_to_list (site_behind picks start parts))
parts_sited picks start [] sound = tt
parts_sited picks start (written.Text text ∷ parts) sound = parts_sited picks (start + length text) parts sound
parts_sited picks start (written.Num number ∷ parts) sound = tt
parts_sited picks start (written.Name name ∷ parts) sound = by_len (pick_len picks name) refl
  where
    by_len : (len : Option ℕ) → pick_len picks name ≡ len → AllByRecursion IsSite (option_to_list (option_and_then (site_at start) len))
    by_len None is = tt
    by_len (Some len) is = let lens = named_sound picks name len sound is in sited start len lens.0 lens.1

sites_sound : (seen : List Seen) → AreSound seen → AllByRecursion IsSite (flat_map sites_at seen)
sites_sound [] sound = tt
sites_sound (asks templates ∷ seen) sound = sites_sound seen sound.1
sites_sound (sends picks parts ∷ seen) sound =
    all_of_both IsSite (option_to_list (site_behind picks 0 parts)) _ (parts_sited picks 0 parts sound.0) (sites_sound seen sound.1)

some_templates : (cases : List Case) (other : List ℕ) (more : List (List Item)) → 1 ≤ length (templates_of_recv cases other ++ more)
some_templates [] other more = omega arith
some_templates (case ∷ cases) other more = omega arith

some_by_kind : (kind : StmtKind) (stmts : List Stmt) → is_recv kind ≡ true → 1 ≤ length (flat_map templates_at ((seen_by kind).sight [] ++ seen_in_stmts stmts ([] ++ (seen_by kind).picks)))
some_by_kind (Recv chan cases other rest) stmts takes = some_templates cases other _
some_by_kind _ stmts takes = absurd (cc)

-- The loop begins with a `recv`, so there is a template.
some_in_loop : (stmts : List Stmt) → begins_with_recv stmts ≡ true → 1 ≤ length (flat_map templates_at (seen_in_stmts stmts []))
some_in_loop [] begins = absurd (cc)
some_in_loop (stmt ∷ stmts) begins = some_by_kind (kind_of stmt) stmts begins

begins : (spec : Spec) → IsAccepted spec → begins_with_recv (stmts_of spec.body) ≡ true
begins spec accepted = is_true (begins_with_recv (stmts_of spec.body)) (λ none. accepted.none_bad faults.NoTake _ (none, refl))
  where
    is_true : (test : Bool) → (test ≡ false → ⊥) → test ≡ true
    is_true true not_false = refl
    is_true false not_false = absurd (not_false refl)

one_template_at_least : (spec : Spec) → IsAccepted spec → 1 ≤ length (templates_of spec)
one_template_at_least spec accepted =
    let of_loop : 1 ≤ length (flat_map templates_at (seen_in spec.body [])) =
    subst (λ sight. 1 ≤ length (flat_map templates_at (sight []))) (sym (seen_in-out spec.body)) (some_in_loop (stmts_of spec.body) (begins spec accepted)) in
    let front = seen_in_start spec.start in
    omega (arith, of_loop, ap length (flat_map-append templates_at front (seen_in spec.body [])), length-append (flat_map templates_at front) (flat_map templates_at (seen_in spec.body [])))

pub ready : (spec : Spec) (conns : ℕ) → IsAccepted spec → 1 ≤ conns → conns ≤ spec.shape.conns → IsReady (plan_of spec conns)
ready spec conns accepted one within = record {
  one_conn = one;
  conns_within = within;
  one_template = one_template_at_least spec accepted;
  templates = templates_few (seen_of spec) (all_sound spec accepted);
  sites = sites_sound (seen_of spec) (all_sound spec accepted);
}
