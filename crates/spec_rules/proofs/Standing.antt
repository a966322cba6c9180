-- What is to do in a run stands in the specification, and its loop begins with a `recv`.
use Rattle.std.proofs.Common.{◌≡◌, ℕ, ◌⊎◌, inl, inr, List, [], ◌∷◌, ◌++◌, map, Option, Some, None, false, refl, sym, subst}
use Rattle.std.specs.Prelude.{slice_get}
use Rattle.std.specs.List.{AllByRecursion}
use Rattle.spec_model.specs.declared.config.Config.{Config}
use Rattle.spec_model.specs.declared.config.Task.{Task}
use Rattle.spec_model.specs.declared.config.Task.TheVariants.{Do, Forget}
use Rattle.spec_model.specs.declared.event.ServerEvent.{ServerEvent}
use Rattle.spec_model.specs.declared.tree.Block.{Block, out-Block}
use Rattle.spec_model.specs.declared.tree.Kind.TheOpen.{Recv, Send, Pick, Assign, If, Either, Assume, Put, Lookup, Delete}
use Rattle.spec_model.specs.declared.tree.Spec.{Spec}
use Rattle.spec_model.specs.declared.tree.Stmt.{Stmt}
use Rattle.spec_model.specs.Config.{StmtKind, after_entering, after_start, begin, first_config, idle_config, kind_of, stmts_of}
use Rattle.spec_model.specs.Run.{BeginsWithRecv, Opens, RunsTo, Settles, Step, Steps, passes, settled}
use Rattle.spec_model.specs.Step.{after_event_at, after_silent_work_at}
use Rattle.spec_rules.specs.declared.fault.Fault.TheVariants as faults
use Rattle.spec_rules.specs.declared.names.Known.{Known}
use Rattle.spec_rules.specs.Accepted.{IsAccepted}
use Rattle.spec_rules.specs.Bad.{begins_with_recv, first_place}
use Rattle.spec_rules.specs.Names.{names_declared}
use Rattle.spec_rules.specs.Path.{is_recv}
use Rattle.spec_rules.specs.Place.{Inner, Place, StandsIn, StandsInLoop, StandsInStart, blocks_of, bound_behind, first, inside, later}
use Rattle.spec_rules.specs.ToDo.{IsStmtOf, IsTaskOf}
use Rattle.spec_rules.proofs.Leaves.{IsBlockIn, Leaves, compares_on, enters, event_leaves, goes_on, silent_leaves}

begins_by_kind : (spec : Spec) (recv : Stmt) (more : List Stmt) (kind : StmtKind) → stmts_of spec.body ≡ recv ∷ more → kind_of recv ≡ kind → (is_recv kind ≡ false → ⊥) → BeginsWithRecv spec
begins_by_kind spec recv more (Recv chan cases other rest) body takes never =
    record { recv = recv; more = more; chan = chan; cases = cases; other = other; rest = rest; body = body; takes = takes }
begins_by_kind spec recv more (Send conn parts) body takes never = absurd (never refl)
begins_by_kind spec recv more (Pick name len alphabet) body takes never = absurd (never refl)
begins_by_kind spec recv more (Assign name left tail) body takes never = absurd (never refl)
begins_by_kind spec recv more (If cond holds fails) body takes never = absurd (never refl)
begins_by_kind spec recv more (Either arms) body takes never = absurd (never refl)
begins_by_kind spec recv more (Assume cond) body takes never = absurd (never refl)
begins_by_kind spec recv more (Put table key value) body takes never = absurd (never refl)
begins_by_kind spec recv more (Lookup table key name found missing) body takes never = absurd (never refl)
begins_by_kind spec recv more (Delete table key) body takes never = absurd (never refl)

begins_by_stmts : (spec : Spec) (stmts : List Stmt) → stmts_of spec.body ≡ stmts → (begins_with_recv stmts ≡ false → ⊥) → BeginsWithRecv spec
begins_by_stmts spec [] body never = absurd (never refl)
begins_by_stmts spec (recv ∷ more) body never = begins_by_kind spec recv more (kind_of recv) body refl never

pub begins : (spec : Spec) → IsAccepted spec → BeginsWithRecv spec
begins spec accepted =
    begins_by_stmts spec (stmts_of spec.body) refl (λ none. accepted.none_bad faults.NoTake (first_place (out-Block spec.body).at (stmts_of spec.body)) (none, refl))

-- A statement of a block of a statement stands where that one does, with what is behind it.
pub deeper : (known : List Known) (stmts behind : List Stmt) (outer place : Place) (number : ℕ) (inner : Inner) → StandsIn known stmts behind outer
    → slice_get (blocks_of (kind_of outer.stmt)) number ≡ Some inner
    → StandsIn (outer.known ++ inner.bound) (stmts_of inner.block) outer.behind place → StandsIn known stmts behind place
deeper known _ behind outer place number inner (first _ _ _ _) is within = inside number inner is within
deeper known _ behind outer place number inner (later stands) is within = later (deeper _ _ _ outer place number inner stands is within)
deeper known _ behind outer place number inner (inside at other other_is stands) is within =
    inside at other other_is (deeper _ _ _ outer place number inner stands is within)

pub record StandsAmong (known : List Known) (stmts behind : List Stmt) (stmt : Stmt) : Type 0 where
  pub place : Place
  pub stands : StandsIn known stmts behind place
  pub is : place.stmt ≡ stmt

one_later : (known : List Known) (before : Stmt) (stmts behind : List Stmt) (these : List Stmt)
    → AllByRecursion (StandsAmong (known ++ bound_behind (kind_of before)) stmts behind) these → AllByRecursion (StandsAmong known (before ∷ stmts) behind) these
one_later known before stmts behind [] all = tt
one_later known before stmts behind (stmt ∷ these) all =
    (record { place = all.0.place; stands = later all.0.stands; is = all.0.is }, one_later known before stmts behind these all.1)

-- each of these statements stands among them
all_stand : (known : List Known) (stmts behind : List Stmt) → AllByRecursion (StandsAmong known stmts behind) stmts
all_stand known [] behind = tt
all_stand known (stmt ∷ stmts) behind = (
  record { place = record { known = known; stmt = stmt; behind = stmts ++ behind }; stands = first known stmt stmts behind; is = refl },
  one_later known stmt stmts behind stmts (all_stand (known ++ bound_behind (kind_of stmt)) stmts behind),
)

module _ (spec : Spec) where
  abbrev AreTasks : List Task → Type 0
  AreTasks tasks = AllByRecursion (IsTaskOf spec) tasks

  begun_tasks : (stmts : List Stmt) (rest : List Task) → AllByRecursion (IsStmtOf spec) stmts → AreTasks rest → AreTasks (map begin stmts ++ rest)
  begun_tasks [] rest all others = others
  begun_tasks (stmt ∷ stmts) rest all others = (all.0, begun_tasks stmts rest all.1 others)

  stmts_of_block : (known : List Known) (outer : Place) (inner : Inner) (number : ℕ) (stmts : List Stmt) → StandsInStart spec outer ⊎ StandsInLoop spec outer
      → slice_get (blocks_of (kind_of outer.stmt)) number ≡ Some inner
      → AllByRecursion (StandsAmong (outer.known ++ inner.bound) (stmts_of inner.block) outer.behind) stmts → AllByRecursion (IsStmtOf spec) stmts
  stmts_of_block known outer inner number [] stands is all = tt
  stmts_of_block known outer inner number (stmt ∷ stmts) stands is all =
      (record { place = all.0.place; stands = one stands; is = all.0.is }, stmts_of_block known outer inner number stmts stands is all.1)
    where
      one : StandsInStart spec outer ⊎ StandsInLoop spec outer → StandsInStart spec all.0.place ⊎ StandsInLoop spec all.0.place
      one (inl in_start) = inl (record { start = in_start.start; is = in_start.is; stands = deeper _ _ _ outer all.0.place number inner in_start.stands is all.0.stands })
      one (inr in_loop) = inr (deeper _ _ _ outer all.0.place number inner in_loop is all.0.stands)

  -- the statements of a block of a statement of the specification are statements of it
  block_stands : (stmt : Stmt) (block : Block) → IsStmtOf spec stmt → IsBlockIn (blocks_of (kind_of stmt)) block → AllByRecursion (IsStmtOf spec) (stmts_of block)
  block_stands stmt block stands in_stmt =
      let is : slice_get (blocks_of (kind_of stands.place.stmt)) in_stmt.number ≡ Some in_stmt.inner
      = subst (λ s. slice_get (blocks_of (kind_of s)) in_stmt.number ≡ Some in_stmt.inner) (sym stands.is) in_stmt.is in
      subst (λ b. AllByRecursion (IsStmtOf spec) (stmts_of b)) in_stmt.same
      (stmts_of_block [] stands.place in_stmt.inner in_stmt.number (stmts_of in_stmt.inner.block) stands.stands is
      (all_stand (stands.place.known ++ in_stmt.inner.bound) (stmts_of in_stmt.inner.block) stands.place.behind))

  left_tasks : (stmt : Stmt) (passed : ℕ) (rest todo : List Task) → IsStmtOf spec stmt → AreTasks rest → Leaves stmt passed (kind_of stmt) rest todo → AreTasks todo
  left_tasks stmt passed rest todo stands others (goes_on _ _) = others
  left_tasks stmt passed rest todo stands others (compares_on _ _) = (stands, others)
  left_tasks stmt passed rest todo stands others (enters block count in_stmt) =
      begun_tasks (stmts_of block) _ (block_stands stmt block stands in_stmt) (tt, others)

  loop_stands : (these : List Stmt) → AllByRecursion (StandsAmong (names_declared spec.decls) (stmts_of spec.body) []) these → AllByRecursion (IsStmtOf spec) these
  loop_stands [] all = tt
  loop_stands (stmt ∷ these) all = (record { place = all.0.place; stands = inr all.0.stands; is = all.0.is }, loop_stands these all.1)

  start_stands : (start : Block) (these : List Stmt) → spec.start ≡ Some start → AllByRecursion (StandsAmong (names_declared spec.decls) (stmts_of start) []) these → AllByRecursion (IsStmtOf spec) these
  start_stands start [] is all = tt
  start_stands start (stmt ∷ these) is all =
      (record { place = all.0.place; stands = inl (record { start = start; is = is; stands = all.0.stands }); is = all.0.is }, start_stands start these is all.1)

  silent_tasks : (c d : Config) (todo : List Task) → AreTasks todo → after_silent_work_at spec c todo ≡ Some d → AreTasks d.todo
  silent_tasks c d [] tasks gave =
      let same : after_entering c [] spec.body [] ≡ d = cc in
      subst (λ (after : Config). AreTasks after.todo) same
      (begun_tasks (stmts_of spec.body) _ (loop_stands (stmts_of spec.body) (all_stand (names_declared spec.decls) (stmts_of spec.body) [])) (tt, tt))
  silent_tasks c d (Forget count ∷ rest) tasks gave = let left : rest ≡ d.todo = cc in subst AreTasks left tasks.1
  silent_tasks c d (Do stmt passed ∷ rest) tasks gave = left_tasks stmt passed rest d.todo tasks.0 tasks.1 (silent_leaves c stmt passed rest (kind_of stmt) d gave)

  settled_tasks : (c d : Config) → AreTasks c.todo → Settles spec c d → AreTasks d.todo
  settled_tasks c d tasks (settled none) = tasks
  settled_tasks c d tasks (passes {d = middle} goes more) = settled_tasks middle d (silent_tasks c middle c.todo tasks goes) more

  event_tasks : (c d : Config) (event : ServerEvent) (todo : List Task) → AreTasks todo → after_event_at spec c todo event ≡ Some d → AreTasks d.todo
  event_tasks c d event [] tasks gave = absurd (cc)
  event_tasks c d event (Forget count ∷ rest) tasks gave = absurd (cc)
  event_tasks c d event (Do stmt passed ∷ rest) tasks gave = left_tasks stmt passed rest d.todo tasks.0 tasks.1 (event_leaves spec c stmt passed rest (kind_of stmt) event d gave)

  pub step_tasks : (c d : Config) (event : ServerEvent) → AreTasks c.todo → Step spec c event d → AreTasks d.todo
  step_tasks c d event tasks step = settled_tasks step.0 d (event_tasks c step.0 event c.todo tasks step.1) step.2

  steps_tasks : (c d : Config) (events : List ServerEvent) → AreTasks c.todo → Steps spec c events d → AreTasks d.todo
  steps_tasks c d [] tasks same = subst (λ (at : Config). AreTasks at.todo) same tasks
  steps_tasks c d (event ∷ events) tasks steps = steps_tasks steps.0 d events (step_tasks c steps.0 event tasks steps.1) steps.2

  first_tasks : (start : Option Block) → spec.start ≡ start → AreTasks (after_start (idle_config spec) start).todo
  first_tasks None is = tt
  first_tasks (Some start) is =
      begun_tasks (stmts_of start) _ (start_stands start (stmts_of start) is (all_stand (names_declared spec.decls) (stmts_of start) [])) (tt, tt)

  pub opening_tasks : (c : Config) → Opens spec c → AreTasks c.todo
  opening_tasks c opens = settled_tasks (first_config spec) c (first_tasks spec.start refl) opens

  pub run_to_do : (events : List ServerEvent) (c : Config) → RunsTo spec events c → AreTasks c.todo
  run_to_do events c run = steps_tasks run.0 c events (opening_tasks run.0 run.1) run.2
