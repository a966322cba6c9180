-- A run keeps its budget of comparisons.
use Rattle.std.proofs.Common.{◌≡◌, ℕ, ◌+◌, ◌*◌, ◌≤◌, inl, inr, List, [], ◌∷◌, ◌++◌, Option, Some, None, refl, ◌∙◌, ap, subst, arith, append-nil, take}
use Rattle.std.specs.Prelude.{if◌then◌else◌}
use Rattle.spec_model.specs.declared.config.Config.{Config}
use Rattle.spec_model.specs.declared.config.Task.{Task}
use Rattle.spec_model.specs.declared.config.Task.TheVariants.{Do, Forget}
use Rattle.spec_model.specs.declared.event.ServerEvent.{ServerEvent}
use Rattle.spec_model.specs.declared.event.ServerEvent.TheVariants as events
use Rattle.spec_model.specs.declared.tree.Block.{Block}
use Rattle.spec_model.specs.declared.tree.Spec.{Spec}
use Rattle.spec_model.specs.declared.tree.Stmt.{Stmt}
use Rattle.spec_model.specs.Config.{after_entering, after_start, first_config, idle_config, kind_of, stmts_of}
use Rattle.spec_model.specs.Run.{Opens, Settles, Step, passes as on, settled}
use Rattle.spec_model.specs.Step.{after_event_at, after_silent_work_at}
use Rattle.spec_model.specs.Table.{looked_up, most_pairs}
use Rattle.spec_model.proofs.SilentWork.{silent_falls}
use Rattle.spec_model.proofs.Weights.{weight}
use Rattle.spec_rules.specs.Names.{names_declared}
use Rattle.spec_rules.specs.Path.{PathPasses, is_recv, returns}
use Rattle.spec_rules.proofs.Leaves.{Leaves, event_leaves, silent_leaves}
use Rattle.spec_paths.specs.Tests.{most_tests}
use Rattle.spec_paths.proofs.Budgets.{ArePlaced, Fresh, IsPlaced, IsWithin, behind-silent, behind-test, comparisons, half_done, left_within, passed-before-test, passed-few, placed-begun, silent-no_recv, taken_within, tests_with, undone, undone-begun}
use Rattle.spec_paths.proofs.PathsAhead.{at_end, at_recv}
use Rattle.spec_paths.proofs.SmallTables.{AreSmall, Says, event_says, silent_small, tables_begin_small}

module _ (spec : Spec) (new : Fresh spec) where
  -- what an event of a statement leaves
  event_within_at : (tests : ℕ) (event : ServerEvent) (stmt : Stmt) (passed : ℕ) (rest todo : List Task) → IsPlaced spec stmt passed (undone rest) → ArePlaced spec rest
      → ((count : ℕ) → PathPasses (stmt ∷ undone rest) count → tests + most_pairs * count ≤ most_tests + passed) → Says (kind_of stmt) passed event
      → Leaves stmt passed (kind_of stmt) rest todo
      → ArePlaced spec todo × ((count : ℕ) → PathPasses (undone todo) count → tests_with event tests + most_pairs * count ≤ most_tests + half_done todo)
  event_within_at tests (events.Take conn message) stmt passed rest todo placed others budget says leaves =
      taken_within spec stmt passed rest todo new placed others (says.take refl) leaves
  event_within_at tests (events.Test outcome) stmt passed rest todo placed others budget says leaves =
      let few = passed-before-test (looked_up (kind_of stmt)) passed placed.few (λ asked. says.few asked refl) in
      let own : comparisons (kind_of stmt) ≡ 1 = ap (λ test. if test then 1 else 0) (says.test refl) in
      left_within spec tests (tests + 1) stmt passed rest todo placed others budget (says.no_take refl)
      (λ count. behind-test tests passed (comparisons (kind_of stmt)) count own few) (λ asked looks_up same. (few, omega arith)) leaves
  event_within_at tests (events.Arm arm) stmt passed rest todo placed others budget says leaves =
      left_within spec tests tests stmt passed rest todo placed others budget (says.no_take refl)
      (λ count. behind-silent tests passed (comparisons (kind_of stmt)) count (passed-few (kind_of stmt) passed placed.few))
      (λ asked looks_up same. absurd (says.no_test asked refl looks_up)) leaves
  event_within_at tests (events.Pick text) stmt passed rest todo placed others budget says leaves =
      left_within spec tests tests stmt passed rest todo placed others budget (says.no_take refl)
      (λ count. behind-silent tests passed (comparisons (kind_of stmt)) count (passed-few (kind_of stmt) passed placed.few))
      (λ asked looks_up same. absurd (says.no_test asked refl looks_up)) leaves
  event_within_at tests (events.Send conn message) stmt passed rest todo placed others budget says leaves =
      left_within spec tests tests stmt passed rest todo placed others budget (says.no_take refl)
      (λ count. behind-silent tests passed (comparisons (kind_of stmt)) count (passed-few (kind_of stmt) passed placed.few))
      (λ asked looks_up same. absurd (says.no_test asked refl looks_up)) leaves

  event_within : (c d : Config) (event : ServerEvent) (tests : ℕ) → AreSmall c.tables → (todo : List Task) → ArePlaced spec todo
      → ((count : ℕ) → PathPasses (undone todo) count → tests + most_pairs * count ≤ most_tests + half_done todo)
      → after_event_at spec c todo event ≡ Some d → IsWithin spec (tests_with event tests) d
  event_within c d event tests small [] placed budget gave = absurd (cc)
  event_within c d event tests small (Forget count ∷ rest) placed budget gave = absurd (cc)
  event_within c d event tests small (Do stmt passed ∷ rest) placed budget gave =
      let (says, small_there) = event_says spec c rest stmt passed (kind_of stmt) event d small gave in
      let (placed_there, budget_there) = event_within_at tests event stmt passed rest d.todo placed.0 placed.1 budget says
      (event_leaves spec c stmt passed rest (kind_of stmt) event d gave) in
      record { placed = placed_there; small = small_there; budget = budget_there }

  -- the loop is entered, of whose first statement no path passes any that compares
  loop_within : (tests : ℕ) → tests ≤ most_tests → (count : ℕ) → PathPasses (stmts_of spec.body ++ []) count → tests + most_pairs * count ≤ most_tests
  loop_within tests few count path =
      let first_recv = new.takes_first in
      let at_first : PathPasses (first_recv.recv ∷ (first_recv.more ++ [])) count = subst (λ stmts. PathPasses (stmts ++ []) count) first_recv.body path in
      let none = at_recv first_recv.recv (first_recv.more ++ []) count (ap is_recv first_recv.takes) at_first in
      omega (arith, none, few)

  silent_within : (c d : Config) (tests : ℕ) → AreSmall c.tables → (todo : List Task) → ArePlaced spec todo
      → ((count : ℕ) → PathPasses (undone todo) count → tests + most_pairs * count ≤ most_tests + half_done todo)
      → after_silent_work_at spec c todo ≡ Some d → IsWithin spec tests d
  silent_within c d tests small [] placed budget gave =
      let same : after_entering c [] spec.body [] ≡ d = cc in
      subst (IsWithin spec tests) same (record {
        placed = placed-begun spec (names_declared spec.decls) (stmts_of spec.body) _ [] (λ place. inr) tt;
        small = small;
        budget = λ count path.
            let few = budget 0 returns in
            let within = loop_within tests (omega (arith, few)) count (subst (λ stmts. PathPasses stmts count) (undone-begun (stmts_of spec.body) _ []) path) in
            omega (arith, within);
      })
  silent_within c d tests small (Forget count ∷ rest) placed budget gave =
      let same : record c { todo = rest; locals = take count c.locals } ≡ d = cc in
      subst (IsWithin spec tests) same (record {
        placed = placed;
        small = small;
        budget = λ passing path. let within = budget passing path in omega (arith, within);
      })
  silent_within c d tests small (Do stmt passed ∷ rest) placed budget gave =
      let lighter = silent_falls spec c (Do stmt passed) rest d gave in
      let (placed_there, budget_there) = left_within spec tests tests stmt passed rest d.todo placed.0 placed.1 budget
      (silent-no_recv c rest passed (kind_of stmt) d gave)
      (λ count. behind-silent tests passed (comparisons (kind_of stmt)) count (passed-few (kind_of stmt) passed placed.0.few))
      (λ asked looks_up same. let as_heavy = ap weight same in absurd (omega (arith, lighter, as_heavy)))
      (silent_leaves c stmt passed rest (kind_of stmt) d gave) in
      record { placed = placed_there; small = silent_small c rest passed (kind_of stmt) d small gave; budget = budget_there }

  settled_within : (c d : Config) (tests : ℕ) → IsWithin spec tests c → Settles spec c d → IsWithin spec tests d
  settled_within c d tests within (settled none) = within
  settled_within c d tests within (on {d = middle} goes more) =
      settled_within middle d tests (silent_within c middle tests within.small c.todo within.placed within.budget goes) more

  pub step_within : (c d : Config) (event : ServerEvent) (tests : ℕ) → IsWithin spec tests c → Step spec c event d → IsWithin spec (tests_with event tests) d
  step_within c d event tests within step =
      settled_within step.0 d (tests_with event tests) (event_within c step.0 event tests within.small c.todo within.placed within.budget step.1) step.2

  first_within : (start : Option Block) → spec.start ≡ start → IsWithin spec 0 (after_start (idle_config spec) start)
  first_within None is = record {
    placed = tt;
    small = tables_begin_small spec.decls;
    budget = λ count path. let none = at_end count path in omega (arith, none);
  }
  first_within (Some start) is = record {
    placed = placed-begun spec (names_declared spec.decls) (stmts_of start) _ [] (λ place stands. inl (record { start = start; is = is; stands = stands })) tt;
    small = tables_begin_small spec.decls;
    budget = λ count path.
        let few = new.behind_start start is count
        (subst (λ stmts. PathPasses stmts count) (undone-begun (stmts_of start) _ [] ∙ append-nil (stmts_of start)) path) in
        omega (arith, few);
  }

  pub opening_within : (c : Config) → Opens spec c → IsWithin spec 0 c
  opening_within c opens = settled_within (first_config spec) c 0 (first_within spec.start refl) opens
