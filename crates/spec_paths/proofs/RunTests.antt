-- Runs of accepted specifications compare seldom.
use Rattle.std.proofs.Common.{◌≡◌, ℕ, ◌+◌, ◌*◌, ◌≤◌, Bool, true, false, List, [], ◌∷◌, ◌++◌, refl, subst, arith}
use Rattle.std.specs.Prelude.{if◌then◌else◌}
use Rattle.std.specs.List.{count_by, list_any}
use Rattle.std.proofs.lemmas.List.Sums.{sum_by-cons}
use Rattle.spec_model.specs.declared.config.Config.{Config}
use Rattle.spec_model.specs.declared.config.Task.{Task}
use Rattle.spec_model.specs.declared.config.Task.TheVariants.{Do, Forget}
use Rattle.spec_model.specs.declared.event.ServerEvent.{ServerEvent}
use Rattle.spec_model.specs.declared.event.ServerEvent.TheVariants as events
use Rattle.spec_model.specs.declared.tree.Kind.TheOpen.{Recv}
use Rattle.spec_model.specs.declared.tree.Spec.{Spec}
use Rattle.spec_model.specs.Config.{StmtKind, kind_of}
use Rattle.spec_model.specs.Run.{IsRun, Steps}
use Rattle.spec_model.specs.Table.{most_pairs}
use Rattle.spec_model.proofs.RunSteps.{steps_split}
use Rattle.spec_rules.specs.Accepted.{IsAccepted}
use Rattle.spec_rules.specs.Path.{PathPasses, is_recv}
use Rattle.spec_paths.specs.Tests.{is_take, is_test, most_tests}
use Rattle.spec_paths.proofs.Budgets.{ArePlaced, Fresh, IsWithin, comparisons, fresh, half_done, passed-few, tests_with, undone}
use Rattle.spec_paths.proofs.EveryWay.{GoodSpec, path_on_from, written_good}
use Rattle.spec_paths.proofs.PathsAhead.{goes_on}
use Rattle.spec_paths.proofs.RunBudgets.{opening_within, step_within}

recv-compares_none : (kind : StmtKind) → is_recv kind ≡ true → comparisons kind ≡ 0
recv-compares_none (Recv chan cases other block) takes = refl
recv-compares_none _ takes = absurd (cc)

-- so many comparisons are few where some path leads on
few_at : (spec : Spec) (tests : ℕ) (todo : List Task) → ArePlaced spec todo → (count : ℕ) → PathPasses (undone todo) count → tests + most_pairs * count ≤ most_tests + half_done todo
    → tests ≤ most_tests
few_at spec tests [] placed count path within = omega (arith, within)
few_at spec tests (Forget kept ∷ tasks) placed count path within = omega (arith, within)
few_at spec tests (Do stmt passed ∷ tasks) placed count path within = by_kind (is_recv (kind_of stmt)) refl
  where
    few : passed ≤ most_pairs * comparisons (kind_of stmt)
    few = passed-few (kind_of stmt) passed placed.0.few

    by_kind : (takes : Bool) → is_recv (kind_of stmt) ≡ takes → tests ≤ most_tests
    by_kind true takes = let none = recv-compares_none (kind_of stmt) takes in omega (arith, within, few, none)
    by_kind false no_recv = let through = goes_on stmt (undone tasks) count no_recv path in let sum = through.sum in omega (arith, within, few, sum)

few_tests : (spec : Spec) (tests : ℕ) (c : Config) → GoodSpec spec → IsWithin spec tests c → tests ≤ most_tests
few_tests spec tests c good within =
    let path = path_on_from spec good c.todo within.placed in few_at spec tests c.todo within.placed path.0 path.1 (within.budget path.0 path.1)

module _ (spec : Spec) (new : Fresh spec) (good : GoodSpec spec) where
  -- a part of a run without a take
  stretch_few : (c d : Config) (tests : ℕ) (stretch : List ServerEvent) → IsWithin spec tests c → Steps spec c stretch d → list_any is_take stretch ≡ false
      → tests + count_by is_test stretch ≤ most_tests
  stretch_few c d tests [] within steps no_take = let few = few_tests spec tests c good within in omega (arith, few)
  stretch_few c d tests (event ∷ stretch) within steps no_take =
      by_event event (step_within spec new c steps.0 event tests within steps.1) no_take (λ after there. stretch_few steps.0 d after stretch there steps.2)
    where
      by_event : (event : ServerEvent) → IsWithin spec (tests_with event tests) steps.0 → list_any is_take (event ∷ stretch) ≡ false
          → ((after : ℕ) → IsWithin spec after steps.0 → list_any is_take stretch ≡ false → after + count_by is_test stretch ≤ most_tests)
          → tests + count_by is_test (event ∷ stretch) ≤ most_tests
      by_event (events.Take conn message) there no_take later = absurd (cc)
      by_event (events.Test outcome) there no_take later =
          let rest = later (tests + 1) there no_take in omega (arith, rest, sum_by-cons (λ one. if is_test one then 1 else 0) (events.Test outcome) stretch)
      by_event (events.Arm arm) there no_take later =
          let rest = later tests there no_take in omega (arith, rest, sum_by-cons (λ one. if is_test one then 1 else 0) (events.Arm arm) stretch)
      by_event (events.Pick text) there no_take later =
          let rest = later tests there no_take in omega (arith, rest, sum_by-cons (λ one. if is_test one then 1 else 0) (events.Pick text) stretch)
      by_event (events.Send conn message) there no_take later =
          let rest = later tests there no_take in omega (arith, rest, sum_by-cons (λ one. if is_test one then 1 else 0) (events.Send conn message) stretch)

  -- a whole run, by its takes
  steps_few : (c d : Config) (tests : ℕ) (events : List ServerEvent) → IsWithin spec tests c → Steps spec c events d
      → tests + count_by is_test events ≤ most_tests * (count_by is_take events + 1)
  steps_few c d tests [] within steps = let few = few_tests spec tests c good within in omega (arith, few)
  steps_few c d tests (event ∷ more) within steps =
      by_event event (step_within spec new c steps.0 event tests within steps.1) (λ after there. steps_few steps.0 d after more there steps.2)
    where
      few : tests ≤ most_tests
      few = few_tests spec tests c good within

      by_event : (event : ServerEvent) → IsWithin spec (tests_with event tests) steps.0
          → ((after : ℕ) → IsWithin spec after steps.0 → after + count_by is_test more ≤ most_tests * (count_by is_take more + 1))
          → tests + count_by is_test (event ∷ more) ≤ most_tests * (count_by is_take (event ∷ more) + 1)
      by_event (events.Take conn message) there later =
          let rest = later 0 there in
          omega (arith, few, rest, sum_by-cons (λ one. if is_test one then 1 else 0) (events.Take conn message) more, sum_by-cons (λ one. if is_take one then 1 else 0) (events.Take conn message) more)
      by_event (events.Test outcome) there later =
          let rest = later (tests + 1) there in
          omega (arith, rest, sum_by-cons (λ one. if is_test one then 1 else 0) (events.Test outcome) more, sum_by-cons (λ one. if is_take one then 1 else 0) (events.Test outcome) more)
      by_event (events.Arm arm) there later =
          let rest = later tests there in
          omega (arith, rest, sum_by-cons (λ one. if is_test one then 1 else 0) (events.Arm arm) more, sum_by-cons (λ one. if is_take one then 1 else 0) (events.Arm arm) more)
      by_event (events.Pick text) there later =
          let rest = later tests there in
          omega (arith, rest, sum_by-cons (λ one. if is_test one then 1 else 0) (events.Pick text) more, sum_by-cons (λ one. if is_take one then 1 else 0) (events.Pick text) more)
      by_event (events.Send conn message) there later =
          let rest = later tests there in
          omega (arith, rest, sum_by-cons (λ one. if is_test one then 1 else 0) (events.Send conn message) more, sum_by-cons (λ one. if is_take one then 1 else 0) (events.Send conn message) more)

  steps_within : (c d : Config) (tests : ℕ) (events : List ServerEvent) → IsWithin spec tests c → Steps spec c events d → (after : ℕ) × IsWithin spec after d
  steps_within c d tests [] within steps = (tests, subst (IsWithin spec tests) steps within)
  steps_within c d tests (event ∷ events) within steps = steps_within steps.0 d (tests_with event tests) events (step_within spec new c steps.0 event tests within steps.1) steps.2

pub few_without_take : (spec : Spec) (before stretch after : List ServerEvent) → IsAccepted spec → IsRun spec (before ++ (stretch ++ after)) → list_any is_take stretch ≡ false
    → count_by is_test stretch ≤ most_tests
few_without_take spec before stretch after accepted (end, (opening, opens, steps)) no_take =
    let new = fresh spec accepted in
    let (there, steps_there, steps_on) = steps_split spec opening before (stretch ++ after) end steps in
    let (behind, steps_through, steps_after) = steps_split spec there stretch after end steps_on in
    let good = written_good spec accepted.written in
    let (tests, within) = steps_within spec new good opening there 0 before (opening_within spec new opening opens) steps_there in
    let few = stretch_few spec new good there behind tests stretch within steps_through no_take in
    omega (arith, few)

pub few_by_takes : (spec : Spec) (events : List ServerEvent) → IsAccepted spec → IsRun spec events → count_by is_test events ≤ most_tests * (count_by is_take events + 1)
few_by_takes spec events accepted (end, (opening, opens, steps)) =
    let new = fresh spec accepted in
    let few = steps_few spec new (written_good spec accepted.written) opening end 0 events (opening_within spec new opening opens) steps in
    omega (arith, few)

pub few_in_all : (spec : Spec) (events : List ServerEvent) → IsAccepted spec → IsRun spec events → count_by is_take events ≤ 4096 → count_by is_test events ≤ 15732480
few_in_all spec events accepted run takes = let few = few_by_takes spec events accepted run in omega (arith, few, takes)
