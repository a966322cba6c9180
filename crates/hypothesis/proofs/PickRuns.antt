-- A specification that picks nothing has no run that picks.
use Rattle.std.proofs.Common.{◌≡◌, ℕ, List, [], ◌∷◌, ◌++◌, Some, true, false, refl, sym, subst, append_assoc}
use Rattle.std.specs.List.{AllByRecursion}
use Rattle.spec_model.specs.declared.config.Config.{Config}
use Rattle.spec_model.specs.declared.config.Task.{Task}
use Rattle.spec_model.specs.declared.config.Task.TheVariants.{Do, Forget}
use Rattle.spec_model.specs.declared.event.ServerEvent.{ServerEvent}
use Rattle.spec_model.specs.declared.event.ServerEvent.TheVariants as servers
use Rattle.spec_model.specs.declared.tree.Kind.TheOpen.{Pick}
use Rattle.spec_model.specs.declared.tree.Spec.{Spec}
use Rattle.spec_model.specs.declared.tree.Stmt.{Stmt}
use Rattle.spec_model.specs.Config.{StmtKind, kind_of}
use Rattle.spec_model.specs.Run.{IsRun}
use Rattle.spec_model.specs.Skeleton.{picks_of}
use Rattle.spec_model.specs.Step.{after_event_at, after_stmt}
use Rattle.spec_model.proofs.RunSteps.{run_front, runs_to_split}
use Rattle.spec_rules.specs.ToDo.{IsStmtOf, IsTaskOf}
use Rattle.spec_rules.proofs.Standing.{run_to_do}
use Rattle.hypothesis.specs.Judged.{PicksNothing, is_pick}

-- the choice of a text
abbrev pub IsPick : ServerEvent → Type 0
IsPick (servers.Pick text) = Unit {0}
IsPick _ = ⊥

stmt_is_no_pick : (spec : Spec) (stmt : Stmt) → PicksNothing spec → IsStmtOf spec stmt → is_pick (kind_of stmt) ≡ false
stmt_is_no_pick spec stmt nothing stands = subst (λ s. is_pick (kind_of s) ≡ false) stands.is (nothing stands.place stands.stands)

picks_by_pick : (spec : Spec) (c : Config) (rest : List Task) (stmt : Stmt) (passed : ℕ) (kind : StmtKind) (text : List ℕ) (d : Config)
    → after_stmt spec c rest stmt passed kind (servers.Pick text) ≡ Some d → is_pick kind ≡ true
picks_by_pick spec c rest stmt passed (Pick name len alphabet) text d gave = refl
picks_by_pick spec c rest stmt passed _ text d gave = absurd (cc)

no_pick_by_todo : (spec : Spec) (c : Config) (todo : List Task) (text : List ℕ) (d : Config) → PicksNothing spec → AllByRecursion (IsTaskOf spec) todo
    → after_event_at spec c todo (servers.Pick text) ≡ Some d → ⊥
no_pick_by_todo spec c [] text d nothing tasks gave = absurd (cc)
no_pick_by_todo spec c (Forget count ∷ rest) text d nothing tasks gave = absurd (cc)
no_pick_by_todo spec c (Do stmt passed ∷ rest) text d nothing tasks gave =
    absurd (let none = stmt_is_no_pick spec stmt nothing tasks.0 in let picks = picks_by_pick spec c rest stmt passed (kind_of stmt) text d gave in cc)

-- no run goes on by a pick
pub no_pick : (spec : Spec) (events : List ServerEvent) (event : ServerEvent) → PicksNothing spec → IsRun spec (events ++ event ∷ []) → IsPick event → ⊥
no_pick spec events (servers.Pick text) nothing run picks =
    let split = runs_to_split spec events (servers.Pick text ∷ []) run.0 run.1 in
    let step = split.2.1 in
    no_pick_by_todo spec split.0 split.0.todo text step.0 nothing (run_to_do spec events split.0 split.1) step.1
no_pick spec events (servers.Take conn message) nothing run picks = absurd picks
no_pick spec events (servers.Arm arm) nothing run picks = absurd picks
no_pick spec events (servers.Test outcome) nothing run picks = absurd picks
no_pick spec events (servers.Send conn message) nothing run picks = absurd picks

none_behind : (spec : Spec) (front events : List ServerEvent) → PicksNothing spec → IsRun spec (front ++ events) → AllByRecursion (λ event. IsPick event → ⊥) events
none_behind spec front [] nothing run = tt
none_behind spec front (event ∷ events) nothing run =
    let whole : IsRun spec ((front ++ event ∷ []) ++ events) = subst (IsRun spec) (sym (append_assoc front (event ∷ []) events)) run in (
      no_pick spec front event nothing (run_front spec (front ++ event ∷ []) events whole),
      none_behind spec (front ++ event ∷ []) events nothing whole,
    )

-- no event of a run is a pick
pub none_is_pick : (spec : Spec) (events : List ServerEvent) → PicksNothing spec → IsRun spec events → AllByRecursion (λ event. IsPick event → ⊥) events
none_is_pick spec events nothing run = none_behind spec [] events nothing run

none_picked : (events : List ServerEvent) → AllByRecursion (λ event. IsPick event → ⊥) events → picks_of events ≡ []
none_picked [] none = refl
none_picked (servers.Take conn message ∷ events) none = none_picked events none.1
none_picked (servers.Arm arm ∷ events) none = none_picked events none.1
none_picked (servers.Test outcome ∷ events) none = none_picked events none.1
none_picked (servers.Pick text ∷ events) none = absurd (none.0 tt)
none_picked (servers.Send conn message ∷ events) none = none_picked events none.1

pub picks_none : (spec : Spec) (events : List ServerEvent) → PicksNothing spec → IsRun spec events → picks_of events ≡ []
picks_none spec events nothing run = none_picked events (none_is_pick spec events nothing run)
