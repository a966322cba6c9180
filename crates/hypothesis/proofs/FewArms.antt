-- How many arms there are to choose from.
use Rattle.std.proofs.Common.{◌≡◌, ℕ, ◌<◌, ◌≤◌, ◌⊎◌, inl, inr, List, [], ◌∷◌, ◌++◌, length, true, Some, slice_get, refl, subst, arith}
use Rattle.std.specs.List.{AllByRecursion}
use Rattle.std.proofs.lemmas.Bool.{cases_lt, lt-ltb}
use Rattle.std.proofs.lemmas.Option.{slice_get_within}
use Rattle.spec_model.specs.declared.config.Config.{Config}
use Rattle.spec_model.specs.declared.config.Task.{Task}
use Rattle.spec_model.specs.declared.config.Task.TheVariants.{Do, Forget}
use Rattle.spec_model.specs.declared.event.ServerEvent.{ServerEvent}
use Rattle.spec_model.specs.declared.event.ServerEvent.TheVariants as servers
use Rattle.spec_model.specs.declared.tree.Kind.TheOpen.{Either}
use Rattle.spec_model.specs.declared.tree.Spec.{Spec}
use Rattle.spec_model.specs.declared.tree.Stmt.{Stmt}
use Rattle.spec_model.specs.Config.{StmtKind, after_entering, kind_of}
use Rattle.spec_model.specs.Run.{IsRun}
use Rattle.spec_model.specs.Step.{after_event_at, after_stmt}
use Rattle.spec_model.proofs.Partial.{map_gave}
use Rattle.spec_model.proofs.RunSteps.{runs_to_split}
use Rattle.spec_rules.specs.declared.fault.Fault.TheVariants as faults
use Rattle.spec_rules.specs.declared.fault.Limit.TheVariants as limits
use Rattle.spec_rules.specs.declared.names.Known.{Known}
use Rattle.spec_rules.specs.Accepted.{IsAccepted}
use Rattle.spec_rules.specs.Bad.{has_too_many_arms}
use Rattle.spec_rules.specs.ToDo.{IsStmtOf, IsTaskOf}
use Rattle.spec_rules.proofs.Standing.{run_to_do}

arm_of_kind : (spec : Spec) (c : Config) (rest : List Task) (stmt : Stmt) (passed : ℕ) (kind : StmtKind) (known : List Known) (arm : ℕ) (d : Config)
    → (has_too_many_arms known kind ≡ true → ⊥) → after_stmt spec c rest stmt passed kind (servers.Arm arm) ≡ Some d → arm < 16
arm_of_kind spec c rest stmt passed (Either arms) known arm d few gave =
    let block = map_gave (λ block. after_entering c rest block []) (slice_get arms arm) d gave in
    let within : arm < length arms = slice_get_within arms arm block.0 block.1 in
    by_case within (cases_lt 16 (length arms))
  where
    by_case : arm < length arms → (16 < length arms) ⊎ (length arms ≤ 16) → arm < 16
    by_case within (inl more) = absurd (few (lt-ltb 16 (length arms) more))
    by_case within (inr most) = omega arith
arm_of_kind spec c rest stmt passed _ known arm d few gave = absurd cc

arm_of_stmt : (spec : Spec) (c : Config) (rest : List Task) (stmt : Stmt) (passed : ℕ) (arm : ℕ) (d : Config) → IsAccepted spec → IsStmtOf spec stmt
    → after_stmt spec c rest stmt passed (kind_of stmt) (servers.Arm arm) ≡ Some d → arm < 16
arm_of_stmt spec c rest stmt passed arm d accepted stands gave =
    let few : has_too_many_arms stands.place.known (kind_of stmt) ≡ true → ⊥
    = subst (λ s. has_too_many_arms stands.place.known (kind_of s) ≡ true → ⊥) stands.is
    (λ many. accepted.none_bad (faults.Limit limits.Arms) stands.place.stmt.at (record { place = stands.place; stands = stands.stands; passes = many; here = refl })) in
    arm_of_kind spec c rest stmt passed (kind_of stmt) stands.place.known arm d few gave

arm_by_todo : (spec : Spec) (c : Config) (todo : List Task) (arm : ℕ) (d : Config) → IsAccepted spec → AllByRecursion (IsTaskOf spec) todo
    → after_event_at spec c todo (servers.Arm arm) ≡ Some d → arm < 16
arm_by_todo spec c [] arm d accepted tasks gave = absurd cc
arm_by_todo spec c (Forget count ∷ rest) arm d accepted tasks gave = absurd cc
arm_by_todo spec c (Do stmt passed ∷ rest) arm d accepted tasks gave = arm_of_stmt spec c rest stmt passed arm d accepted tasks.0 gave

-- An `either` of an accepted specification has at most 16 arms.
pub few_arms : (spec : Spec) (events : List ServerEvent) (arm : ℕ) → IsAccepted spec → IsRun spec (events ++ servers.Arm arm ∷ []) → arm < 16
few_arms spec events arm accepted (end, run) =
    let (middle, before, steps) = runs_to_split spec events (servers.Arm arm ∷ []) end run in
    arm_by_todo spec middle middle.todo arm steps.1.0 accepted (run_to_do spec events middle before) steps.1.1
