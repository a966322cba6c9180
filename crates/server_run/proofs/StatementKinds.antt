-- Steps and silent work, one kind of statement after the other.
use Rattle.std.proofs.Common.{◌≡◌, ℕ, Bool, List, refl}
use Rattle.spec_model.specs.declared.config.Config.{Config}
use Rattle.spec_model.specs.declared.config.Task.{Task}
use Rattle.spec_model.specs.declared.event.ServerEvent.TheVariants as events
use Rattle.spec_model.specs.declared.tree.Kind.TheOpen.{Recv, Send, Pick, Assign, If, Either, Assume, Put, Lookup, Delete}
use Rattle.spec_model.specs.declared.tree.Spec.{Spec}
use Rattle.spec_model.specs.declared.tree.Stmt.{Stmt}
use Rattle.spec_model.specs.Config.{StmtKind}
use Rattle.spec_model.specs.Step.{after_stmt}
use Rattle.server_run.specs.Statement.{after_test}

-- what a test leaves
pub tested : (spec : Spec) (c : Config) (rest : List Task) (stmt : Stmt) (passed : ℕ) (kind : StmtKind) (outcome : Bool)
    → after_stmt spec c rest stmt passed kind (events.Test outcome) ≡ after_test c rest stmt passed kind outcome
tested spec c rest stmt passed (Recv _ _ _ _) outcome = refl
tested spec c rest stmt passed (Send _ _) outcome = refl
tested spec c rest stmt passed (Pick _ _ _) outcome = refl
tested spec c rest stmt passed (Assign _ _ _) outcome = refl
tested spec c rest stmt passed (If _ _ _) outcome = refl
tested spec c rest stmt passed (Either _) outcome = refl
tested spec c rest stmt passed (Assume _) outcome = refl
tested spec c rest stmt passed (Put _ _ _) outcome = refl
tested spec c rest stmt passed (Lookup _ _ _ _ _) outcome = refl
tested spec c rest stmt passed (Delete _ _) outcome = refl
