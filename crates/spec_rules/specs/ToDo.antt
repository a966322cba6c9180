-- What is to do in a configuration, as it stands in the specification.
use Rattle.std.specs.Prelude.{◌≡◌, ◌⊎◌}
use Rattle.spec_model.specs.declared.config.Task.{Task}
use Rattle.spec_model.specs.declared.config.Task.TheVariants.{Do, Forget}
use Rattle.spec_model.specs.declared.tree.Spec.{Spec}
use Rattle.spec_model.specs.declared.tree.Stmt.{Stmt}
use Rattle.spec_rules.specs.Place.{Place, StandsInLoop, StandsInStart}

-- a statement of `start` or of the loop
pub record IsStmtOf (spec : Spec) (stmt : Stmt) : Type 0 where
  pub place : Place
  pub stands : StandsInStart spec place ⊎ StandsInLoop spec place
  pub is : place.stmt ≡ stmt

-- the end of a block, or a statement of the specification
abbrev pub IsTaskOf : Spec → Task → Type 0
IsTaskOf spec (Do stmt passed) = IsStmtOf spec stmt
IsTaskOf spec (Forget count) = Unit {0}
