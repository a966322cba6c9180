-- What a tree holds.
use Rattle.std.specs.Prelude.{ℕ, List, filter, map}
use Rattle.spec_model.specs.declared.event.Shape.{Shape}
use Rattle.spec_model.specs.declared.tree.Decl.{Decl}
use Rattle.spec_model.specs.declared.tree.First.{First}
use Rattle.spec_model.specs.declared.tree.Spec.{Spec}
use Rattle.spec_rules.specs.Bad.{declares_register}
use Rattle.itree_data.specs.declared.node.Node.{Node}

-- The fields of a tree: for each node the slots in scope there are those below its number in `scopes`.
pub record Fields : Type 0 where
  pub shape : Shape
  pub registers : List First
  pub tables : ℕ
  pub slots : ℕ
  pub nodes : List Node
  pub scopes : List ℕ
  pub root : ℕ
  pub spec : Spec

-- the first values of the registers that are declared
abbrev pub first_values : List Decl → List First
first_values decls = map (λ (decl : Decl). decl.first) (filter declares_register decls)
