-- Servers.
use Rattle.spec_model.specs.declared.config.Config.{Config}
use Rattle.spec_model.specs.declared.tree.Spec.{Spec}

-- A server: the specification that it follows, and where it stands.
pub record Served : Type 0 where
  pub spec : Spec
  pub config : Config
