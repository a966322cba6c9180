-- Where runs end.
use Rattle.std.specs.Prelude.{List}
use Rattle.spec_model.specs.declared.config.Config.{Config}
use Rattle.spec_model.specs.declared.event.ServerEvent.{ServerEvent}
use Rattle.spec_model.specs.declared.tree.Spec.{Spec}
use Rattle.spec_model.specs.Run.{RunsTo}

-- The events are a run of the server, and this holds of the configuration in which it ends.
pub record EndsWhere (spec : Spec) (events : List ServerEvent) (Holds : Config → Type 0) : Type 0 where
  pub end : Config
  pub run : RunsTo spec events end
  pub holds : Holds end
