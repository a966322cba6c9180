-- What a pool stands for: a dual, and the events that were fed.
use Rattle.std.specs.Prelude.{List}
use Rattle.spec_model.specs.declared.event.ClientEvent.{ClientEvent}
use Rattle.dual_tree.specs.Dual.{DualFields}

pub record Fed : Type 0 where
  pub dual : DualFields
  pub events : List ClientEvent
