-- Values that are borrowed.
use Rattle.spec_model.specs.declared.config.Value.{Value}
use Rattle.spec_model.specs.declared.config.Value.TheVariants.{Text, Number}
use Rattle.server_run.specs.declared.values.ValueRef.{ValueRef}
use Rattle.server_run.specs.declared.values.ValueRef.TheVariants as borrowed

-- the value that is borrowed
abbrev pub value_at : ValueRef → Value
value_at (borrowed.Text text) = Text text.now
value_at (borrowed.Number number) = Number number
