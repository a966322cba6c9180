use Rattle.std.proofs.Common.{◌≡◌, take}
use Rattle.spec_model.specs.Config.{with_value}
use Rattle.server_run.proofs.parts.with_value.Given as goal

abbrev pub invariant-loop-binding : goal.invariant-loop-binding
invariant-loop-binding l = l.after ≡ with_value (take l.binding-index l.bindings) l.name l.fn.value
