use Rattle.std.proofs.Common.{◌≡◌, filter_map, take}
use Rattle.spec_model.specs.Config.{first_value}
use Rattle.dual_step.proofs.start.first_values.Given as goal

abbrev pub invariant-loop-first : goal.invariant-loop-first
invariant-loop-first l = l.values ≡ filter_map first_value (take l.first-index l.firsts)
