use Rattle.std.proofs.Common.{◌≡◌, ◌++◌, drop, option_map}
use Rattle.spec_model.specs.Step.{parts_sent}
use Rattle.server_run.specs.State.{config_of}
use Rattle.server_run.proofs.message.parts_sent.Given as goal

-- the pieces so far, and those of the parts still to come
abbrev pub invariant-loop-part : goal.invariant-loop-part
invariant-loop-part l = option_map (λ later. l.pieces ++ later) (parts_sent (config_of l.state) (drop l.part-index l.parts)) ≡ parts_sent (config_of l.state) l.parts
