use Rattle.std.proofs.Common.{◌≡◌, filter_map, take}
use Rattle.spec_model.specs.Config.{register_of}
use Rattle.server_run.proofs.start.registers_of.Given as goal

abbrev pub invariant-loop-decl : goal.invariant-loop-decl
invariant-loop-decl l = l.registers ≡ filter_map register_of (take l.decl-index l.decls)
