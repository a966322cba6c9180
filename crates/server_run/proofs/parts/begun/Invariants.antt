use Rattle.std.proofs.Common.{◌≡◌, map, take}
use Rattle.spec_model.specs.Config.{begin}
use Rattle.server_run.proofs.parts.begun.Given as goal

abbrev pub invariant-loop-stmt : goal.invariant-loop-stmt
invariant-loop-stmt l = l.tasks ≡ map begin (take l.stmt-index l.stmts)
