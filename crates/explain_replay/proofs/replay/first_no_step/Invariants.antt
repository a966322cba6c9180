use Rattle.std.proofs.Common.{◌≡◌, take}
use Rattle.spec_model.specs.Run.{RunsTo}
use Rattle.spec_model.specs.World.{server_of}
use Rattle.explain_replay.proofs.replay.first_no_step.Given as goal

-- what the server did so far is a run, which ends where the server stands
abbrev pub invariant-loop-number : goal.invariant-loop-number
invariant-loop-number l = record { spec : l.server.spec ≡ l.spec; run : RunsTo l.spec (server_of (take l.number l.world)) l.server.config }
