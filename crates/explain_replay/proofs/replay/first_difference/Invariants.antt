use Rattle.std.proofs.Common.{◌≡◌, ◌≤◌, length, take}
use Rattle.spec_model.specs.World.{clients_of}
use Rattle.explain_replay.proofs.replay.first_difference.Given as goal

-- what clients did so far in the world is what begins the exchange
abbrev pub invariant-loop-event : goal.invariant-loop-event
invariant-loop-event l = record { same : take l.count l.exchange ≡ clients_of (take l.event-index l.world); within : l.count ≤ length l.exchange }
