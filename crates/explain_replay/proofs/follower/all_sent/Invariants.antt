use Rattle.std.proofs.Common.{◌≡◌, ℕ, length, take}
use Rattle.spec_model.specs.World.{client_sends}
use Rattle.net_world.specs.declared.way.Way.TheVariants.{Up}
use Rattle.net_world.specs.Net.{queue}
use Rattle.explain_replay.proofs.follower.all_sent.Given as goal

-- what clients sent so far is under way
abbrev pub invariant-loop-event : goal.invariant-loop-event
invariant-loop-event l = record {
  conns : length l.net ≡ l.fn.shape.conns;
  sent : (conn : ℕ) → queue Up conn l.net ≡ client_sends conn (take l.event-index l.exchange);
}
