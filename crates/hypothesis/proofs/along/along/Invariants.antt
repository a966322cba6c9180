use Rattle.std.proofs.Common.{◌≡◌, length, take}
use Rattle.hypothesis.specs.Along.{IsAt}
use Rattle.hypothesis.specs.Expansions.{HoldsSends}
use Rattle.hypothesis.proofs.along.along.Given as goal

-- the skeleton was followed along the events so far
abbrev pub invariant-loop-event : goal.invariant-loop-event
invariant-loop-event l = record {
  conns : length l.inbox ≡ l.dual.shape.conns;
  holds : HoldsSends (take l.event-index l.exchange) l.dual.shape.conns l.inbox;
  way : IsAt l.dual (take l.event-index l.exchange) l.skeleton l.way;
}
