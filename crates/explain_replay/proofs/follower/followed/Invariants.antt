use Rattle.std.proofs.Common.{◌≡◌, List, drop, take}
use Rattle.spec_model.specs.declared.event.ServerEvent.{ServerEvent}
use Rattle.explain_replay.specs.Explain.{LieAhead}
use Rattle.explain_replay.proofs.follower.followed.Given as goal

-- of events that lay ahead the first ones were made, and the others lie ahead
abbrev pub invariant-loop-mark : goal.invariant-loop-mark
invariant-loop-mark l =
    (events : List ServerEvent) → LieAhead l.fn.follower l.marks events
    → (l.made.items ≡ take l.mark-index events) × LieAhead l.follower (drop l.mark-index l.marks) (drop l.mark-index events)
