use Rattle.std.proofs.Common.{◌≡◌, ◌++◌, drop, length}
use Rattle.std.specs.Vec.Iter.{into_iter_items}
use Rattle.spec_model.specs.Layout.{laid_out}
use Rattle.explain_replay.proofs.layout.laid_out.Given as goal

-- with what is left the world is laid out
abbrev pub invariant-loop-event : goal.invariant-loop-event
invariant-loop-event l =
    l.world.items ++ laid_out (drop (length l.yielded) l.exchange) (drop (length l.yielded) l.counts) (into_iter_items l.left)
    ≡ laid_out l.exchange l.counts l.fn.events.items
