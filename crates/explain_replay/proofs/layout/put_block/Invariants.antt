use Rattle.std.proofs.Common.{◌≡◌, ◌++◌, drop, map, take}
use Rattle.std.specs.Vec.Iter.{into_iter_items}
use Rattle.spec_model.specs.declared.event.WorldEvent.TheVariants.{Server}
use Rattle.explain_replay.proofs.layout.put_block.Given as goal

-- so many server events were moved
abbrev pub invariant-loop : goal.invariant-loop
invariant-loop l = record {
  block : l.world.items ≡ l.initial.world.items ++ map Server (take l.counter (into_iter_items l.initial.left));
  left : into_iter_items l.left ≡ drop l.counter (into_iter_items l.initial.left);
}
