use Rattle.std.proofs.Common.{◌≡◌, ◌++◌, drop}
use Rattle.itree_data.specs.Resolve.{slotted}
use Rattle.itree_data.proofs.resolve.slotted.Given as goal

-- the items so far, and those still to come
abbrev pub invariant-loop-item : goal.invariant-loop-item
invariant-loop-item l = l.pattern ++ slotted l.slot (drop l.item-index l.items) ≡ slotted l.fn.first l.items
