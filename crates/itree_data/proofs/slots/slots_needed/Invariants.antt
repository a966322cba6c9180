use Rattle.std.proofs.Common.{◌≤◌, take}
use Rattle.std.specs.List.{AllByRecursion}
use Rattle.itree_data.specs.Slots.{BindsBelow}
use Rattle.itree_data.proofs.slots.slots_needed.Given as goal

-- the slots of the nodes so far are below the number
abbrev pub invariant-loop-node : goal.invariant-loop-node
invariant-loop-node l = record { in_scope : AllByRecursion (λ count. count ≤ l.slots) l.fn.scopes; bound : AllByRecursion (BindsBelow l.slots) (take l.node-index l.nodes) }
