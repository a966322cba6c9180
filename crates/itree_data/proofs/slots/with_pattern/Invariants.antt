use Rattle.std.proofs.Common.{◌≤◌, take}
use Rattle.std.specs.List.{AllByRecursion}
use Rattle.itree_data.specs.Slots.{IsPartBelow}
use Rattle.itree_data.proofs.slots.with_pattern.Given as goal

-- the slots of the parts so far are below the count
abbrev pub invariant-loop-item : goal.invariant-loop-item
invariant-loop-item l = record { least : l.least ≤ l.count; below : AllByRecursion (IsPartBelow l.count) (take l.item-index l.items) }
