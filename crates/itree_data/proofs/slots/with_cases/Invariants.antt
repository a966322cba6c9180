use Rattle.std.proofs.Common.{◌≤◌, take}
use Rattle.std.specs.List.{AllByRecursion}
use Rattle.itree_data.specs.Slots.{IsCaseBelow}
use Rattle.itree_data.proofs.slots.with_cases.Given as goal

-- the slots of the cases so far are below the count
abbrev pub invariant-loop-case : goal.invariant-loop-case
invariant-loop-case l = record { least : l.least ≤ l.count; below : AllByRecursion (IsCaseBelow l.count) (take l.case-index l.cases) }
