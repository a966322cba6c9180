use Rattle.std.proofs.Common.{◌≤◌, take}
use Rattle.std.specs.List.{AllByRecursion}
use Rattle.itree_data.proofs.slots.greatest.Given as goal

-- the greatest so far
abbrev pub invariant-loop-count : goal.invariant-loop-count
invariant-loop-count l = AllByRecursion (λ count. count ≤ l.greatest) (take l.count-index l.counts)
