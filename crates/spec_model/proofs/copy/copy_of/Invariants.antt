use Rattle.std.proofs.Common.{◌≡◌, take}
use Rattle.spec_model.proofs.copy.copy_of.Given as goal

-- the items copied so far
abbrev pub invariant-loop-item : goal.invariant-loop-item
invariant-loop-item g l = l.copy ≡ take l.item-index l.items
