use Rattle.std.proofs.Common.{◌≡◌, ◌-◌}
use Rattle.spec_build.specs.Parts.{further_items, items_from}
use Rattle.spec_build.proofs.parts.further_items.Given as goal

-- what is read in all turns is read in those that are left
abbrev pub invariant-loop-turn : goal.invariant-loop-turn
invariant-loop-turn l = further_items l.fn.items l.fn.tokens ≡ items_from l.items (l._turn-end - l._turn) l.tokens
