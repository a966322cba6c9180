-- What the holes of a pattern bind.
use Rattle.std.specs.Prelude.{ℕ, ◌≤◌, List}
use Rattle.spec_model.specs.declared.config.Value.{Value}
use Rattle.spec_model.specs.declared.tree.HoleKind.TheVariants.{Num}
use Rattle.spec_model.specs.Pattern.{hole_value, number_written}
use Rattle.spec_model.specs.Value.{greatest}
use Rattle.itree_data.specs.declared.node.Slotted.{Slotted}
use Rattle.itree_data.specs.declared.node.Slotted.TheVariants.{Lit, Hole}
use Rattle.itree_data.specs.Standing.{with_local}

-- the locals with the hole of an item, where it is one, bound to what it takes
abbrev pub with_hole : List Value → Slotted → List ℕ → List Value
with_hole locals (Lit text) piece = locals
with_hole locals (Hole slot kind) piece = with_local locals slot (hole_value kind piece)

-- the number that a hole takes, where it takes one, is at most the greatest
abbrev pub NumberFits : Slotted → List ℕ → Type 0
NumberFits (Hole slot Num) piece = number_written piece ≤ greatest
NumberFits _ piece = Unit {0}
