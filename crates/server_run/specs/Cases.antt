-- Cases and what they bind.
use Rattle.std.specs.Prelude.{ℕ, ◌≤◌, List, [], ◌∷◌}
use Rattle.spec_model.specs.declared.config.Binding.{Binding}
use Rattle.spec_model.specs.declared.tree.HoleKind.TheVariants.{Num}
use Rattle.spec_model.specs.declared.tree.Item.{Item}
use Rattle.spec_model.specs.declared.tree.Item.TheVariants.{Lit, Hole}
use Rattle.spec_model.specs.Pattern.{hole_binding, number_written}
use Rattle.spec_model.specs.Step.{BlockEntry}
use Rattle.spec_model.specs.Value.{greatest}
use Rattle.server_run.specs.declared.cases.Entry.{Entry}

-- what an item of a pattern binds
abbrev pub item_bindings : Item → List ℕ → List Binding
item_bindings (Lit text) piece = []
item_bindings (Hole name kind) piece = hole_binding name kind piece ∷ []

-- the number that a hole takes, where it takes one, is at most the greatest
abbrev pub NumberFits : Item → List ℕ → Type 0
NumberFits (Hole name Num) piece = number_written piece ≤ greatest
NumberFits _ piece = Unit {0}

abbrev pub entry_of : Entry → BlockEntry
entry_of entry = record { block = entry.block.now; bound = entry.bound }
