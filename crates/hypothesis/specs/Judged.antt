-- The specifications that are judged today.
use Rattle.std.specs.Prelude.{◌≡◌, ◌⊎◌, Bool, true, false}
use Rattle.spec_model.specs.declared.tree.Kind.TheOpen.{Pick}
use Rattle.spec_model.specs.declared.tree.Spec.{Spec}
use Rattle.spec_model.specs.Config.{StmtKind, kind_of}
use Rattle.spec_rules.specs.Place.{Place, StandsInLoop, StandsInStart}

abbrev pub is_pick : StmtKind → Bool
is_pick (Pick name len alphabet) = true
is_pick _ = false

-- No statement that stands in the specification is a `pick`.
abbrev pub PicksNothing : Spec → Type 0
PicksNothing spec = (place : Place) → StandsInStart spec place ⊎ StandsInLoop spec place → is_pick (kind_of place.stmt) ≡ false
