-- What stands in a list behind so many.
use Rattle.std.specs.Prelude.{◌≡◌, ℕ, ◌+◌, List, ◌∷◌, length, slice_get, Some}
use Rattle.spec_model.specs.declared.tree.Kind.{Kind, fold-Kind}
use Rattle.spec_model.specs.declared.tree.Stmt.{Stmt}
use Rattle.std.specs.List.{concat}
use Rattle.spec_rules.specs.Bad.{places_in_kind}
use Rattle.spec_paths.specs.declared.places.Sought.{Sought}
use Rattle.spec_paths.specs.declared.places.Sought.TheVariants.{Found, Behind}

-- Where so many places are skipped, the next one was found, or they ended before.
abbrev pub IsSought : List ℕ → ℕ → Sought → Type 0
IsSought places skipped (Found at) = slice_get places skipped ≡ Some at
IsSought places skipped (Behind left) = skipped ≡ length places + left

-- the places of a kind's own statements, in the order of the text
abbrev pub places_of_kind : Kind → List ℕ
places_of_kind kind = fold-Kind (List ℕ) (List ℕ) (List ℕ) (List ℕ) places_in_kind (λ block. concat block.stmts) (λ case. case.block) (λ stmt. stmt.at ∷ stmt.kind) kind

-- the place of a statement, and then those in it
abbrev pub places_of_stmt : Stmt → List ℕ
places_of_stmt stmt = stmt.at ∷ places_of_kind stmt.kind
