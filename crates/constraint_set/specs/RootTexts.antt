-- The texts that roots take.
use Rattle.std.specs.Prelude.{◌≡◌, ℕ, List, map}
use Rattle.constraint_set.specs.Known.{Known, IsSolution, text_of}
use Rattle.constraint_set.specs.declared.atom.Atom.{Atom}

-- some solution gives the roots these texts
abbrev pub CanTake : Known → List Atom → List (List ℕ) → Type 0
CanTake known roots taken = (texts : List (List ℕ)) × IsSolution known texts × (map (text_of texts) roots ≡ taken)

-- Over all solutions the roots of both take the same lists of texts.
pub record TakeSame (known : Known) (roots : List Atom) (other : Known) (other_roots : List Atom) : Type 0 where
  pub forth : (taken : List (List ℕ)) → CanTake known roots taken → CanTake other other_roots taken
  pub back : (taken : List (List ℕ)) → CanTake other other_roots taken → CanTake known roots taken
