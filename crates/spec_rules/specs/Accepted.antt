-- Which specifications are accepted, and what is refused of the others.
use Rattle.std.specs.Prelude.{ℕ, List}
use Rattle.spec_model.specs.declared.tree.Spec.{Spec}
use Rattle.spec_model.specs.Spelling.{Spells}
use Rattle.spec_rules.specs.declared.fault.Fault.{Fault}
use Rattle.spec_rules.specs.Bad.{IsBad}
use Rattle.spec_rules.specs.Fault.{IsBefore}

-- Some text spells the tree.
abbrev pub IsWritten : Spec → Type 0
IsWritten spec = (text : List ℕ) × Spells text spec

-- It is written, and nothing is bad in it.
pub record IsAccepted (spec : Spec) : Type 0 where
  pub written : IsWritten spec
  pub none_bad : (fault : Fault) (at : ℕ) → ¬ IsBad spec fault at

-- This is bad in it at this place, and nothing that is bad stands before it.
pub record IsFirstBad (spec : Spec) (fault : Fault) (at : ℕ) : Type 0 where
  pub bad : IsBad spec fault at
  pub first : (other : Fault) (other_at : ℕ) → IsBad spec other other_at → ¬ IsBefore other_at other at fault
