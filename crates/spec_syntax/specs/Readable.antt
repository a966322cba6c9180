-- Which texts are read, and why others are not.
use Rattle.std.specs.Prelude.{ℕ, ◌<◌, ◌≤◌, List, length}
use Rattle.spec_model.specs.declared.tree.Spec.{Spec}
use Rattle.spec_model.specs.Spelling.{IsRefusedAt, IsWithinBraces, Spells}
use Rattle.spec_syntax.specs.declared.reader.ReadRefusal.{ReadRefusal}
use Rattle.spec_syntax.specs.declared.reader.ReadRefusal.TheVariants.{Memory, Syntax, TooLong}

-- the greatest number of bytes of a text
abbrev pub greatest_length : ℕ
greatest_length = 65536

-- The text spells the tree, is no longer than it may be, and has no more than 32 braces open anywhere.
pub record IsReadable (text : List ℕ) (spec : Spec) : Type 0 where
  pub spells : Spells text spec
  pub within_braces : IsWithinBraces 0 spells.tokens
  pub within_length : length text ≤ greatest_length

-- why a text may be refused; want of memory says nothing of it
abbrev pub IsReadRefusal : List ℕ → ReadRefusal → Type 0
IsReadRefusal text (Syntax place) = (length text ≤ greatest_length) × IsRefusedAt text place
IsReadRefusal text TooLong = greatest_length < length text
IsReadRefusal text Memory = Unit {0}

-- what holds of a refusal, unless it is want of memory
abbrev pub UnlessMemory : ReadRefusal → Type 0 → Type 0
UnlessMemory Memory claim = Unit {0}
UnlessMemory refusal claim = claim
