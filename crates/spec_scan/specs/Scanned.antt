-- What the tokens of a text are, and why it is refused.
use Rattle.std.specs.Prelude.{◌≡◌, ℕ, List, Result, Err}
use Rattle.spec_model.specs.declared.token.Placed.{Placed}
use Rattle.spec_model.specs.declared.tree.Spec.{Spec}
use Rattle.spec_model.specs.Spelling.{Spells, IsWithinBraces, IsRefusedAt}
use Rattle.spec_scan.specs.declared.refusal.ScanRefusal.{ScanRefusal}
use Rattle.spec_scan.specs.declared.refusal.ScanRefusal.TheVariants.{Syntax, Memory}

-- The text spells a tree by these tokens, and has no more than 32 braces open anywhere.
pub record HasTokens (text : List ℕ) (tokens : List Placed) : Type 0 where
  pub spec : Spec
  pub spells : Spells text spec
  pub found : spells.tokens ≡ tokens
  pub within : IsWithinBraces 0 tokens

-- The refusal names the place at which the text is refused. Want of memory says nothing of the text.
abbrev pub IsRefusal : List ℕ → ScanRefusal → Type 0
IsRefusal text (Syntax place) = IsRefusedAt text place
IsRefusal text Memory = Unit {0}

-- what holds of a refusal, unless it is want of memory
abbrev pub UnlessMemory : ScanRefusal → Type 0 → Type 0
UnlessMemory Memory claim = Unit {0}
UnlessMemory refusal claim = claim

-- whether a refusal is what the reading answers
abbrev pub IsRefusalOf : Result (List Placed) ℕ → ScanRefusal → Type 0
IsRefusalOf answer (Syntax place) = answer ≡ Err place
IsRefusalOf answer Memory = Unit {0}
