-- The order of texts, and of lists of texts.
use Rattle.std.specs.Prelude.{◌≡◌, ℕ, ◌<◌, ◌⊎◌, List, ◌∷◌, ◌++◌}

-- Of two lists the first has the lesser item at the first place where they differ.
pub record IsBefore {A : Type 0} (less : A → A → Type 0) (xs ys : List A) : Type 0 where
  pub front : List A
  pub x : A
  pub y : A
  pub xs_rest : List A
  pub ys_rest : List A
  pub first : xs ≡ front ++ x ∷ xs_rest
  pub second : ys ≡ front ++ y ∷ ys_rest
  pub lesser : less x y

-- the order of texts by their bytes
abbrev pub IsTextBefore : List ℕ → List ℕ → Type 0
IsTextBefore text other = IsBefore (λ (byte : ℕ) (other_byte : ℕ). byte < other_byte) text other

-- The order of lists of texts: by the first text in which they differ.
abbrev pub AreTextsUpTo : List (List ℕ) → List (List ℕ) → Type 0
AreTextsUpTo texts others = (texts ≡ others) ⊎ IsBefore IsTextBefore texts others
