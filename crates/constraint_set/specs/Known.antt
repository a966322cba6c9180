-- What is known about texts, and the texts that fit it.
use Rattle.std.specs.Prelude.{◌≡◌, ◌≢◌, ℕ, ◌+◌, ◌<◌, ◌⊎◌, Bool, true, false, ◌==◌, List, [], ◌∷◌, ◌++◌, length, slice_get, Some, unwrap_or, bytes_eq, ⊤}
use Rattle.spec_model.specs.declared.event.Framing.{Framing}
use Rattle.spec_model.specs.declared.tree.Alphabet.{Alphabet}
use Rattle.spec_model.specs.Step.{may_be_picked}
use Rattle.constraint_set.specs.declared.atom.Atom.{Atom}
use Rattle.constraint_set.specs.declared.atom.Atom.TheVariants.{Const, Sym}
use Rattle.constraint_set.specs.declared.symbol.Symbol.{Symbol}
use Rattle.constraint_set.specs.declared.symbol.Difference.{Difference}

-- What facts stand for: how `any` is read, how many disequalities may be asked and how many were, the symbols, and the
-- pairs of atoms that differ.
pub record Known : Type 0 where
  pub framing : Framing
  pub room : ℕ
  pub asked : ℕ
  pub symbols : List Symbol
  pub differences : List Difference

-- an item of a list
abbrev pub IsIn : {A : Type 0} → A → List A → Type 0
IsIn x [] = ⊥
IsIn x (y ∷ ys) = (x ≡ y) ⊎ IsIn x ys

-- the text of an atom, given a text for each symbol
abbrev pub text_of : List (List ℕ) → Atom → List ℕ
text_of texts (Const text) = text
text_of texts (Sym symbol) = unwrap_or (slice_get texts symbol) []

-- One text for each symbol, of its length and alphabet and equal to what it stands for.
pub record FitsSymbols (framing : Framing) (symbols : List Symbol) (texts : List (List ℕ)) : Type 0 where
  pub one_each : length texts ≡ length symbols
  pub picked : (s : ℕ) (symbol : Symbol) → slice_get symbols s ≡ Some symbol → may_be_picked framing symbol.len symbol.alphabet (text_of texts (Sym s)) ≡ true
  pub equal : (s : ℕ) (symbol : Symbol) → slice_get symbols s ≡ Some symbol → text_of texts (Sym s) ≡ text_of texts symbol.stands_for

-- A solution: texts for the symbols with which all that is known holds.
pub record IsSolution (known : Known) (texts : List (List ℕ)) : Type 0 where
  pub fits : FitsSymbols known.framing known.symbols texts
  pub different : (d : Difference) → IsIn d known.differences → text_of texts d.left ≢ text_of texts d.right

-- a constant, or one of the symbols
abbrev pub IsAtomOf : Known → Atom → Type 0
IsAtomOf known (Const text) = ⊤
IsAtomOf known (Sym symbol) = symbol < length known.symbols

-- The new facts have the framing, the room and as many symbols as the old ones; those of the old solutions that meet a
-- condition are the new ones, and there is one.
pub record IsNarrowedTo (old new : Known) (meets : List (List ℕ) → Type 0) : Type 0 where
  pub framing : new.framing ≡ old.framing
  pub room : new.room ≡ old.room
  pub symbols : length new.symbols ≡ length old.symbols
  pub kept : (texts : List (List ℕ)) → IsSolution new texts → IsSolution old texts × meets texts
  pub all : (texts : List (List ℕ)) → IsSolution old texts → meets texts → IsSolution new texts
  pub left : (texts : List (List ℕ)) × IsSolution new texts

-- The new facts have one symbol more, behind those of the old facts, and nothing is known of it but its length and alphabet:
-- their solutions are those of the old facts, each with every such text.
pub record HasFresh (old new : Known) (len : ℕ) (alphabet : Alphabet) : Type 0 where
  pub framing : new.framing ≡ old.framing
  pub room : new.room ≡ old.room
  pub asked : new.asked ≡ old.asked
  pub symbols : length new.symbols ≡ length old.symbols + 1
  pub every : (texts : List (List ℕ)) (text : List ℕ) → IsSolution old texts → may_be_picked old.framing len alphabet text ≡ true → IsSolution new (texts ++ text ∷ [])
  pub only : (all : List (List ℕ)) → IsSolution new all
      → (texts : List (List ℕ)) × ((text : List ℕ) × (all ≡ texts ++ text ∷ []) × IsSolution old texts × (may_be_picked old.framing len alphabet text ≡ true))

-- whether both are the same text written out, or the same symbol
abbrev pub is_same : Atom → Atom → Bool
is_same (Const text) (Const other) = bytes_eq text other
is_same (Const text) (Sym other) = false
is_same (Sym symbol) (Const other) = false
is_same (Sym symbol) (Sym other) = symbol == other
