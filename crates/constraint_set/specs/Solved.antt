-- How facts are kept solved: each symbol stands for a constant or for a symbol that stands for itself.
use Rattle.std.specs.Prelude.{◌≡◌, ℕ, ◌+◌, ◌<◌, ◌≤◌, Bool, true, false, not, ◌||◌, ◌==◌, nat_lt, if◌then◌else◌, List, [], ◌∷◌, ◌++◌, map, length, slice_get, Option, Some, bytes_eq}
use Rattle.std.specs.List.{list_all}
use Rattle.std.specs.Option.{option_map_or}
use Rattle.spec_model.specs.declared.event.Framing.{Framing}
use Rattle.spec_model.specs.declared.tree.Alphabet.{Alphabet}
use Rattle.spec_model.specs.Step.{may_be_picked}
use Rattle.spec_model.specs.Value.{only_if, ◌>>=◌}
use Rattle.constraint_set.specs.Characters.{narrower, texts_count}
use Rattle.constraint_set.specs.Known.{Known, IsIn, IsAtomOf, is_same}
use Rattle.constraint_set.specs.declared.atom.Atom.{Atom}
use Rattle.constraint_set.specs.declared.atom.Atom.TheVariants.{Const, Sym}
use Rattle.constraint_set.specs.declared.symbol.Symbol.{Symbol}
use Rattle.constraint_set.specs.declared.symbol.Difference.{Difference}

-- what an atom stands for
abbrev pub resolved : List Symbol → Atom → Atom
resolved symbols (Const text) = Const text
resolved symbols (Sym s) = option_map_or (λ (symbol : Symbol). symbol.stands_for) (slice_get symbols s) (Sym s)

-- what an atom becomes when a symbol equals a text
abbrev pub bound_atom : ℕ → List ℕ → Atom → Atom
bound_atom s text atom = if is_same atom (Sym s) then Const text else atom

-- what a symbol becomes by it
abbrev pub bound_to : ℕ → List ℕ → Symbol → Symbol
bound_to s text symbol = record symbol { stands_for = bound_atom s text symbol.stands_for }

-- whether the atom is one of two symbols
abbrev pub is_either : ℕ → ℕ → Atom → Bool
is_either lesser greater atom = is_same atom (Sym lesser) || is_same atom (Sym greater)

-- what a symbol becomes when two symbols are equal: where it stood for either one, it stands for the lesser, over an
-- alphabet within both
abbrev pub joined_to : ℕ → ℕ → Alphabet → Symbol → Symbol
joined_to lesser greater alphabet symbol =
    if is_either lesser greater symbol.stands_for then record symbol { alphabet = alphabet; stands_for = Sym lesser } else symbol

-- what the symbols become when one that stands for itself equals a text, where it can
abbrev pub after_binding : Framing → List Symbol → ℕ → List ℕ → Option (List Symbol)
after_binding framing symbols s text = do
  symbol ← slice_get symbols s
  only_if (may_be_picked framing symbol.len symbol.alphabet text) (Some (map (bound_to s text) symbols))

-- what the symbols become when two that stand for themselves are equal, where they can
abbrev pub after_joining : List Symbol → ℕ → ℕ → Option (List Symbol)
after_joining symbols lesser greater = do
  a ← slice_get symbols lesser
  b ← slice_get symbols greater
  only_if (a.len == b.len) (Some (map (joined_to lesser greater (narrower a.alphabet b.alphabet)) symbols))

-- what the symbols become when two resolved atoms are equal, where they can
abbrev pub after_equality : Framing → List Symbol → Atom → Atom → Option (List Symbol)
after_equality framing symbols (Const text) (Const other) = only_if (bytes_eq text other) (Some symbols)
after_equality framing symbols (Const text) (Sym s) = after_binding framing symbols s text
after_equality framing symbols (Sym s) (Const text) = after_binding framing symbols s text
after_equality framing symbols (Sym s) (Sym other) =
    if s == other then Some symbols
    else (if nat_lt s other then after_joining symbols s other else after_joining symbols other s)

-- the sides of a difference do not stand for the same
abbrev pub is_apart : List Symbol → Difference → Bool
is_apart symbols d = not (is_same (resolved symbols d.left) (resolved symbols d.right))

-- what is known with a symbol more, which stands for itself
abbrev pub with_symbol : Known → ℕ → Alphabet → Known
with_symbol known len alphabet =
    record known { symbols = known.symbols ++ record { len = len; alphabet = alphabet; stands_for = Sym (length known.symbols) } ∷ [] }

-- what the symbols become when two atoms are equal, where they can be
abbrev pub symbols_equated : Framing → List Symbol → List Difference → Atom → Atom → Option (List Symbol)
symbols_equated framing symbols differences a b = do
  equal ← after_equality framing symbols (resolved symbols a) (resolved symbols b)
  only_if (list_all (is_apart equal) differences) (Some equal)

-- two constants
abbrev pub are_constants : Atom → Atom → Bool
are_constants (Const text) (Const other) = true
are_constants a b = false

-- the differences, and one more, where it is not one of constants
abbrev pub with_difference : List Symbol → List Difference → Atom → Atom → List Difference
with_difference symbols differences a b =
    if are_constants (resolved symbols a) (resolved symbols b) then differences else differences ++ record { left = a; right = b } ∷ []

-- whether two atoms can differ
abbrev pub can_differ : List Symbol → Atom → Atom → Bool
can_differ symbols a b = not (is_same (resolved symbols a) (resolved symbols b))

-- A symbol may stand for the atom: a constant of its length and alphabet, or a symbol not after it that stands for itself
-- and has its length and alphabet.
abbrev pub MayStandFor : Framing → List Symbol → ℕ → Symbol → Atom → Type 0
MayStandFor framing symbols s symbol (Const text) = may_be_picked framing symbol.len symbol.alphabet text ≡ true
MayStandFor framing symbols s symbol (Sym r) =
    (r ≤ s) × ((root : Symbol) × (slice_get symbols r ≡ Some root) × (root.stands_for ≡ Sym r) × (root.len ≡ symbol.len) × (root.alphabet ≡ symbol.alphabet))

-- each symbol stands for an atom that it may stand for
abbrev pub AreResolved : Framing → List Symbol → Type 0
AreResolved framing symbols = (s : ℕ) (symbol : Symbol) → slice_get symbols s ≡ Some symbol → MayStandFor framing symbols s symbol symbol.stands_for

-- each symbol may have more texts than a number
abbrev pub HaveMore : Framing → List Symbol → ℕ → Type 0
HaveMore framing symbols count = (s : ℕ) (symbol : Symbol) → slice_get symbols s ≡ Some symbol → count < texts_count framing symbol.alphabet symbol.len

-- Facts are kept so that they have a solution: no difference has sides that stand for the same, and each symbol may have
-- more texts than there are differences.
pub record IsSolved (known : Known) : Type 0 where
  pub resolved : AreResolved known.framing known.symbols
  pub apart : list_all (is_apart known.symbols) known.differences ≡ true
  pub atoms : (d : Difference) → IsIn d known.differences → IsAtomOf known d.left × IsAtomOf known d.right
  pub counted : length known.differences ≤ known.asked
  pub within : known.asked ≤ known.room
  pub many : HaveMore known.framing known.symbols (known.room + 1)
