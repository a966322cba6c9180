-- The canonical form of facts as seen from roots: what each root is, and what is known to differ among them.
use Rattle.std.specs.Prelude.{◌≡◌, ℕ, ◌<◌, length, min, max, ◌==◌, if◌then◌else◌, List, [], ◌∷◌, ◌++◌, filter_map, flat_map, map, slice_get, slice_set, Option, Some, None}
use Rattle.std.specs.List.{position_from}
use Rattle.std.specs.List.Sorted.{IsStrictlySortedBy}
use Rattle.std.specs.Cmp.Lexicographic.{slice_cmp}
use Rattle.std.specs.Option.{option_map_or}
use Rattle.std.specs.Ordering.{nat_cmp}
use Rattle.spec_model.specs.declared.event.Framing.{Framing}
use Rattle.spec_model.specs.declared.event.Framing.TheVariants.{Len16}
use Rattle.spec_model.specs.declared.tree.Alphabet.{Alphabet}
use Rattle.spec_model.specs.declared.tree.Alphabet.TheVariants.{Hex, Alnum, Any}
use Rattle.spec_model.specs.Step.{may_be_picked}
use Rattle.spec_model.specs.Value.{only_if, ◌>>=◌}
use Rattle.constraint_set.specs.Characters.{text_numbered}
use Rattle.constraint_set.specs.Known.{Known, IsIn, is_same}
use Rattle.constraint_set.specs.Solved.{resolved}
use Rattle.constraint_set.specs.declared.atom.Atom.{Atom}
use Rattle.constraint_set.specs.declared.atom.Atom.TheVariants.{Const, Sym}
use Rattle.constraint_set.specs.declared.symbol.Symbol.{Symbol}
use Rattle.constraint_set.specs.declared.symbol.Difference.{Difference}

-- a place in eight bytes, the greatest first
abbrev pub place_bytes : ℕ → List ℕ
place_bytes place = text_numbered Len16 Any 8 place

-- the first place among the roots of what stands for the symbol
abbrev pub place_of : List Symbol → List Atom → ℕ → Option ℕ
place_of symbols roots r = position_from (λ root. is_same (resolved symbols root) (Sym r)) 0 roots

-- the table with one place more, where the atom is one of the symbols
abbrev pub with_place : List (Option ℕ) → Atom → ℕ → List (Option ℕ)
with_place places (Const text) place = places
with_place places (Sym r) place = slice_set places r (Some place)

-- a table of these places by the symbols' numbers
pub record ArePlaces (symbols : List Symbol) (roots : List Atom) (places : List (Option ℕ)) : Type 0 where
  pub long : length places ≡ length symbols
  pub each : (r : ℕ) → r < length symbols → slice_get places r ≡ Some (place_of symbols roots r)

abbrev pub alphabet_byte : Alphabet → ℕ
alphabet_byte Hex = 0
alphabet_byte Alnum = 1
alphabet_byte Any = 2

-- what is written of a root: the constant for which it stands, or the length, the alphabet and the first place of its symbol
abbrev pub symbol_bytes : Symbol → List ℕ
symbol_bytes symbol = symbol.len ∷ alphabet_byte symbol.alphabet ∷ []

abbrev pub root_key_by : List Symbol → List Atom → Atom → List ℕ
root_key_by symbols roots (Const text) = 0 ∷ text
root_key_by symbols roots (Sym r) =
    1 ∷ option_map_or (λ symbol. symbol_bytes symbol ++ option_map_or place_bytes (place_of symbols roots r) []) (slice_get symbols r) []

abbrev pub root_key : List Symbol → List Atom → Atom → List ℕ
root_key symbols roots root = root_key_by symbols roots (resolved symbols root)

-- what is written of two symbols that differ, where both are reached from roots and are of one length
abbrev pub pair_key : List Symbol → List Atom → ℕ → ℕ → Option (List ℕ)
pair_key symbols roots r s = do
  a ← slice_get symbols r
  b ← slice_get symbols s
  r_place ← place_of symbols roots r
  s_place ← place_of symbols roots s
  only_if (a.len == b.len) (Some (2 ∷ (place_bytes (min r_place s_place) ++ place_bytes (max r_place s_place))))

-- what is written of a symbol that differs from a constant, where it is reached from a root and could be that constant
abbrev pub text_key : Framing → List Symbol → List Atom → ℕ → List ℕ → Option (List ℕ)
text_key framing symbols roots r text = do
  symbol ← slice_get symbols r
  place ← place_of symbols roots r
  only_if (may_be_picked framing symbol.len symbol.alphabet text) (Some (3 ∷ (place_bytes place ++ text)))

-- what is written of a difference
abbrev pub difference_key_by : Framing → List Symbol → List Atom → Atom → Atom → Option (List ℕ)
difference_key_by framing symbols roots (Const text) (Const other) = None
difference_key_by framing symbols roots (Const text) (Sym r) = text_key framing symbols roots r text
difference_key_by framing symbols roots (Sym r) (Const text) = text_key framing symbols roots r text
difference_key_by framing symbols roots (Sym r) (Sym s) = pair_key symbols roots r s

abbrev pub difference_key : Framing → List Symbol → List Atom → Difference → Option (List ℕ)
difference_key framing symbols roots d = difference_key_by framing symbols roots (resolved symbols d.left) (resolved symbols d.right)

-- a text so written that its end is seen: a 0 as 0 and 1, and 0 and 0 at the end
abbrev pub packed_byte : ℕ → List ℕ
packed_byte byte = if byte == 0 then 0 ∷ 1 ∷ [] else byte ∷ []

abbrev pub packed : List ℕ → List ℕ
packed text = flat_map packed_byte text ++ 0 ∷ 0 ∷ []

-- What is written: of each root in their order, and of the differences in the order of what is written, each once.
pub record IsWritten (framing : Framing) (symbols : List Symbol) (differences : List Difference) (roots : List Atom) (form : List ℕ) : Type 0 where
  pub keys : List (List ℕ)
  pub sorted : IsStrictlySortedBy (slice_cmp nat_cmp) keys
  pub all : (key : List ℕ) → IsIn key (filter_map (difference_key framing symbols roots) differences) → IsIn key keys
  pub only : (key : List ℕ) → IsIn key keys → IsIn key (filter_map (difference_key framing symbols roots) differences)
  pub is : form ≡ flat_map packed (map (root_key symbols roots) roots ++ keys)

-- the form of facts
abbrev pub IsForm : Known → List Atom → List ℕ → Type 0
IsForm known roots form = IsWritten known.framing known.symbols known.differences roots form
