-- How the least solution is found: each symbol in order takes the first text that is left to it.
use Rattle.std.specs.Prelude.{ℕ, zero, suc, ◌==◌, if◌then◌else◌, List, [], ◌++◌, length, filter_map, slice_get, Option, Some, None, option_map, option_and_then}
use Rattle.std.specs.Option.{option_to_list}
use Rattle.spec_model.specs.declared.event.Framing.{Framing}
use Rattle.constraint_set.specs.Free.{first_free}
use Rattle.constraint_set.specs.Known.{Known, is_same, text_of}
use Rattle.constraint_set.specs.Solved.{resolved}
use Rattle.constraint_set.specs.declared.atom.Atom.{Atom}
use Rattle.constraint_set.specs.declared.atom.Atom.TheVariants.{Const, Sym}
use Rattle.constraint_set.specs.declared.symbol.Symbol.{Symbol}
use Rattle.constraint_set.specs.declared.symbol.Difference.{Difference}

-- the other one of two atoms, where one is the symbol
abbrev pub other_side : ℕ → Atom → Atom → Option Atom
other_side s left right =
    if is_same left (Sym s) then Some right else (if is_same right (Sym s) then Some left else None)

-- the text of an atom, where it has one already
abbrev pub text_so_far : List (List ℕ) → Atom → Option (List ℕ)
text_so_far texts (Const text) = Some text
text_so_far texts (Sym s) = slice_get texts s

-- the text that a difference takes from a symbol, given texts for the symbols before it
abbrev pub taken_by : List Symbol → List (List ℕ) → ℕ → Difference → Option (List ℕ)
taken_by symbols texts s d = option_and_then (text_so_far texts) (other_side s (resolved symbols d.left) (resolved symbols d.right))

abbrev pub taken_from : List Symbol → List Difference → List (List ℕ) → ℕ → List (List ℕ)
taken_from symbols differences texts s = filter_map (taken_by symbols texts s) differences

-- The text of the next symbol, by what it stands for: a constant, a symbol before it that has its text, or the symbol
-- itself, which gets the first text that is not taken.
abbrev pub next_text_by : Framing → List Symbol → List Difference → List (List ℕ) → Symbol → Atom → List ℕ
next_text_by framing symbols differences texts symbol (Const text) = text
next_text_by framing symbols differences texts symbol (Sym r) =
    if r == length texts then first_free framing symbol.alphabet symbol.len (taken_from symbols differences texts r) else text_of texts (Sym r)

abbrev pub next_text : Framing → List Symbol → List Difference → List (List ℕ) → Symbol → List ℕ
next_text framing symbols differences texts symbol = next_text_by framing symbols differences texts symbol symbol.stands_for

-- the texts of so many first symbols
abbrev pub first_texts : Framing → List Symbol → List Difference → ℕ → List (List ℕ)
first_texts framing symbols differences zero = []
first_texts framing symbols differences (suc n) =
    first_texts framing symbols differences n
    ++ option_to_list (option_map (next_text framing symbols differences (first_texts framing symbols differences n)) (slice_get symbols n))

-- the least solution
abbrev pub least_texts : Known → List (List ℕ)
least_texts known = first_texts known.framing known.symbols known.differences (length known.symbols)
