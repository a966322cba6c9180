-- Solved facts have a solution, and the texts that the symbols get one after the other are the least.
use Rattle.std.proofs.Common.{◌≡◌, ℕ, ◌<◌, ◌≤◌, true, false, cond, List, [], length, slice_get, Some, None, unwrap_or, refl, sym, ◌∙◌, ap, subst, arith, inl, inr, eq-eqb}
use Rattle.std.specs.Option.{option_and_then}
use Rattle.std.proofs.lemmas.Bool.{cases_lt, cases_order, ne_eqb}
use Rattle.std.proofs.lemmas.Option.{slice_get_within}
use Rattle.spec_model.specs.declared.event.Framing.{Framing}
use Rattle.spec_model.specs.Step.{may_be_picked}
use Rattle.constraint_set.specs.Characters.{texts_count}
use Rattle.constraint_set.specs.Free.{first_free}
use Rattle.constraint_set.specs.Known.{Known, FitsSymbols, IsAtomOf, IsIn, IsSolution, is_same, text_of}
use Rattle.constraint_set.specs.Least.{first_texts, least_texts, next_text, next_text_by, other_side, taken_by, taken_from, text_so_far}
use Rattle.constraint_set.specs.Solved.{AreResolved, HaveMore, MayStandFor, is_apart, resolved}
use Rattle.constraint_set.specs.declared.atom.Atom.{Atom}
use Rattle.constraint_set.specs.declared.atom.Atom.TheVariants.{Const, Sym}
use Rattle.constraint_set.specs.declared.symbol.Symbol.{Symbol}
use Rattle.constraint_set.specs.declared.symbol.Difference.{Difference}
use Rattle.constraint_set.proofs.Atoms.{apart_sides, is_same_itself, item_at, resolved_at, text_of-resolved}
use Rattle.constraint_set.proofs.FirstTexts.{first_texts_at, length-first_texts}
use Rattle.constraint_set.proofs.FreeTexts.{free_free, free_picked}
use Rattle.constraint_set.proofs.Lists.{given_is_in, length-filter_map}

-- a symbol that stands for itself
pub record IsRoot (symbols : List Symbol) (r : ℕ) : Type 0 where
  pub root : Symbol
  pub at : slice_get symbols r ≡ Some root
  pub itself : root.stands_for ≡ Sym r

-- a constant, or a symbol that stands for itself
abbrev pub IsRootAtom : List Symbol → Atom → Type 0
IsRootAtom symbols (Const text) = Unit {0}
IsRootAtom symbols (Sym r) = IsRoot symbols r

pub root_of : (framing : Framing) (symbols : List Symbol) (s : ℕ) (symbol : Symbol) (a : Atom) → MayStandFor framing symbols s symbol a → IsRootAtom symbols a
root_of framing symbols s symbol (Const text) stands = tt
root_of framing symbols s symbol (Sym r) stands = record { root = stands.1.0; at = stands.1.1; itself = stands.1.2 }

-- what an atom stands for is one
pub resolved_root : (known : Known) → AreResolved known.framing known.symbols → (a : Atom) → IsAtomOf known a → IsRootAtom known.symbols (resolved known.symbols a)
resolved_root known are (Const text) atom = tt
resolved_root known are (Sym s) atom =
    let found = item_at known.symbols s atom in
    subst (IsRootAtom known.symbols) (sym (resolved_at known.symbols s found.0 found.1))
    (root_of known.framing known.symbols s found.0 found.0.stands_for (are s found.0 found.1))

-- fewer differences than each symbol may have texts
pub record IsSolvable (known : Known) : Type 0 where
  pub resolved : AreResolved known.framing known.symbols
  pub apart : (d : Difference) → IsIn d known.differences → is_apart known.symbols d ≡ true
  pub atoms : (d : Difference) → IsIn d known.differences → IsAtomOf known d.left × IsAtomOf known d.right
  pub many : HaveMore known.framing known.symbols (length known.differences)

-- the texts of the first symbols, and of all
abbrev pub so_far : Known → ℕ → List (List ℕ)
so_far known n = first_texts known.framing known.symbols known.differences n

abbrev pub taken_at : Known → ℕ → List (List ℕ)
taken_at known s = taken_from known.symbols known.differences (so_far known s) s

least_at : (known : Known) (s : ℕ) (symbol : Symbol) → slice_get known.symbols s ≡ Some symbol → slice_get (least_texts known) s ≡ Some (next_text known.framing known.symbols known.differences (so_far known s) symbol)
least_at known s symbol at =
    let within = slice_get_within known.symbols s symbol at in
    first_texts_at known.framing known.symbols known.differences (length known.symbols) s symbol within (omega arith) at

-- before a symbol is reached, those before it have their texts
early_text : (known : Known) (s r : ℕ) → s ≤ length known.symbols → r < s → slice_get (so_far known s) r ≡ slice_get (least_texts known) r
early_text known s r within earlier =
    let found = item_at known.symbols r (omega arith) in
    first_texts_at known.framing known.symbols known.differences s r found.0 earlier within found.1 ∙ sym (least_at known r found.0 found.1)

text_least : (known : Known) (s : ℕ) (symbol : Symbol) → slice_get known.symbols s ≡ Some symbol
    → text_of (least_texts known) (Sym s) ≡ next_text known.framing known.symbols known.differences (so_far known s) symbol
text_least known s symbol at = ap (λ found. unwrap_or found []) (least_at known s symbol at)

-- the text of a symbol that stands for itself is the first that is not taken
root_text : (known : Known) (r : ℕ) (root : Symbol) → slice_get known.symbols r ≡ Some root → root.stands_for ≡ Sym r
    → text_of (least_texts known) (Sym r) ≡ first_free known.framing root.alphabet root.len (taken_at known r)
root_text known r root at itself =
    let within = slice_get_within known.symbols r root at in
    let long = length-first_texts known.framing known.symbols known.differences r (omega arith) in
    text_least known r root at
    ∙ ap (next_text_by known.framing known.symbols known.differences (so_far known r) root) itself
    ∙ ap (λ test. cond test (first_free known.framing root.alphabet root.len (taken_at known r)) (text_of (so_far known r) (Sym r))) (eq-eqb r (length (so_far known r)) (sym long))

-- fewer texts are taken than there are
pub fewer_taken : (known : Known) → IsSolvable known → (s r : ℕ) (symbol : Symbol) → slice_get known.symbols s ≡ Some symbol → length (taken_at known r) < texts_count known.framing symbol.alphabet symbol.len
fewer_taken known solvable s r symbol at =
    let more = solvable.many s symbol at in
    let short = length-filter_map (taken_by known.symbols (so_far known r) r) known.differences in
    omega (arith, more, short)

root_picked : (known : Known) → IsSolvable known → (r : ℕ) (root : Symbol) → slice_get known.symbols r ≡ Some root → root.stands_for ≡ Sym r
    → may_be_picked known.framing root.len root.alphabet (text_of (least_texts known) (Sym r)) ≡ true
root_picked known solvable r root at itself =
    ap (may_be_picked known.framing root.len root.alphabet) (root_text known r root at itself)
    ∙ free_picked known.framing root.alphabet root.len (taken_at known r) (fewer_taken known solvable r r root at)

-- what a symbol gets, by what it stands for
gets : (known : Known) (s : ℕ) (symbol : Symbol) → slice_get known.symbols s ≡ Some symbol → (a : Atom) → symbol.stands_for ≡ a → MayStandFor known.framing known.symbols s symbol a
    → text_of (least_texts known) (Sym s) ≡ text_of (least_texts known) a
gets known s symbol at (Const text) is stands = text_least known s symbol at ∙ ap (next_text_by known.framing known.symbols known.differences (so_far known s) symbol) is
gets known s symbol at (Sym r) is stands =
    let within = slice_get_within known.symbols s symbol at in
    let not_after = stands.0 in
    let long = length-first_texts known.framing known.symbols known.differences s (omega arith) in
    elim (cases_lt r s) [
      | inl earlier ↦
          text_least known s symbol at
          ∙ ap (next_text_by known.framing known.symbols known.differences (so_far known s) symbol) is
          ∙ ap (λ test. cond test (first_free known.framing symbol.alphabet symbol.len (taken_from known.symbols known.differences (so_far known s) r)) (text_of (so_far known s) (Sym r)))
          (ne_eqb r (length (so_far known s)) (λ same. omega (arith, same, long)))
          ∙ ap (λ found. unwrap_or found []) (early_text known s r (omega arith) earlier)
      | inr behind ↦ let same : s ≡ r = omega arith in ap (λ k. text_of (least_texts known) (Sym k)) same
    ]

picked_by : (known : Known) → IsSolvable known → (s : ℕ) (symbol : Symbol) → slice_get known.symbols s ≡ Some symbol → (a : Atom) → MayStandFor known.framing known.symbols s symbol a
    → may_be_picked known.framing symbol.len symbol.alphabet (text_of (least_texts known) a) ≡ true
picked_by known solvable s symbol at (Const text) stands = stands
picked_by known solvable s symbol at (Sym r) stands =
    let root : Symbol = stands.1.0 in
    ap (λ len. may_be_picked known.framing len symbol.alphabet (text_of (least_texts known) (Sym r))) (sym stands.1.3)
    ∙ ap (λ alphabet. may_be_picked known.framing root.len alphabet (text_of (least_texts known) (Sym r))) (sym stands.1.4)
    ∙ root_picked known solvable r root stands.1.1 stands.1.2

least_fits : (known : Known) → IsSolvable known → FitsSymbols known.framing known.symbols (least_texts known)
least_fits known solvable = record {
  one_each = length-first_texts known.framing known.symbols known.differences (length known.symbols) (omega arith);
  picked = λ s symbol at.
      let stands = solvable.resolved s symbol at in
      ap (may_be_picked known.framing symbol.len symbol.alphabet) (gets known s symbol at symbol.stands_for refl stands) ∙ picked_by known solvable s symbol at symbol.stands_for stands;
  equal = λ s symbol at. gets known s symbol at symbol.stands_for refl (solvable.resolved s symbol at);
}

-- the other side of a difference
pub left_side : (s : ℕ) (left right : Atom) → left ≡ Sym s → other_side s left right ≡ Some right
left_side s left right is = ap (λ test. cond test (Some right) (cond (is_same right (Sym s)) (Some left) None)) (ap (λ a. is_same a (Sym s)) is ∙ is_same_itself (Sym s))

pub right_side : (s : ℕ) (left right : Atom) → is_same left (Sym s) ≡ false → right ≡ Sym s → other_side s left right ≡ Some left
right_side s left right other is =
    ap (λ test. cond test (Some right) (cond (is_same right (Sym s)) (Some left) None)) other
    ∙ ap (λ test. cond test (Some left) None) (ap (λ a. is_same a (Sym s)) is ∙ is_same_itself (Sym s))

-- what is taken from a symbol is not its text
not_taken : (known : Known) → IsSolvable known → (d : Difference) → IsIn d known.differences → (r : ℕ) → IsRoot known.symbols r → (other : Atom) (text : List ℕ)
    → other_side r (resolved known.symbols d.left) (resolved known.symbols d.right) ≡ Some other → text_so_far (so_far known r) other ≡ Some text
    → text_of (least_texts known) (Sym r) ≡ text → ⊥
not_taken known solvable d is_in r root other text side has same =
    let free = root_text known r root.root root.at root.itself in
    let taken : taken_by known.symbols (so_far known r) r d ≡ Some text = ap (option_and_then (text_so_far (so_far known r))) side ∙ has in
    let among = given_is_in (taken_by known.symbols (so_far known r) r) known.differences d text is_in taken in
    free_free known.framing root.root.alphabet root.root.len (taken_at known r) (fewer_taken known solvable r r root.root root.at)
    (subst (λ t. IsIn t (taken_at known r)) (sym same ∙ free) among)

-- an earlier symbol has its text when a later one is reached
earlier_has : (known : Known) (s r : ℕ) → IsRoot known.symbols s → IsRoot known.symbols r → r < s → text_so_far (so_far known s) (Sym r) ≡ Some (text_of (least_texts known) (Sym r))
earlier_has known s r root earlier_root earlier =
    let within = slice_get_within known.symbols s root.root root.at in
    early_text known s r (omega arith) earlier ∙ least_at known r earlier_root.root earlier_root.at ∙ ap Some (sym (text_least known r earlier_root.root earlier_root.at))

-- the sides of a difference get different texts
sides_differ : (known : Known) → IsSolvable known → (d : Difference) → IsIn d known.differences → (x y : Atom) → resolved known.symbols d.left ≡ x → resolved known.symbols d.right ≡ y
    → IsRootAtom known.symbols x → IsRootAtom known.symbols y → text_of (least_texts known) x ≡ text_of (least_texts known) y → ⊥
sides_differ known solvable d is_in (Const text) (Const other) left right x_root y_root same =
    apart_sides known.symbols d (solvable.apart d is_in) (left ∙ ap Const same ∙ sym right)
sides_differ known solvable d is_in (Sym r) (Const other) left right x_root y_root same =
    not_taken known solvable d is_in r x_root (Const other) other (left_side r (resolved known.symbols d.left) (resolved known.symbols d.right) left ∙ ap Some right) refl same
sides_differ known solvable d is_in (Const text) (Sym q) left right x_root y_root same =
    not_taken known solvable d is_in q y_root (Const text) text
    (right_side q (resolved known.symbols d.left) (resolved known.symbols d.right) (ap (λ a. is_same a (Sym q)) left) right ∙ ap Some left) refl (sym same)
sides_differ known solvable d is_in (Sym r) (Sym q) left right x_root y_root same = elim (cases_order r q) [
  | inl equal ↦ apart_sides known.symbols d (solvable.apart d is_in) (left ∙ ap Sym equal ∙ sym right)
  | inr (inl earlier) ↦
      not_taken known solvable d is_in q y_root (Sym r) (text_of (least_texts known) (Sym r))
      (right_side q (resolved known.symbols d.left) (resolved known.symbols d.right)
      (ap (λ a. is_same a (Sym q)) left ∙ ne_eqb r q (λ equal. omega (arith, equal, earlier))) right ∙ ap Some left)
      (earlier_has known q r y_root x_root earlier) (sym same)
  | inr (inr later) ↦
      not_taken known solvable d is_in r x_root (Sym q) (text_of (least_texts known) (Sym q))
      (left_side r (resolved known.symbols d.left) (resolved known.symbols d.right) left ∙ ap Some right) (earlier_has known r q x_root y_root later) same
]

-- the texts that the symbols get are a solution
pub least_solves : (known : Known) → IsSolvable known → IsSolution known (least_texts known)
least_solves known solvable = record {
  fits = least_fits known solvable;
  different = λ d is_in same.
      let atoms = solvable.atoms d is_in in
      sides_differ known solvable d is_in (resolved known.symbols d.left) (resolved known.symbols d.right) refl refl
      (resolved_root known solvable.resolved d.left atoms.0) (resolved_root known solvable.resolved d.right atoms.1)
      (sym (text_of-resolved known.framing known.symbols (least_texts known) (least_fits known solvable) d.left) ∙ same
      ∙ text_of-resolved known.framing known.symbols (least_texts known) (least_fits known solvable) d.right);
}
