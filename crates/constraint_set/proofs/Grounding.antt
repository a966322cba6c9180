-- Some of the symbols that stand for themselves are given texts.
use Rattle.std.proofs.Common.{◌≡◌, ℕ, true, List, map, slice_get, Option, Some, None, refl, sym, ◌∙◌, ap, subst}
use Rattle.std.specs.Option.{option_map_or}
use Rattle.std.proofs.lemmas.List.{length-map}
use Rattle.spec_model.specs.declared.event.Framing.{Framing}
use Rattle.spec_model.specs.Step.{may_be_picked}
use Rattle.constraint_set.specs.Known.{FitsSymbols, text_of}
use Rattle.constraint_set.specs.Solved.{resolved, MayStandFor, AreResolved, HaveMore}
use Rattle.constraint_set.specs.declared.atom.Atom.{Atom}
use Rattle.constraint_set.specs.declared.atom.Atom.TheVariants.{Const, Sym}
use Rattle.constraint_set.specs.declared.symbol.Symbol.{Symbol}
use Rattle.constraint_set.proofs.Atoms.{mapped_from, mapped_at}

-- an atom, with the text where its symbol is given one
abbrev pub grounded_atom : (ℕ → Option (List ℕ)) → Atom → Atom
grounded_atom given (Const text) = Const text
grounded_atom given (Sym r) = option_map_or (λ text. Const text) (given r) (Sym r)

abbrev pub grounded : (ℕ → Option (List ℕ)) → Symbol → Symbol
grounded given symbol = record symbol { stands_for = grounded_atom given symbol.stands_for }

-- each text that is given is of its symbol's length and alphabet
abbrev pub IsGrounding : Framing → List Symbol → (ℕ → Option (List ℕ)) → Type 0
IsGrounding framing symbols given = (r : ℕ) (root : Symbol) (text : List ℕ) → slice_get symbols r ≡ Some root → given r ≡ Some text → may_be_picked framing root.len root.alphabet text ≡ true

given_atom : (given : ℕ → Option (List ℕ)) (r : ℕ) (text : List ℕ) → given r ≡ Some text → grounded_atom given (Sym r) ≡ Const text
given_atom given r text is = ap (λ found. option_map_or (λ text. Const text) found (Sym r)) is

kept_atom : (given : ℕ → Option (List ℕ)) (r : ℕ) → given r ≡ None → grounded_atom given (Sym r) ≡ Sym r
kept_atom given r is = ap (λ found. option_map_or (λ text. Const text) found (Sym r)) is

stands_grounded : (framing : Framing) (symbols : List Symbol) (given : ℕ → Option (List ℕ)) → IsGrounding framing symbols given → (s : ℕ) (symbol : Symbol) (a : Atom)
    → MayStandFor framing symbols s symbol a → MayStandFor framing (map (grounded given) symbols) s (grounded given symbol) (grounded_atom given a)
stands_grounded framing symbols given may s symbol (Const text) stands = stands
stands_grounded framing symbols given may s symbol (Sym r) stands = go (given r) refl
  where
    root : Symbol
    root = stands.1.0

    go : (found : Option (List ℕ)) → given r ≡ found → MayStandFor framing (map (grounded given) symbols) s (grounded given symbol) (option_map_or (λ text. Const text) found (Sym r))
    go None is = (stands.0, (grounded given root, mapped_at (grounded given) symbols r root stands.1.1, ap (grounded_atom given) stands.1.2 ∙ kept_atom given r is, stands.1.3, stands.1.4))
    go (Some text) is = ap (λ len. may_be_picked framing len symbol.alphabet text) (sym stands.1.3) ∙ ap (λ alphabet. may_be_picked framing root.len alphabet text) (sym stands.1.4) ∙ may r root text stands.1.1 is

-- the symbols are resolved again
pub grounded_resolved : (framing : Framing) (symbols : List Symbol) (given : ℕ → Option (List ℕ)) → IsGrounding framing symbols given → AreResolved framing symbols → AreResolved framing (map (grounded given) symbols)
grounded_resolved framing symbols given may are s new at =
    let old = mapped_from (grounded given) symbols s new at in
    subst (λ (x : Symbol). MayStandFor framing (map (grounded given) symbols) s x x.stands_for) (sym old.2)
    (stands_grounded framing symbols given may s old.0 old.0.stands_for (are s old.0 old.1))

-- a symbol that is given a text has it
pub given_text : (framing : Framing) (symbols : List Symbol) (given : ℕ → Option (List ℕ)) (texts : List (List ℕ)) → FitsSymbols framing (map (grounded given) symbols) texts
    → (r : ℕ) (root : Symbol) (text : List ℕ) → slice_get symbols r ≡ Some root → root.stands_for ≡ Sym r → given r ≡ Some text → text_of texts (Sym r) ≡ text
given_text framing symbols given texts fits r root text at itself is =
    fits.equal r (grounded given root) (mapped_at (grounded given) symbols r root at) ∙ ap (text_of texts) (ap (grounded_atom given) itself ∙ given_atom given r text is)

text_grounded : (framing : Framing) (symbols : List Symbol) (given : ℕ → Option (List ℕ)) (texts : List (List ℕ)) → FitsSymbols framing (map (grounded given) symbols) texts
    → (s : ℕ) (symbol : Symbol) (a : Atom) → MayStandFor framing symbols s symbol a → text_of texts (grounded_atom given a) ≡ text_of texts a
text_grounded framing symbols given texts fits s symbol (Const text) stands = refl
text_grounded framing symbols given texts fits s symbol (Sym r) stands = go (given r) refl
  where
    go : (found : Option (List ℕ)) → given r ≡ found → text_of texts (option_map_or (λ text. Const text) found (Sym r)) ≡ text_of texts (Sym r)
    go None is = refl
    go (Some text) is = sym (given_text framing symbols given texts fits r stands.1.0 text stands.1.1 stands.1.2 is)

-- texts that fit then fit before
pub grounded_fits : (framing : Framing) (symbols : List Symbol) (given : ℕ → Option (List ℕ)) (texts : List (List ℕ)) → AreResolved framing symbols
    → FitsSymbols framing (map (grounded given) symbols) texts → FitsSymbols framing symbols texts
grounded_fits framing symbols given texts are fits = record {
  one_each = fits.one_each ∙ length-map symbols (grounded given);
  picked = λ s symbol at. fits.picked s (grounded given symbol) (mapped_at (grounded given) symbols s symbol at);
  equal = λ s symbol at. fits.equal s (grounded given symbol) (mapped_at (grounded given) symbols s symbol at) ∙ text_grounded framing symbols given texts fits s symbol symbol.stands_for (are s symbol at);
}

-- texts that fit before and are those that are given fit then
pub fits_grounded : (framing : Framing) (symbols : List Symbol) (given : ℕ → Option (List ℕ)) (texts : List (List ℕ))
    → FitsSymbols framing symbols texts → ((r : ℕ) (text : List ℕ) → given r ≡ Some text → text_of texts (Sym r) ≡ text) → FitsSymbols framing (map (grounded given) symbols) texts
fits_grounded framing symbols given texts fits has = record {
  one_each = fits.one_each ∙ sym (length-map symbols (grounded given));
  picked = λ s new at. let old = mapped_from (grounded given) symbols s new at in
      subst (λ (x : Symbol). may_be_picked framing x.len x.alphabet (text_of texts (Sym s)) ≡ true) (sym old.2) (fits.picked s old.0 old.1);
  equal = λ s new at. let old = mapped_from (grounded given) symbols s new at in
      subst (λ (x : Symbol). text_of texts (Sym s) ≡ text_of texts x.stands_for) (sym old.2) (fits.equal s old.0 old.1 ∙ same old.0.stands_for);
}
  where
    same : (a : Atom) → text_of texts a ≡ text_of texts (grounded_atom given a)
    same (Const text) = refl
    same (Sym r) = go (given r) refl
      where
        go : (found : Option (List ℕ)) → given r ≡ found → text_of texts (Sym r) ≡ text_of texts (option_map_or (λ text. Const text) found (Sym r))
        go None is = refl
        go (Some text) is = has r text is

-- each symbol may have as many texts as before
pub grounded_more : (framing : Framing) (symbols : List Symbol) (given : ℕ → Option (List ℕ)) (count : ℕ) → HaveMore framing symbols count → HaveMore framing (map (grounded given) symbols) count
grounded_more framing symbols given count more s new at =
    let old = mapped_from (grounded given) symbols s new at in
    let found = more s old.0 old.1 in
    rw old.2 found

-- what an atom of the symbols stands for then
pub resolved_grounded : (symbols : List Symbol) (given : ℕ → Option (List ℕ)) (s : ℕ) (symbol : Symbol) → slice_get symbols s ≡ Some symbol
    → resolved (map (grounded given) symbols) (Sym s) ≡ grounded_atom given (resolved symbols (Sym s))
resolved_grounded symbols given s symbol at =
    ap (λ found. option_map_or (λ (x : Symbol). x.stands_for) found (Sym s)) (mapped_at (grounded given) symbols s symbol at)
    ∙ ap (grounded_atom given) (ap (λ found. option_map_or (λ (x : Symbol). x.stands_for) found (Sym s)) (sym at))
