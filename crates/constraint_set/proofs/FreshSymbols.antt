-- One symbol more, of which only its length and alphabet are known.
use Rattle.std.proofs.Common.{◌≡◌, ◌⊎◌, ℕ, suc, ◌+◌, ◌<◌, true, not, List, [], ◌∷◌, ◌++◌, length, take, slice_get, Some, unwrap_or, refl, sym, ◌∙◌, ap, subst, arith, inl, inr, length-append}
use Rattle.std.specs.Option.{option_map_or}
use Rattle.std.proofs.Math.Seq.{take-length}
use Rattle.std.proofs.lemmas.List.{length-take}
use Rattle.std.proofs.lemmas.Bool.{cases_lt}
use Rattle.std.proofs.lemmas.Option.{slice_get_within}
use Rattle.spec_model.specs.declared.event.Framing.{Framing}
use Rattle.spec_model.specs.declared.tree.Alphabet.{Alphabet}
use Rattle.spec_model.specs.Step.{may_be_picked}
use Rattle.constraint_set.specs.Characters.{texts_count}
use Rattle.constraint_set.specs.Known.{Known, HasFresh, IsAtomOf, IsSolution, is_same, text_of}
use Rattle.constraint_set.specs.Solved.{IsSolved, MayStandFor, is_apart, resolved, with_symbol}
use Rattle.constraint_set.specs.declared.atom.Atom.{Atom}
use Rattle.constraint_set.specs.declared.atom.Atom.TheVariants.{Const, Sym}
use Rattle.constraint_set.specs.declared.symbol.Symbol.{Symbol}
use Rattle.constraint_set.proofs.Atoms.{all_pass, each_passes, item_at}
use Rattle.constraint_set.proofs.Lists.{slice_get_first, slice_get_seam, take_one_more}

-- a place in a list with one item more
at_front_or_end : {A : Type 0} → (xs : List A) (x y : A) (k : ℕ) → slice_get (xs ++ x ∷ []) k ≡ Some y → (slice_get xs k ≡ Some y) ⊎ ((k ≡ length xs) × (y ≡ x))
at_front_or_end xs x y k at = elim (cases_lt k (length xs)) [
  | inl front ↦ inl (sym (slice_get_first xs (x ∷ []) k front) ∙ at)
  | inr behind ↦
      let within = slice_get_within (xs ++ x ∷ []) k y at in
      let long = length-append xs (x ∷ []) in
      let same : k ≡ length xs = omega (arith, within, long, behind) in
      let both : Some x ≡ Some y = sym (slice_get_seam xs x [] k same) ∙ at in
      inr (same, cc)
]

-- in a longer list of texts an atom of the shorter one keeps its text
text_kept : (known : Known) (texts : List (List ℕ)) (text : List ℕ) → length texts ≡ length known.symbols → (a : Atom) → IsAtomOf known a → text_of (texts ++ text ∷ []) a ≡ text_of texts a
text_kept known texts text long (Const other) atom = refl
text_kept known texts text long (Sym s) atom = ap (λ found. unwrap_or found []) (slice_get_first texts (text ∷ []) s (omega (arith, long, atom)))

-- what an old symbol stands for is an old atom
stands_atom : (known : Known) (s : ℕ) (symbol : Symbol) → s < length known.symbols → (a : Atom) → MayStandFor known.framing known.symbols s symbol a → IsAtomOf known a
stands_atom known s symbol within (Const text) stands = tt
stands_atom known s symbol within (Sym r) stands = let not_after = stands.0 in omega arith

resolved_kept : (known : Known) (symbol : Symbol) (a : Atom) → IsAtomOf known a → resolved (known.symbols ++ symbol ∷ []) a ≡ resolved known.symbols a
resolved_kept known symbol (Const text) atom = refl
resolved_kept known symbol (Sym s) atom = ap (λ found. option_map_or (λ (x : Symbol). x.stands_for) found (Sym s)) (slice_get_first known.symbols (symbol ∷ []) s atom)

stands_kept : (framing : Framing) (symbols : List Symbol) (more : List Symbol) (s : ℕ) (symbol : Symbol) (a : Atom) → MayStandFor framing symbols s symbol a → MayStandFor framing (symbols ++ more) s symbol a
stands_kept framing symbols more s symbol (Const text) stands = stands
stands_kept framing symbols more s symbol (Sym r) stands =
    (stands.0, (stands.1.0, slice_get_first symbols more r (slice_get_within symbols r stands.1.0 stands.1.1) ∙ stands.1.1, stands.1.2, stands.1.3, stands.1.4))

atom_kept : (known : Known) (len : ℕ) (alphabet : Alphabet) (a : Atom) → IsAtomOf known a → IsAtomOf (with_symbol known len alphabet) a
atom_kept known len alphabet (Const text) atom = tt
atom_kept known len alphabet (Sym s) atom =
    let long = length-append known.symbols (record { len = len; alphabet = alphabet; stands_for = Sym (length known.symbols) } ∷ []) in omega (arith, long, atom)

pub fresh_solved : (known : Known) → IsSolved known → (len : ℕ) (alphabet : Alphabet) → known.room + 1 < texts_count known.framing alphabet len → IsSolved (with_symbol known len alphabet)
fresh_solved known solved len alphabet many = record {
  resolved = λ s symbol at. elim (at_front_or_end known.symbols one symbol s at) [
    | inl front ↦ stands_kept known.framing known.symbols (one ∷ []) s symbol symbol.stands_for (solved.resolved s symbol front)
    | inr last ↦ at_end s symbol last.0 last.1
  ];
  apart = all_pass (is_apart (known.symbols ++ one ∷ [])) known.differences (λ d is_in. let atoms = solved.atoms d is_in in
      ap (λ x. not (is_same x (resolved (known.symbols ++ one ∷ []) d.right))) (resolved_kept known one d.left atoms.0)
      ∙ ap (λ y. not (is_same (resolved known.symbols d.left) y)) (resolved_kept known one d.right atoms.1)
      ∙ each_passes (is_apart known.symbols) known.differences solved.apart d is_in);
  atoms = λ d is_in. let atoms = solved.atoms d is_in in (atom_kept known len alphabet d.left atoms.0, atom_kept known len alphabet d.right atoms.1);
  counted = solved.counted;
  within = solved.within;
  many = λ s symbol at. elim (at_front_or_end known.symbols one symbol s at) [
    | inl front ↦ solved.many s symbol front
    | inr last ↦ subst (λ (x : Symbol). known.room + 1 < texts_count known.framing x.alphabet x.len) (sym last.1) many
  ];
}
  where
    one : Symbol
    one = record { len = len; alphabet = alphabet; stands_for = Sym (length known.symbols) }

    at_end : (s : ℕ) (symbol : Symbol) → s ≡ length known.symbols → symbol ≡ one → MayStandFor known.framing (known.symbols ++ one ∷ []) s symbol symbol.stands_for
    at_end s symbol place is = subst (λ (x : Symbol). MayStandFor known.framing (known.symbols ++ one ∷ []) s x x.stands_for) (sym is)
        (omega (arith, place), (one, slice_get_seam known.symbols one [] (length known.symbols) refl, refl, refl, refl))

pub fresh_has : (known : Known) → IsSolved known → (len : ℕ) (alphabet : Alphabet) → HasFresh known (with_symbol known len alphabet) len alphabet
fresh_has known solved len alphabet = record {
  framing = refl;
  room = refl;
  asked = refl;
  symbols = length-append known.symbols (one ∷ []);
  every = λ texts text solution may. record {
    fits = record {
      one_each = length-append texts (text ∷ []) ∙ ap (λ n. n + 1) solution.fits.one_each ∙ sym (length-append known.symbols (one ∷ []));
      picked = λ s symbol at. elim (at_front_or_end known.symbols one symbol s at) [
        | inl front ↦
            ap (may_be_picked known.framing symbol.len symbol.alphabet) (text_kept known texts text solution.fits.one_each (Sym s) (slice_get_within known.symbols s symbol front))
            ∙ solution.fits.picked s symbol front
        | inr last ↦
            ap (λ (x : Symbol). may_be_picked known.framing x.len x.alphabet (text_of (texts ++ text ∷ []) (Sym s))) last.1
            ∙ ap (may_be_picked known.framing len alphabet) (last_text texts text s solution.fits.one_each last.0) ∙ may
      ];
      equal = λ s symbol at. elim (at_front_or_end known.symbols one symbol s at) [
        | inl front ↦
            let within = slice_get_within known.symbols s symbol front in
            text_kept known texts text solution.fits.one_each (Sym s) within
            ∙ solution.fits.equal s symbol front
            ∙ sym (text_kept known texts text solution.fits.one_each symbol.stands_for (stands_atom known s symbol within symbol.stands_for (solved.resolved s symbol front)))
        | inr last ↦ ap (text_of (texts ++ text ∷ [])) (ap Sym last.0 ∙ sym (ap (λ (x : Symbol). x.stands_for) last.1))
      ];
    };
    different = λ d is_in same. let atoms = solved.atoms d is_in in solution.different d is_in
        (sym (text_kept known texts text solution.fits.one_each d.left atoms.0) ∙ same ∙ text_kept known texts text solution.fits.one_each d.right atoms.1);
  };
  only = λ all solution. parts all solution (item_at all (length known.symbols) (room_for_one all solution));
}
  where
    one : Symbol
    one = record { len = len; alphabet = alphabet; stands_for = Sym (length known.symbols) }

    last_text : (texts : List (List ℕ)) (text : List ℕ) (s : ℕ) → length texts ≡ length known.symbols → s ≡ length known.symbols → text_of (texts ++ text ∷ []) (Sym s) ≡ text
    last_text texts text s long place = ap (λ found. unwrap_or found []) (slice_get_seam texts text [] s (place ∙ sym long))

    room_for_one : (all : List (List ℕ)) → IsSolution (with_symbol known len alphabet) all → length known.symbols < length all
    room_for_one all solution = let long = solution.fits.one_each ∙ length-append known.symbols (one ∷ []) in omega (arith, long)

    parts : (all : List (List ℕ)) → IsSolution (with_symbol known len alphabet) all → (found : (text : List ℕ) × (slice_get all (length known.symbols) ≡ Some text))
        → (texts : List (List ℕ)) × ((text : List ℕ) × (all ≡ texts ++ text ∷ []) × IsSolution known texts × (may_be_picked known.framing len alphabet text ≡ true))
    parts all solution found = (front, (found.0, whole, before, may))
      where
        front : List (List ℕ)
        front = take (length known.symbols) all

        long : length all ≡ length known.symbols + 1
        long = solution.fits.one_each ∙ length-append known.symbols (one ∷ [])

        front_long : length front ≡ length known.symbols
        front_long = let short = length-take (length known.symbols) all in omega (arith, short, long)

        whole : all ≡ front ++ found.0 ∷ []
        whole =
            let one_more : length all ≡ suc (length known.symbols) = omega (arith, long) in
            sym (take-length all) ∙ ap (λ n. take n all) one_more ∙ take_one_more all (length known.symbols) found.0 found.1

        last_at : slice_get (known.symbols ++ one ∷ []) (length known.symbols) ≡ Some one
        last_at = slice_get_seam known.symbols one [] (length known.symbols) refl

        may : may_be_picked known.framing len alphabet found.0 ≡ true
        may = ap (may_be_picked known.framing len alphabet) (sym (ap (λ o. unwrap_or o []) found.1)) ∙ solution.fits.picked (length known.symbols) one last_at

        text_same : (a : Atom) → IsAtomOf known a → text_of front a ≡ text_of all a
        text_same a atom = sym (text_kept known front found.0 front_long a atom) ∙ ap (λ list. text_of list a) (sym whole)

        old_at : (s : ℕ) (symbol : Symbol) → slice_get known.symbols s ≡ Some symbol → slice_get (known.symbols ++ one ∷ []) s ≡ Some symbol
        old_at s symbol at = slice_get_first known.symbols (one ∷ []) s (slice_get_within known.symbols s symbol at) ∙ at

        before : IsSolution known front
        before = record {
          fits = record {
            one_each = front_long;
            picked = λ s symbol at. ap (may_be_picked known.framing symbol.len symbol.alphabet) (text_same (Sym s) (slice_get_within known.symbols s symbol at)) ∙ solution.fits.picked s symbol (old_at s symbol at);
            equal = λ s symbol at.
                let within = slice_get_within known.symbols s symbol at in
                text_same (Sym s) within ∙ solution.fits.equal s symbol (old_at s symbol at)
                ∙ sym (text_same symbol.stands_for (stands_atom known s symbol within symbol.stands_for (solved.resolved s symbol at)));
          };
          different = λ d is_in same. let atoms = solved.atoms d is_in in solution.different d is_in (sym (text_same d.left atoms.0) ∙ same ∙ text_same d.right atoms.1);
        }
