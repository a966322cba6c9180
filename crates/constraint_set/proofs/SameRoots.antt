-- Roots that are written in the same way.
use Rattle.std.proofs.Common.{◌≡◌, ◌⊎◌, ℕ, ◌<◌, ◌≤◌, List, ◌∷◌, length, map, slice_get, Some, refl, sym, ◌∙◌, ap, arith, inl, inr}
use Rattle.std.proofs.lemmas.Option.{slice_get_within}
use Rattle.spec_model.specs.declared.event.Framing.TheVariants.{Len16}
use Rattle.spec_model.specs.declared.tree.Alphabet.TheVariants.{Any}
use Rattle.constraint_set.specs.Characters.{texts_count}
use Rattle.constraint_set.specs.Form.{alphabet_byte, place_bytes, place_of, root_key, root_key_by}
use Rattle.constraint_set.specs.Known.{Known, FitsSymbols, IsAtomOf, IsIn, IsSolution, text_of}
use Rattle.constraint_set.specs.Solved.{resolved}
use Rattle.constraint_set.specs.declared.atom.Atom.{Atom}
use Rattle.constraint_set.specs.declared.atom.Atom.TheVariants.{Const, Sym}
use Rattle.constraint_set.specs.declared.symbol.Symbol.{Symbol}
use Rattle.constraint_set.specs.declared.symbol.Difference.{Difference}
use Rattle.constraint_set.proofs.Atoms.{mapped_at, text_of-resolved}
use Rattle.constraint_set.proofs.FormKeys.{IsReached, alphabets_apart, root_key_is}
use Rattle.constraint_set.proofs.LeastSolution.{IsRootAtom, IsSolvable, resolved_root}
use Rattle.constraint_set.proofs.Packing.{head_same, places_apart}
use Rattle.constraint_set.proofs.Places.{has_place, placed}

-- facts that can be solved, and roots of theirs
pub record IsSeen (known : Known) (roots : List Atom) : Type 0 where
  pub solvable : IsSolvable known
  pub atoms : (k : ℕ) (root : Atom) → slice_get roots k ≡ Some root → IsAtomOf known root
  pub short : length roots < texts_count Len16 Any 8

-- a root that stands for a symbol
pub record IsUnknown (known : Known) (roots : List Atom) (k : ℕ) (root : Atom) : Type 0 where
  pub r : ℕ
  pub place : ℕ
  pub symbol : Symbol
  pub is : resolved known.symbols root ≡ Sym r
  pub reached : IsReached known.symbols roots r place symbol
  pub itself : symbol.stands_for ≡ Sym r
  pub near : place ≤ k

-- a root stands for a constant or a symbol
pub root_info : (known : Known) (roots : List Atom) → IsSeen known roots → (k : ℕ) (root : Atom) → slice_get roots k ≡ Some root
    → ((text : List ℕ) × (resolved known.symbols root ≡ Const text)) ⊎ IsUnknown known roots k root
root_info known roots seen k root at = go (resolved known.symbols root) refl (resolved_root known seen.solvable.resolved root (seen.atoms k root at))
  where
    go : (x : Atom) → resolved known.symbols root ≡ x → IsRootAtom known.symbols x → ((text : List ℕ) × (resolved known.symbols root ≡ Const text)) ⊎ IsUnknown known roots k root
    go (Const text) is root_atom = inl (text, is)
    go (Sym r) is root_atom =
        let found = has_place known.symbols roots r k root at is in
        inr (record {
          r = r;
          place = found.0;
          symbol = root_atom.root;
          is = is;
          reached = record { place_is = found.1; at = root_atom.at };
          itself = root_atom.itself;
          near = found.2;
        })

-- two roots that stand for one constant, or for symbols of one length, alphabet and first place
pub record AreBothUnknown (known : Known) (roots : List Atom) (other : Known) (other_roots : List Atom) (k : ℕ) (root other_root : Atom) : Type 0 where
  pub one : IsUnknown known roots k root
  pub two : IsUnknown other other_roots k other_root
  pub place : one.place ≡ two.place
  pub len : one.symbol.len ≡ two.symbol.len
  pub alphabet : one.symbol.alphabet ≡ two.symbol.alphabet

abbrev pub AreSameRoots : Known → List Atom → Known → List Atom → ℕ → Atom → Atom → Type 0
AreSameRoots known roots other other_roots k root other_root =
    ((text : List ℕ) × (resolved known.symbols root ≡ Const text) × (resolved other.symbols other_root ≡ Const text))
    ⊎ AreBothUnknown known roots other other_roots k root other_root

pub turned_roots : (known : Known) (roots : List Atom) (other : Known) (other_roots : List Atom) (k : ℕ) (root other_root : Atom)
    → AreSameRoots known roots other other_roots k root other_root → AreSameRoots other other_roots known roots k other_root root
turned_roots known roots other other_roots k root other_root (inl same) = inl (same.0, same.2, same.1)
turned_roots known roots other other_roots k root other_root (inr same) = inr (record { one = same.two; two = same.one; place = sym same.place; len = sym same.len; alphabet = sym same.alphabet })

place_small : (known : Known) (roots : List Atom) → IsSeen known roots → (k : ℕ) (root : Atom) → slice_get roots k ≡ Some root → (unknown : IsUnknown known roots k root) → unknown.place < texts_count Len16 Any 8
place_small known roots seen k root at unknown =
    let within = slice_get_within roots k root at in
    let near = unknown.near in
    let short = seen.short in
    omega arith

unknown_key : (known : Known) (roots : List Atom) (k : ℕ) (root : Atom) → (unknown : IsUnknown known roots k root)
    → root_key known.symbols roots root ≡ 1 ∷ unknown.symbol.len ∷ alphabet_byte unknown.symbol.alphabet ∷ place_bytes unknown.place
unknown_key known roots k root unknown =
    ap (root_key_by known.symbols roots) unknown.is ∙ root_key_is known.symbols roots unknown.r unknown.place unknown.symbol unknown.reached

-- roots that are written in the same way are the same
pub same_from_keys : (known : Known) (roots : List Atom) (other : Known) (other_roots : List Atom) → IsSeen known roots → IsSeen other other_roots → (k : ℕ) (root other_root : Atom)
    → slice_get roots k ≡ Some root → slice_get other_roots k ≡ Some other_root → root_key known.symbols roots root ≡ root_key other.symbols other_roots other_root
    → AreSameRoots known roots other other_roots k root other_root
same_from_keys known roots other other_roots seen other_seen k root other_root at other_at same =
    go (root_info known roots seen k root at) (root_info other other_roots other_seen k other_root other_at)
  where
    go : ((text : List ℕ) × (resolved known.symbols root ≡ Const text)) ⊎ IsUnknown known roots k root
        → ((text : List ℕ) × (resolved other.symbols other_root ≡ Const text)) ⊎ IsUnknown other other_roots k other_root
        → AreSameRoots known roots other other_roots k root other_root
    go (inl one) (inl two) =
        let keys : 0 ∷ one.0 ≡ 0 ∷ two.0 = sym (ap (root_key_by known.symbols roots) one.1) ∙ same ∙ ap (root_key_by other.symbols other_roots) two.1 in
        let texts : one.0 ≡ two.0 = cc in
        inl (one.0, one.1, two.1 ∙ ap Const (sym texts))
    go (inl one) (inr two) =
        let keys : 0 ∷ one.0 ≡ 1 ∷ two.symbol.len ∷ alphabet_byte two.symbol.alphabet ∷ place_bytes two.place =
        sym (ap (root_key_by known.symbols roots) one.1) ∙ same ∙ unknown_key other other_roots k other_root two in
        absurd (let wrong = head_same 0 1 _ _ keys in omega arith)
    go (inr one) (inl two) =
        let keys : 1 ∷ one.symbol.len ∷ alphabet_byte one.symbol.alphabet ∷ place_bytes one.place ≡ 0 ∷ two.0 =
        sym (unknown_key known roots k root one) ∙ same ∙ ap (root_key_by other.symbols other_roots) two.1 in
        absurd (let wrong = head_same 1 0 _ _ keys in omega arith)
    go (inr one) (inr two) =
        let keys : 1 ∷ one.symbol.len ∷ alphabet_byte one.symbol.alphabet ∷ place_bytes one.place ≡ 1 ∷ two.symbol.len ∷ alphabet_byte two.symbol.alphabet ∷ place_bytes two.place =
        sym (unknown_key known roots k root one) ∙ same ∙ unknown_key other other_roots k other_root two in
        both one two (parts keys)
      where
        parts : {a b c a' b' c' : ℕ} {d d' : List ℕ} → a ∷ b ∷ c ∷ d ≡ a' ∷ b' ∷ c' ∷ d' → (b ≡ b') × (c ≡ c') × (d ≡ d')
        parts keys = (cc, cc, cc)

        both : (one : IsUnknown known roots k root) (two : IsUnknown other other_roots k other_root)
            → (one.symbol.len ≡ two.symbol.len) × (alphabet_byte one.symbol.alphabet ≡ alphabet_byte two.symbol.alphabet) × (place_bytes one.place ≡ place_bytes two.place)
            → AreSameRoots known roots other other_roots k root other_root
        both one two keys = inr (record {
          one = one;
          two = two;
          place = places_apart one.place two.place (place_small known roots seen k root at one) (place_small other other_roots other_seen k other_root other_at two) keys.2;
          len = keys.0;
          alphabet = alphabets_apart one.symbol.alphabet two.symbol.alphabet keys.1;
        })

-- same roots are written in the same way
pub keys_from_same : (known : Known) (roots : List Atom) (other : Known) (other_roots : List Atom) (k : ℕ) (root other_root : Atom)
    → AreSameRoots known roots other other_roots k root other_root → root_key known.symbols roots root ≡ root_key other.symbols other_roots other_root
keys_from_same known roots other other_roots k root other_root (inl same) = ap (root_key_by known.symbols roots) same.1 ∙ sym (ap (root_key_by other.symbols other_roots) same.2)
keys_from_same known roots other other_roots k root other_root (inr same) =
    unknown_key known roots k root same.one
    ∙ ap (λ len. 1 ∷ len ∷ alphabet_byte same.one.symbol.alphabet ∷ place_bytes same.one.place) same.len
    ∙ ap (λ alphabet. 1 ∷ same.two.symbol.len ∷ alphabet_byte alphabet ∷ place_bytes same.one.place) same.alphabet
    ∙ ap (λ place. 1 ∷ same.two.symbol.len ∷ alphabet_byte same.two.symbol.alphabet ∷ place_bytes place) same.place
    ∙ sym (unknown_key other other_roots k other_root same.two)

-- the roots of both are the same, one by one
pub record AreSameAll (known : Known) (roots : List Atom) (other : Known) (other_roots : List Atom) : Type 0 where
  pub long : length roots ≡ length other_roots
  pub each : (k : ℕ) (root other_root : Atom) → slice_get roots k ≡ Some root → slice_get other_roots k ≡ Some other_root → AreSameRoots known roots other other_roots k root other_root

pub turned_all : (known : Known) (roots : List Atom) (other : Known) (other_roots : List Atom) → AreSameAll known roots other other_roots → AreSameAll other other_roots known roots
turned_all known roots other other_roots same = record {
  long = sym same.long;
  each = λ k root other_root at other_at. turned_roots known roots other other_roots k other_root root (same.each k other_root root other_at at);
}

-- the text that a root takes is that of what it stands for
pub root_takes : (known : Known) (roots : List Atom) (texts : List (List ℕ)) → FitsSymbols known.framing known.symbols texts → (k : ℕ) (root x : Atom) → slice_get roots k ≡ Some root
    → resolved known.symbols root ≡ x → slice_get (map (text_of texts) roots) k ≡ Some (text_of texts x)
root_takes known roots texts fits k root x at is =
    mapped_at (text_of texts) roots k root at ∙ ap Some (text_of-resolved known.framing known.symbols texts fits root ∙ ap (text_of texts) is)

-- so is that at the first place of a symbol
pub place_takes : (known : Known) (roots : List Atom) (texts : List (List ℕ)) → FitsSymbols known.framing known.symbols texts → (r place : ℕ) → place_of known.symbols roots r ≡ Some place
    → slice_get (map (text_of texts) roots) place ≡ Some (text_of texts (Sym r))
place_takes known roots texts fits r place found =
    let here = placed known.symbols roots r place found in
    root_takes known roots texts fits place here.root (Sym r) here.at here.is

-- the sides of a difference have different texts in each solution
pub sides_apart : (known : Known) (texts : List (List ℕ)) → IsSolution known texts → (d : Difference) → IsIn d known.differences → (x y : Atom)
    → resolved known.symbols d.left ≡ x → resolved known.symbols d.right ≡ y → text_of texts x ≡ text_of texts y → ⊥
sides_apart known texts solution d is_in x y left right same = solution.different d is_in
    (text_of-resolved known.framing known.symbols texts solution.fits d.left ∙ ap (text_of texts) left ∙ same ∙ sym (ap (text_of texts) right)
    ∙ sym (text_of-resolved known.framing known.symbols texts solution.fits d.right))
