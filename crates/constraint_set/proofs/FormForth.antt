-- Where the roots of two facts are the same and the second's differences are written among the first's, the second gives its
-- roots each list of texts that the first gives.
use Rattle.std.proofs.Common.{◌≡◌, ℕ, min, max, true, List, [], ◌∷◌, ◌++◌, length, map, slice_get, Option, Some, None, refl, sym, ◌∙◌, ap, arith, inl, inr}
use Rattle.std.specs.Option.{option_and_then, option_map_or}
use Rattle.std.proofs.lemmas.Bool.{true_from_ne_false, eqb-true, and_parts}
use Rattle.std.proofs.lemmas.List.{length-map}
use Rattle.spec_model.specs.declared.event.Framing.{Framing}
use Rattle.spec_model.specs.declared.tree.Alphabet.{Alphabet}
use Rattle.spec_model.specs.Step.{may_be_picked}
use Rattle.constraint_set.specs.Form.{difference_key, difference_key_by, place_bytes, place_of}
use Rattle.constraint_set.specs.Known.{Known, IsAtomOf, IsIn, IsSolution, text_of}
use Rattle.constraint_set.specs.Least.{least_texts}
use Rattle.constraint_set.specs.RootTexts.{CanTake}
use Rattle.constraint_set.specs.Solved.{is_apart, resolved}
use Rattle.constraint_set.specs.declared.atom.Atom.{Atom}
use Rattle.constraint_set.specs.declared.atom.Atom.TheVariants.{Const, Sym}
use Rattle.constraint_set.specs.declared.symbol.Symbol.{Symbol}
use Rattle.constraint_set.specs.declared.symbol.Difference.{Difference}
use Rattle.constraint_set.proofs.Atoms.{apart_sides, item_at, mapped_from, text_of-resolved, together_sides}
use Rattle.constraint_set.proofs.FormGives.{IsMet, keys_of, met, met_alphabet, pair_key_apart, text_key_apart}
use Rattle.constraint_set.proofs.FormKeys.{IsReached, pair_key_is, text_key_is}
use Rattle.constraint_set.proofs.Grounding.{IsGrounding, given_text, grounded, grounded_atom, grounded_fits, grounded_more, grounded_resolved, resolved_grounded}
use Rattle.constraint_set.proofs.LeastSolution.{IsSolvable, least_solves}
use Rattle.constraint_set.proofs.Lists.{given_is_in, same_lists, same_place}
use Rattle.constraint_set.proofs.Places.{one_symbol}
use Rattle.constraint_set.proofs.SameRoots.{AreSameAll, AreSameRoots, IsSeen, place_takes}

-- the symbols that stand for themselves with given texts: an atom of the facts stands for what it stood for, with the text
pub resolved_given : (known : Known) (given : ℕ → Option (List ℕ)) (a : Atom) → IsAtomOf known a → resolved (map (grounded given) known.symbols) a ≡ grounded_atom given (resolved known.symbols a)
resolved_given known given (Const text) atom = refl
resolved_given known given (Sym s) atom = let found = item_at known.symbols s atom in resolved_grounded known.symbols given s found.0 found.1

-- Facts with given texts can be solved, where the texts fit and no difference gets equal sides.
pub solvable_given : (known : Known) → IsSolvable known → (given : ℕ → Option (List ℕ)) → IsGrounding known.framing known.symbols given
    → ((d : Difference) → IsIn d known.differences → grounded_atom given (resolved known.symbols d.left) ≡ grounded_atom given (resolved known.symbols d.right) → ⊥)
    → IsSolvable (record known { symbols = map (grounded given) known.symbols })
solvable_given known solvable given may apart = record {
  resolved = grounded_resolved known.framing known.symbols given may solvable.resolved;
  apart = λ d is_in. let atoms = solvable.atoms d is_in in
      true_from_ne_false (is_apart (map (grounded given) known.symbols) d) (λ together. apart d is_in
      (sym (resolved_given known given d.left atoms.0) ∙ together_sides (map (grounded given) known.symbols) d together ∙ resolved_given known given d.right atoms.1));
  atoms = λ d is_in. let atoms = solvable.atoms d is_in in (still d.left atoms.0, still d.right atoms.1);
  many = grounded_more known.framing known.symbols given (length known.differences) solvable.many;
}
  where
    still : (a : Atom) → IsAtomOf known a → IsAtomOf (record known { symbols = map (grounded given) known.symbols }) a
    still (Const text) atom = tt
    still (Sym s) atom = let long = length-map known.symbols (grounded given) in omega (arith, long, atom)

-- its solutions are solutions of the facts
pub solution_given : (known : Known) → IsSolvable known → (given : ℕ → Option (List ℕ)) → (texts : List (List ℕ)) → IsSolution (record known { symbols = map (grounded given) known.symbols }) texts → IsSolution known texts
solution_given known solvable given texts solution = record {
  fits = grounded_fits known.framing known.symbols given texts solvable.resolved solution.fits;
  different = solution.different;
}

-- texts of two lengths differ
pub picked_len : (len : ℕ) (framing : Framing) (alphabet : Alphabet) (text : List ℕ) → may_be_picked framing len alphabet text ≡ true → length text ≡ len
picked_len len framing alphabet text may = eqb-true (length text) len ((and_parts _ _ may).0)

module _ (known : Known) (roots : List Atom) (other : Known) (other_roots : List Atom) (texts : List (List ℕ)) where
  -- the text that a symbol is given: that of its first place
  abbrev given : ℕ → Option (List ℕ)
  given s = option_and_then (slice_get (map (text_of texts) roots)) (place_of other.symbols other_roots s)

given_met : (known : Known) (roots : List Atom) (other : Known) (other_roots : List Atom) (texts : List (List ℕ)) → IsSolution known texts → (s place : ℕ)
    → place_of other.symbols other_roots s ≡ Some place → (m : IsMet known roots other other_roots s place) → given known roots other other_roots texts s ≡ Some (text_of texts (Sym m.r))
given_met known roots other other_roots texts solution s place found m =
    ap (option_and_then (slice_get (map (text_of texts) roots))) found ∙ place_takes known roots texts solution.fits m.r place m.reached.place_is

-- a text given to a symbol fits it
given_fits : (known : Known) (roots : List Atom) (other : Known) (other_roots : List Atom) (texts : List (List ℕ)) → known.framing ≡ other.framing → (same : AreSameAll known roots other other_roots)
    → IsSolution known texts → (s place : ℕ) → (found : place_of other.symbols other_roots s ≡ Some place) → (m : IsMet known roots other other_roots s place)
    → may_be_picked other.framing m.b.len m.b.alphabet (text_of texts (Sym m.r)) ≡ true
given_fits known roots other other_roots texts framing same solution s place found m =
    ap (λ f. may_be_picked f m.b.len m.b.alphabet (text_of texts (Sym m.r))) (sym framing)
    ∙ ap (λ len. may_be_picked known.framing len m.b.alphabet (text_of texts (Sym m.r))) (sym m.len)
    ∙ ap (λ alphabet. may_be_picked known.framing m.a.len alphabet (text_of texts (Sym m.r))) (sym (met_alphabet known roots other other_roots same s place found m))
    ∙ solution.fits.picked m.r m.a m.reached.at

-- what is needed of two facts for the one half
record IsHalf (known : Known) (roots : List Atom) (other : Known) (other_roots : List Atom) (texts : List (List ℕ)) : Type 0 where
  seen : IsSeen known roots
  other_seen : IsSeen other other_roots
  framing : known.framing ≡ other.framing
  same : AreSameAll known roots other other_roots
  keys : (key : List ℕ) → IsIn key (keys_of other other_roots) → IsIn key (keys_of known roots)
  solution : IsSolution known texts

-- a symbol that differs from a constant isn't given it
not_given : (known : Known) (roots : List Atom) (other : Known) (other_roots : List Atom) (texts : List (List ℕ)) → IsHalf known roots other other_roots texts
    → (d : Difference) → IsIn d other.differences → (s : ℕ) (text : List ℕ)
    → ((key : List ℕ) → (place : ℕ) (b : Symbol) → IsReached other.symbols other_roots s place b → may_be_picked other.framing b.len b.alphabet text ≡ true
    → difference_key other.framing other.symbols other_roots d ≡ Some (3 ∷ (place_bytes place ++ text)))
    → grounded_atom (given known roots other other_roots texts) (Sym s) ≡ Const text → ⊥
not_given known roots other other_roots texts half d is_in s text key_is same = go (place_of other.symbols other_roots s) refl
  where
    go : (found : Option ℕ) → place_of other.symbols other_roots s ≡ found → ⊥
    go None none =
        let no_text : given known roots other other_roots texts s ≡ None = ap (option_and_then (slice_get (map (text_of texts) roots))) none in
        let wrong : Sym s ≡ Const text = sym (ap (λ o. option_map_or (λ t. Const t) o (Sym s)) no_text) ∙ same in cc
    go (Some place) found =
        let m = met known roots other other_roots half.same s place found in
        let has = given_met known roots other other_roots texts half.solution s place found m in
        let atoms : Const (text_of texts (Sym m.r)) ≡ Const text = sym (ap (λ o. option_map_or (λ t. Const t) o (Sym s)) has) ∙ same in
        let equal : text_of texts (Sym m.r) ≡ text = cc in
        let may = ap (may_be_picked other.framing m.b.len m.b.alphabet) (sym equal) ∙ given_fits known roots other other_roots texts half.framing half.same half.solution s place found m in
        let among = given_is_in (difference_key other.framing other.symbols other_roots) other.differences d (3 ∷ (place_bytes place ++ text)) is_in (key_is [] place m.b m.other_reached may) in
        text_key_apart known roots half.seen texts half.solution m.r place text m.reached.place_is (half.keys _ among) equal

-- two symbols that differ aren't given one text
not_both : (known : Known) (roots : List Atom) (other : Known) (other_roots : List Atom) (texts : List (List ℕ)) → IsHalf known roots other other_roots texts
    → (d : Difference) → IsIn d other.differences → (r s : ℕ) → resolved other.symbols d.left ≡ Sym r → resolved other.symbols d.right ≡ Sym s → (r ≡ s → ⊥)
    → grounded_atom (given known roots other other_roots texts) (Sym r) ≡ grounded_atom (given known roots other other_roots texts) (Sym s) → ⊥
not_both known roots other other_roots texts half d is_in r s left right differ same = go (place_of other.symbols other_roots r) (place_of other.symbols other_roots s) refl refl
  where
    atom_none : (t : ℕ) → place_of other.symbols other_roots t ≡ None → grounded_atom (given known roots other other_roots texts) (Sym t) ≡ Sym t
    atom_none t none = ap (λ o. option_map_or (λ text. Const text) (option_and_then (slice_get (map (text_of texts) roots)) o) (Sym t)) none

    atom_some : (t place : ℕ) → place_of other.symbols other_roots t ≡ Some place → (m : IsMet known roots other other_roots t place)
        → grounded_atom (given known roots other other_roots texts) (Sym t) ≡ Const (text_of texts (Sym m.r))
    atom_some t place found m = ap (λ o. option_map_or (λ text. Const text) o (Sym t)) (given_met known roots other other_roots texts half.solution t place found m)

    go : (r_found s_found : Option ℕ) → place_of other.symbols other_roots r ≡ r_found → place_of other.symbols other_roots s ≡ s_found → ⊥
    go None None r_none s_none = let wrong : Sym r ≡ Sym s = sym (atom_none r r_none) ∙ same ∙ atom_none s s_none in differ (cc)
    go None (Some q) r_none s_is =
        let m = met known roots other other_roots half.same s q s_is in
        let wrong : Sym r ≡ Const (text_of texts (Sym m.r)) = sym (atom_none r r_none) ∙ same ∙ atom_some s q s_is m in cc
    go (Some p) None r_is s_none =
        let m = met known roots other other_roots half.same r p r_is in
        let wrong : Const (text_of texts (Sym m.r)) ≡ Sym s = sym (atom_some r p r_is m) ∙ same ∙ atom_none s s_none in cc
    go (Some p) (Some q) r_is s_is =
        let m = met known roots other other_roots half.same r p r_is in
        let n = met known roots other other_roots half.same s q s_is in
        let atoms : Const (text_of texts (Sym m.r)) ≡ Const (text_of texts (Sym n.r)) = sym (atom_some r p r_is m) ∙ same ∙ atom_some s q s_is n in
        let equal : text_of texts (Sym m.r) ≡ text_of texts (Sym n.r) = cc in
        let len : m.b.len ≡ n.b.len =
        sym (picked_len m.b.len other.framing m.b.alphabet (text_of texts (Sym m.r)) (given_fits known roots other other_roots texts half.framing half.same half.solution r p r_is m))
        ∙ ap length equal ∙ picked_len n.b.len other.framing n.b.alphabet (text_of texts (Sym n.r)) (given_fits known roots other other_roots texts half.framing half.same half.solution s q s_is n) in
        let key : difference_key other.framing other.symbols other_roots d ≡ Some (2 ∷ (place_bytes (min p q) ++ place_bytes (max p q))) =
        ap (λ x. difference_key_by other.framing other.symbols other_roots x (resolved other.symbols d.right)) left
        ∙ ap (difference_key_by other.framing other.symbols other_roots (Sym r)) right
        ∙ pair_key_is other.symbols other_roots r s p q m.b n.b m.other_reached n.other_reached len in
        let among = given_is_in (difference_key other.framing other.symbols other_roots) other.differences d _ is_in key in
        pair_key_apart known roots half.seen texts half.solution m.r n.r p q m.reached.place_is n.reached.place_is (half.keys _ among) equal

-- no difference gets equal sides
given_apart : (known : Known) (roots : List Atom) (other : Known) (other_roots : List Atom) (texts : List (List ℕ)) → IsHalf known roots other other_roots texts
    → (d : Difference) → IsIn d other.differences → (x y : Atom) → resolved other.symbols d.left ≡ x → resolved other.symbols d.right ≡ y
    → grounded_atom (given known roots other other_roots texts) x ≡ grounded_atom (given known roots other other_roots texts) y → ⊥
given_apart known roots other other_roots texts half d is_in (Const text) (Const other_text) left right same =
    apart_sides other.symbols d (half.other_seen.solvable.apart d is_in) (left ∙ same ∙ sym right)
given_apart known roots other other_roots texts half d is_in (Sym s) (Const text) left right same =
    not_given known roots other other_roots texts half d is_in s text (λ key place b reached may.
    ap (λ x. difference_key_by other.framing other.symbols other_roots x (resolved other.symbols d.right)) left
    ∙ ap (difference_key_by other.framing other.symbols other_roots (Sym s)) right
    ∙ text_key_is other.framing other.symbols other_roots s place b text reached may) same
given_apart known roots other other_roots texts half d is_in (Const text) (Sym s) left right same =
    not_given known roots other other_roots texts half d is_in s text (λ key place b reached may.
    ap (λ x. difference_key_by other.framing other.symbols other_roots x (resolved other.symbols d.right)) left
    ∙ ap (difference_key_by other.framing other.symbols other_roots (Const text)) right
    ∙ text_key_is other.framing other.symbols other_roots s place b text reached may) (sym same)
given_apart known roots other other_roots texts half d is_in (Sym r) (Sym s) left right same =
    not_both known roots other other_roots texts half d is_in r s left right
    (λ equal. apart_sides other.symbols d (half.other_seen.solvable.apart d is_in) (left ∙ ap Sym equal ∙ sym right)) same

-- the texts that are given fit
given_may : (known : Known) (roots : List Atom) (other : Known) (other_roots : List Atom) (texts : List (List ℕ)) → IsHalf known roots other other_roots texts
    → IsGrounding other.framing other.symbols (given known roots other other_roots texts)
given_may known roots other other_roots texts half s root text at is = go (place_of other.symbols other_roots s) refl
  where
    go : (found : Option ℕ) → place_of other.symbols other_roots s ≡ found → may_be_picked other.framing root.len root.alphabet text ≡ true
    go None none =
        let no_text : given known roots other other_roots texts s ≡ None = ap (option_and_then (slice_get (map (text_of texts) roots))) none in
        let wrong : None ≡ Some text = sym no_text ∙ is in absurd (cc)
    go (Some place) found =
        let m = met known roots other other_roots half.same s place found in
        let has : Some (text_of texts (Sym m.r)) ≡ Some text = sym (given_met known roots other other_roots texts half.solution s place found m) ∙ is in
        let equal : text_of texts (Sym m.r) ≡ text = cc in
        let symbol : root ≡ m.b = same_place other.symbols s s m.b root refl m.other_reached.at at in
        ap (λ (x : Symbol). may_be_picked other.framing x.len x.alphabet text) symbol
        ∙ ap (may_be_picked other.framing m.b.len m.b.alphabet) (sym equal)
        ∙ given_fits known roots other other_roots texts half.framing half.same half.solution s place found m

-- a root takes the same text
same_text : (known : Known) (roots : List Atom) (other : Known) (other_roots : List Atom) (texts : List (List ℕ)) → IsHalf known roots other other_roots texts
    → (found : List (List ℕ)) → IsSolution (record other { symbols = map (grounded (given known roots other other_roots texts)) other.symbols }) found → IsSolution other found
    → (k : ℕ) (root other_root : Atom) → slice_get roots k ≡ Some root → slice_get other_roots k ≡ Some other_root
    → AreSameRoots known roots other other_roots k root other_root → text_of found other_root ≡ text_of texts root
same_text known roots other other_roots texts half found grounded_solution solution k root other_root at other_at (inl constants) =
    text_of-resolved other.framing other.symbols found solution.fits other_root ∙ ap (text_of found) constants.2
    ∙ sym (text_of-resolved known.framing known.symbols texts half.solution.fits root ∙ ap (text_of texts) constants.1)
same_text known roots other other_roots texts half found grounded_solution solution k root other_root at other_at (inr both) =
    let m = met known roots other other_roots half.same both.two.r both.two.place both.two.reached.place_is in
    let r_is : m.r ≡ both.one.r = one_symbol known.symbols roots m.r both.one.r both.two.place m.reached.place_is (both.one.reached.place_is ∙ ap Some both.place) in
    let has = given_met known roots other other_roots texts half.solution both.two.r both.two.place both.two.reached.place_is m in
    text_of-resolved other.framing other.symbols found solution.fits other_root ∙ ap (text_of found) both.two.is
    ∙ given_text other.framing other.symbols (given known roots other other_roots texts) found grounded_solution.fits both.two.r both.two.symbol (text_of texts (Sym m.r)) both.two.reached.at both.two.itself has
    ∙ ap (λ r. text_of texts (Sym r)) r_is
    ∙ sym (text_of-resolved known.framing known.symbols texts half.solution.fits root ∙ ap (text_of texts) both.one.is)

pub takes_too : (known : Known) (roots : List Atom) (other : Known) (other_roots : List Atom) → IsSeen known roots → IsSeen other other_roots → known.framing ≡ other.framing
    → AreSameAll known roots other other_roots → ((key : List ℕ) → IsIn key (keys_of other other_roots) → IsIn key (keys_of known roots))
    → (taken : List (List ℕ)) → CanTake known roots taken → CanTake other other_roots taken
takes_too known roots other other_roots seen other_seen framing same keys taken can = (found, solution, texts_same ∙ can.2)
  where
    texts : List (List ℕ)
    texts = can.0

    half : IsHalf known roots other other_roots texts
    half = record { seen = seen; other_seen = other_seen; framing = framing; same = same; keys = keys; solution = can.1 }

    grounded_known : Known
    grounded_known = record other { symbols = map (grounded (given known roots other other_roots texts)) other.symbols }

    grounded_solvable : IsSolvable grounded_known
    grounded_solvable = solvable_given other other_seen.solvable (given known roots other other_roots texts) (given_may known roots other other_roots texts half)
        (λ d is_in equal. given_apart known roots other other_roots texts half d is_in (resolved other.symbols d.left) (resolved other.symbols d.right) refl refl equal)

    found : List (List ℕ)
    found = least_texts grounded_known

    grounded_solution : IsSolution grounded_known found
    grounded_solution = least_solves grounded_known grounded_solvable

    solution : IsSolution other found
    solution = solution_given other other_seen.solvable (given known roots other other_roots texts) found grounded_solution

    texts_same : map (text_of found) other_roots ≡ map (text_of texts) roots
    texts_same = same_lists (map (text_of found) other_roots) (map (text_of texts) roots)
        (length-map other_roots (text_of found) ∙ sym same.long ∙ sym (length-map roots (text_of texts)))
        (λ k x y at_x at_y.
        let theirs = mapped_from (text_of found) other_roots k x at_x in
        let mine = mapped_from (text_of texts) roots k y at_y in
        theirs.2 ∙ same_text known roots other other_roots texts half found grounded_solution solution k mine.0 theirs.0 mine.1 theirs.1 (same.each k mine.0 theirs.0 mine.1 theirs.1) ∙ sym mine.2)
