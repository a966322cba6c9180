-- What solved facts leave possible: different atoms can differ, a symbol can be any text that fits and that nothing forbids,
-- and two symbols of one length can be equal where nothing forbids it.
use Rattle.std.proofs.Common.{◌≡◌, ◌⊎◌, ℕ, Bool, true, false, cond, if◌then◌else◌, ◌==◌, List, [], ◌∷◌, ◌++◌, length, map, slice_get, Some, None, refl, sym, ◌∙◌, ap, subst, arith, inl, inr, eq-eqb, length-append}
use Rattle.std.specs.Option.{option_map_or}
use Rattle.std.proofs.lemmas.Bool.{true_from_ne_false, eqb-true, cases_order, or_cases, or_left}
use Rattle.std.proofs.lemmas.List.{length-map}
use Rattle.std.proofs.lemmas.Option.{slice_get_within}
use Rattle.spec_model.specs.Step.{may_be_picked}
use Rattle.constraint_set.specs.Known.{Known, IsAtomOf, IsIn, IsSolution, is_same, text_of}
use Rattle.constraint_set.specs.Least.{least_texts}
use Rattle.constraint_set.specs.Solved.{IsSolved, is_apart, is_either, resolved}
use Rattle.constraint_set.specs.declared.atom.Atom.{Atom}
use Rattle.constraint_set.specs.declared.atom.Atom.TheVariants.{Const, Sym}
use Rattle.constraint_set.specs.declared.symbol.Symbol.{Symbol}
use Rattle.constraint_set.specs.declared.symbol.Difference.{Difference}
use Rattle.constraint_set.proofs.Atoms.{IsIn-append, IsIn_first, IsIn_second, apart_sides, is_same-equal, is_same_itself, item_at, mapped_at, resolved_at, together_sides}
use Rattle.constraint_set.proofs.Equalities.{only_at, only_one, solvable}
use Rattle.constraint_set.proofs.FormForth.{solution_given, solvable_given}
use Rattle.constraint_set.proofs.Grounding.{given_text, grounded, grounded_atom}
use Rattle.constraint_set.proofs.Joining.{AreRoots, joined, joined_as, joined_fits, joined_more, joined_resolved, joined_texts}
use Rattle.constraint_set.proofs.LeastSolution.{IsRoot, IsRootAtom, IsSolvable, least_solves}
use Rattle.constraint_set.proofs.Lists.{same_place}

-- an atom that stands for itself
root_resolved : (known : Known) (x : Atom) → IsRootAtom known.symbols x → resolved known.symbols x ≡ x
root_resolved known (Const text) root = refl
root_resolved known (Sym r) root = resolved_at known.symbols r root.root root.at ∙ root.itself

root_atom : (known : Known) (x : Atom) → IsRootAtom known.symbols x → IsAtomOf known x
root_atom known (Const text) root = tt
root_atom known (Sym r) root = slice_get_within known.symbols r root.root root.at

-- a solution in which something holds
pub record SomeSolution (known : Known) (P : List (List ℕ) → Type 0) : Type 0 where
  pub texts : List (List ℕ)
  pub solution : IsSolution known texts
  pub holds : P texts

-- two different atoms that stand for themselves can differ
pub tell_apart : (known : Known) → IsSolved known → (x y : Atom) → IsRootAtom known.symbols x → IsRootAtom known.symbols y → (x ≡ y → ⊥)
    → SomeSolution known (λ texts. text_of texts x ≡ text_of texts y → ⊥)
tell_apart known solved x y x_root y_root differ = record {
  texts = least_texts more;
  solution = record { fits = found.fits; different = λ d is_in. found.different d (IsIn_first d known.differences (one ∷ []) is_in) };
  holds = found.different one (IsIn_second one known.differences (one ∷ []) (inl refl));
}
  where
    one : Difference
    one = record { left = x; right = y }

    more : Known
    more = record known { differences = known.differences ++ one ∷ [] }

    one_apart : is_apart known.symbols one ≡ true
    one_apart = true_from_ne_false (is_apart known.symbols one) (λ together. differ
        (sym (root_resolved known x x_root) ∙ together_sides known.symbols one together ∙ root_resolved known y y_root))

    can : IsSolvable known
    can = solvable known solved

    more_solvable : IsSolvable more
    more_solvable = record {
      resolved = can.resolved;
      apart = λ d is_in. elim (IsIn-append d known.differences (one ∷ []) is_in) [
        | inl old ↦ can.apart d old
        | inr new ↦ elim new [
          | inl same ↦ ap (is_apart known.symbols) same ∙ one_apart
          | inr none ↦ absurd none
        ]
      ];
      atoms = λ d is_in. elim (IsIn-append d known.differences (one ∷ []) is_in) [
        | inl old ↦ can.atoms d old
        | inr new ↦ elim new [
          | inl same ↦ subst (λ (e : Difference). IsAtomOf known e.left × IsAtomOf known e.right) (sym same) (root_atom known x x_root, root_atom known y y_root)
          | inr none ↦ absurd none
        ]
      ];
      many = λ s symbol at.
          let many = solved.many s symbol at in
          let counted = solved.counted in
          let within = solved.within in
          let long = length-append known.differences (one ∷ []) in
          omega (arith, many, counted, within, long);
    }

    found : IsSolution more (least_texts more)
    found = least_solves more more_solvable

-- a symbol that stands for itself can be a text that fits, where no difference is one of the two
pub can_be : (known : Known) → IsSolvable known → (r : ℕ) → (root : IsRoot known.symbols r) → (text : List ℕ) → may_be_picked known.framing root.root.len root.root.alphabet text ≡ true
    → ((d : Difference) → IsIn d known.differences → ((resolved known.symbols d.left ≡ Sym r) × (resolved known.symbols d.right ≡ Const text))
    ⊎ ((resolved known.symbols d.left ≡ Const text) × (resolved known.symbols d.right ≡ Sym r)) → ⊥)
    → SomeSolution known (λ texts. text_of texts (Sym r) ≡ text)
can_be known can r root text may none = record {
  texts = least_texts bound;
  solution = solution_given known can (only_at r text) (least_texts bound) found;
  holds = given_text known.framing known.symbols (only_at r text) (least_texts bound) found.fits r root.root text root.at root.itself given_here;
}
  where
    bound : Known
    bound = record known { symbols = map (grounded (only_at r text)) known.symbols }

    given_here : only_at r text r ≡ Some text
    given_here = ap (λ test. cond test (Some text) None) (eq-eqb r r refl)

    at_symbol : (s : ℕ) → (grounded_atom (only_at r text) (Sym s) ≡ Sym s) ⊎ ((s ≡ r) × (grounded_atom (only_at r text) (Sym s) ≡ Const text))
    at_symbol s = go (s == r) refl
      where
        go : (same : Bool) → (s == r) ≡ same
            → (option_map_or (λ t. Const t) (cond same (Some text) None) (Sym s) ≡ Sym s) ⊎ ((s ≡ r) × (option_map_or (λ t. Const t) (cond same (Some text) None) (Sym s) ≡ Const text))
        go true is = inr (eqb-true s r is, refl)
        go false is = inl refl

    apart : (d : Difference) → IsIn d known.differences → (x y : Atom) → resolved known.symbols d.left ≡ x → resolved known.symbols d.right ≡ y
        → grounded_atom (only_at r text) x ≡ grounded_atom (only_at r text) y → ⊥
    apart d is_in (Const t) (Const u) left right same = apart_sides known.symbols d (can.apart d is_in) (left ∙ same ∙ sym right)
    apart d is_in (Sym s) (Const u) left right same = elim (at_symbol s) [
      | inl stays ↦ let wrong : Sym s ≡ Const u = sym stays ∙ same in cc
      | inr given ↦ none d is_in (inl (left ∙ ap Sym given.0, right ∙ sym same ∙ given.1))
    ]
    apart d is_in (Const t) (Sym s) left right same = elim (at_symbol s) [
      | inl stays ↦ let wrong : Const t ≡ Sym s = same ∙ stays in cc
      | inr given ↦ none d is_in (inr (left ∙ same ∙ given.1, right ∙ ap Sym given.0))
    ]
    apart d is_in (Sym s) (Sym t) left right same = elim (at_symbol s) [
      | inl s_stays ↦ elim (at_symbol t) [
        | inl t_stays ↦ apart_sides known.symbols d (can.apart d is_in) (left ∙ sym s_stays ∙ same ∙ t_stays ∙ sym right)
        | inr t_given ↦ let wrong : Sym s ≡ Const text = sym s_stays ∙ same ∙ t_given.1 in cc
      ]
      | inr s_given ↦ elim (at_symbol t) [
        | inl t_stays ↦ let wrong : Const text ≡ Sym t = sym s_given.1 ∙ same ∙ t_stays in cc
        | inr t_given ↦ apart_sides known.symbols d (can.apart d is_in) (left ∙ ap Sym (s_given.0 ∙ sym t_given.0) ∙ sym right)
      ]
    ]

    fits : (s : ℕ) (other_root : Symbol) (other : List ℕ) → slice_get known.symbols s ≡ Some other_root → only_at r text s ≡ Some other → may_be_picked known.framing other_root.len other_root.alphabet other ≡ true
    fits s other_root other at is =
        let one = only_one r s text other is in
        let same : other_root ≡ root.root = same_place known.symbols r s root.root other_root (sym one.0) root.at at in
        ap (λ (x : Symbol). may_be_picked known.framing x.len x.alphabet other) same ∙ ap (may_be_picked known.framing root.root.len root.root.alphabet) (sym one.1) ∙ may

    found : IsSolution bound (least_texts bound)
    found = least_solves bound (solvable_given known can (only_at r text) fits (λ d is_in same. apart d is_in (resolved known.symbols d.left) (resolved known.symbols d.right) refl refl same))

-- what an atom stands for when two symbols are one
abbrev joined_atom : ℕ → ℕ → Atom → Atom
joined_atom lesser greater x = if is_either lesser greater x then Sym lesser else x

resolved_joined : (known : Known) (lesser greater : ℕ) (a b : Symbol) (c : Atom) → IsAtomOf known c
    → resolved (map (joined a b lesser greater) known.symbols) c ≡ joined_atom lesser greater (resolved known.symbols c)
resolved_joined known lesser greater a b (Const text) atom = refl
resolved_joined known lesser greater a b (Sym s) atom = go (item_at known.symbols s atom)
  where
    go : (found : (symbol : Symbol) × (slice_get known.symbols s ≡ Some symbol))
        → resolved (map (joined a b lesser greater) known.symbols) (Sym s) ≡ joined_atom lesser greater (resolved known.symbols (Sym s))
    go found =
        resolved_at (map (joined a b lesser greater) known.symbols) s (joined a b lesser greater found.0) (mapped_at (joined a b lesser greater) known.symbols s found.0 found.1)
        ∙ stands (is_either lesser greater found.0.stands_for) refl
        ∙ ap (joined_atom lesser greater) (sym (resolved_at known.symbols s found.0 found.1))
      where
        stands : (either : Bool) → is_either lesser greater found.0.stands_for ≡ either → (joined a b lesser greater found.0).stands_for ≡ joined_atom lesser greater found.0.stands_for
        stands true is = ap (λ (x : Symbol). x.stands_for) (joined_as a b lesser greater found.0 true is) ∙ sym (ap (λ test. cond test (Sym lesser) found.0.stands_for) is)
        stands false is = ap (λ (x : Symbol). x.stands_for) (joined_as a b lesser greater found.0 false is) ∙ sym (ap (λ test. cond test (Sym lesser) found.0.stands_for) is)

-- a difference between the two symbols
abbrev pub IsBetween : Known → Difference → ℕ → ℕ → Type 0
IsBetween known d r s = ((resolved known.symbols d.left ≡ Sym r) × (resolved known.symbols d.right ≡ Sym s)) ⊎ ((resolved known.symbols d.left ≡ Sym s) × (resolved known.symbols d.right ≡ Sym r))

can_join : (known : Known) → IsSolvable known → (lesser greater : ℕ) (a b : Symbol) → AreRoots known.symbols lesser greater a b
    → ((d : Difference) → IsIn d known.differences → IsBetween known d lesser greater → ⊥) → SomeSolution known (λ texts. text_of texts (Sym lesser) ≡ text_of texts (Sym greater))
can_join known can lesser greater a b roots none = record {
  texts = least_texts one;
  solution = record { fits = joined_fits known.framing known.symbols lesser greater a b (least_texts one) roots can.resolved found.fits; different = found.different };
  holds = joined_texts known.framing known.symbols lesser greater a b (least_texts one) roots found.fits;
}
  where
    one : Known
    one = record known { symbols = map (joined a b lesser greater) known.symbols }

    either_is : (x : Atom) → (is_either lesser greater x ≡ false) ⊎ ((is_either lesser greater x ≡ true) × ((x ≡ Sym lesser) ⊎ (x ≡ Sym greater)))
    either_is x = go (is_either lesser greater x) refl
      where
        go : (either : Bool) → is_either lesser greater x ≡ either → (is_either lesser greater x ≡ false) ⊎ ((is_either lesser greater x ≡ true) × ((x ≡ Sym lesser) ⊎ (x ≡ Sym greater)))
        go false is = inl is
        go true is = inr (
          is,
          elim (or_cases (is_same x (Sym lesser)) (is_same x (Sym greater)) is) [
            | inl first ↦ inl (is_same-equal x (Sym lesser) first)
            | inr second ↦ inr (is_same-equal x (Sym greater) second)
          ],
        )

    kept : (x : Atom) → is_either lesser greater x ≡ false → joined_atom lesser greater x ≡ x
    kept x is = ap (λ test. cond test (Sym lesser) x) is

    moved : (x : Atom) → is_either lesser greater x ≡ true → joined_atom lesser greater x ≡ Sym lesser
    moved x is = ap (λ test. cond test (Sym lesser) x) is

    lesser_moves : is_either lesser greater (Sym lesser) ≡ true
    lesser_moves = or_left _ _ (is_same_itself (Sym lesser))

    not_lesser : (x : Atom) → is_either lesser greater x ≡ false → x ≡ Sym lesser → ⊥
    not_lesser x is same = let wrong : false ≡ true = sym is ∙ ap (is_either lesser greater) same ∙ lesser_moves in cc

    apart : (d : Difference) → IsIn d known.differences → joined_atom lesser greater (resolved known.symbols d.left) ≡ joined_atom lesser greater (resolved known.symbols d.right) → ⊥
    apart d is_in same = elim (either_is (resolved known.symbols d.left)) [
      | inl left_kept ↦ elim (either_is (resolved known.symbols d.right)) [
        | inl right_kept ↦ apart_sides known.symbols d (can.apart d is_in) (sym (kept (resolved known.symbols d.left) left_kept) ∙ same ∙ kept (resolved known.symbols d.right) right_kept)
        | inr right ↦ not_lesser (resolved known.symbols d.left) left_kept (sym (kept (resolved known.symbols d.left) left_kept) ∙ same ∙ moved (resolved known.symbols d.right) right.0)
      ]
      | inr left ↦ elim (either_is (resolved known.symbols d.right)) [
        | inl right_kept ↦ not_lesser (resolved known.symbols d.right) right_kept (sym (kept (resolved known.symbols d.right) right_kept) ∙ sym same ∙ moved (resolved known.symbols d.left) left.0)
        | inr right ↦ elim left.1 [
          | inl left_lesser ↦ elim right.1 [
            | inl right_lesser ↦ apart_sides known.symbols d (can.apart d is_in) (left_lesser ∙ sym right_lesser)
            | inr right_greater ↦ none d is_in (inl (left_lesser, right_greater))
          ]
          | inr left_greater ↦ elim right.1 [
            | inl right_lesser ↦ none d is_in (inr (left_greater, right_lesser))
            | inr right_greater ↦ apart_sides known.symbols d (can.apart d is_in) (left_greater ∙ sym right_greater)
          ]
        ]
      ]
    ]

    still : (c : Atom) → IsAtomOf known c → IsAtomOf one c
    still (Const text) atom = tt
    still (Sym s) atom = let long = length-map known.symbols (joined a b lesser greater) in omega (arith, long, atom)

    found : IsSolution one (least_texts one)
    found = least_solves one (record {
      resolved = joined_resolved known.framing known.symbols lesser greater a b roots can.resolved;
      apart = λ d is_in. let atoms = can.atoms d is_in in
          true_from_ne_false (is_apart (map (joined a b lesser greater) known.symbols) d) (λ together. apart d is_in
          (sym (resolved_joined known lesser greater a b d.left atoms.0) ∙ together_sides (map (joined a b lesser greater) known.symbols) d together ∙ resolved_joined known lesser greater a b d.right atoms.1));
      atoms = λ d is_in. let atoms = can.atoms d is_in in (still d.left atoms.0, still d.right atoms.1);
      many = joined_more known.framing known.symbols lesser greater a b (length known.differences) roots can.resolved can.many;
    })

-- two symbols of one length that stand for themselves can be equal, where no difference is between them
pub can_equal : (known : Known) → IsSolvable known → (r s : ℕ) (a : IsRoot known.symbols r) → (s_root : IsRoot known.symbols s) → a.root.len ≡ s_root.root.len → (r ≡ s → ⊥)
    → ((d : Difference) → IsIn d known.differences → IsBetween known d r s → ⊥) → SomeSolution known (λ texts. text_of texts (Sym r) ≡ text_of texts (Sym s))
can_equal known can r s a s_root len differ none = elim (cases_order r s) [
  | inl same ↦ absurd (differ same)
  | inr (inl less) ↦ can_join known can r s a.root s_root.root (record { order = less; first_at = a.at; second_at = s_root.at; first_itself = a.itself; second_itself = s_root.itself; len = len }) none
  | inr (inr more) ↦ turned (can_join known can s r s_root.root a.root (record { order = more; first_at = s_root.at; second_at = a.at; first_itself = s_root.itself; second_itself = a.itself; len = sym len })
      (λ d is_in between. none d is_in (elim between [ inl first ↦ inr first | inr second ↦ inl second ])))
]
  where
    turned : SomeSolution known (λ texts. text_of texts (Sym s) ≡ text_of texts (Sym r)) → SomeSolution known (λ texts. text_of texts (Sym r) ≡ text_of texts (Sym s))
    turned found = record { texts = found.texts; solution = found.solution; holds = sym found.holds }
