-- No solution is before the one in which the symbols get their texts one after the other.
use Rattle.std.proofs.Common.{◌≡◌, ◌⊎◌, ℕ, zero, suc, ◌≤◌, Bool, true, false, cond, List, [], ◌∷◌, ◌++◌, length, take, slice_get, Some, None, unwrap_or, refl, sym, ◌∙◌, ap, subst, arith, inl, inr, eq-eqb}
use Rattle.std.proofs.Math.Seq.{take-length}
use Rattle.std.proofs.lemmas.Bool.{cases_lt, ne_eqb}
use Rattle.std.proofs.lemmas.Option.{slice_get_within, option_and_then_some}
use Rattle.constraint_set.specs.Free.{first_free}
use Rattle.constraint_set.specs.Known.{Known, IsIn, IsSolution, is_same, text_of}
use Rattle.constraint_set.specs.Least.{least_texts, next_text, next_text_by, other_side, taken_by, taken_from, text_so_far}
use Rattle.spec_model.specs.Order.{AreTextsUpTo, IsBefore, IsTextBefore}
use Rattle.constraint_set.specs.Solved.{MayStandFor, resolved}
use Rattle.constraint_set.specs.declared.atom.Atom.{Atom}
use Rattle.constraint_set.specs.declared.atom.Atom.TheVariants.{Const, Sym}
use Rattle.constraint_set.specs.declared.symbol.Symbol.{Symbol}
use Rattle.constraint_set.specs.declared.symbol.Difference.{Difference}
use Rattle.constraint_set.proofs.Atoms.{is_same-equal, item_at, text_of-resolved}
use Rattle.constraint_set.proofs.FirstTexts.{first_texts_more, length-first_texts}
use Rattle.constraint_set.proofs.FreeTexts.{free_least}
use Rattle.constraint_set.proofs.LeastSolution.{IsSolvable, fewer_taken, so_far, taken_at}
use Rattle.constraint_set.proofs.Lists.{given_by_one, slice_get-take, take_one_more}
use Rattle.constraint_set.proofs.NumberedTexts.{before_longer}

-- one side of a difference is the symbol, the other side is the other one
other_side_is : (s : ℕ) (left right other : Atom) → other_side s left right ≡ Some other → ((left ≡ Sym s) × (right ≡ other)) ⊎ ((right ≡ Sym s) × (left ≡ other))
other_side_is s left right other is = go (is_same left (Sym s)) (is_same right (Sym s)) refl refl is
  where
    go : (l r : Bool) → is_same left (Sym s) ≡ l → is_same right (Sym s) ≡ r → cond l (Some right) (cond r (Some left) None) ≡ Some other
        → ((left ≡ Sym s) × (right ≡ other)) ⊎ ((right ≡ Sym s) × (left ≡ other))
    go true r left_is right_is is = inl (is_same-equal left (Sym s) left_is, cc)
    go false true left_is right_is is = inr (is_same-equal right (Sym s) right_is, cc)
    go false false left_is right_is is = absurd (cc)

-- a text so far is the text in each solution that begins so
so_far_text : (texts : List (List ℕ)) (n : ℕ) (a : Atom) (text : List ℕ) → text_so_far (take n texts) a ≡ Some text → text_of texts a ≡ text
so_far_text texts n (Const other) text has = cc
so_far_text texts n (Sym r) text has = elim (cases_lt r n) [
  | inl earlier ↦ ap (λ found. unwrap_or found []) (sym (slice_get-take texts n r earlier) ∙ has)
  | inr later ↦ absurd (past texts n r later has)
]
  where
    past : (texts : List (List ℕ)) (n r : ℕ) → n ≤ r → slice_get (take n texts) r ≡ Some text → ⊥
    past texts zero r later has = cc
    past [] (suc n) r later has = cc
    past (first ∷ texts) (suc n) zero later has = omega arith
    past (first ∷ texts) (suc n) (suc r) later has = past texts n r (omega arith) has

-- what is taken from a symbol is not its text in any solution that begins so
not_in_solution : (known : Known) (texts : List (List ℕ)) → IsSolution known texts → (n : ℕ) → so_far known n ≡ take n texts → IsIn (text_of texts (Sym n)) (taken_at known n) → ⊥
not_in_solution known texts solution n same is_in =
    let found = given_by_one (taken_by known.symbols (so_far known n) n) known.differences (text_of texts (Sym n)) is_in in
    let d : Difference = found.0 in
    let left = text_of-resolved known.framing known.symbols texts solution.fits d.left in
    let right = text_of-resolved known.framing known.symbols texts solution.fits d.right in
    option_and_then_some (text_so_far (so_far known n)) (other_side n (resolved known.symbols d.left) (resolved known.symbols d.right)) (text_of texts (Sym n)) found.2
    (λ other side has.
    let text : text_of texts other ≡ text_of texts (Sym n) = so_far_text texts n other (text_of texts (Sym n)) (subst (λ front. text_so_far front other ≡ Some (text_of texts (Sym n))) same has) in
    solution.different d found.1 (elim (other_side_is n (resolved known.symbols d.left) (resolved known.symbols d.right) other side) [
      | inl parts ↦ left ∙ ap (text_of texts) parts.0 ∙ sym text ∙ ap (text_of texts) (sym parts.1) ∙ sym right
      | inr parts ↦ left ∙ ap (text_of texts) parts.1 ∙ text ∙ ap (text_of texts) (sym parts.0) ∙ sym right
    ]))

-- the next text is that of the solution, or before it
next_up_to : (known : Known) → IsSolvable known → (texts : List (List ℕ)) → IsSolution known texts → (n : ℕ) (symbol : Symbol) → slice_get known.symbols n ≡ Some symbol
    → so_far known n ≡ take n texts → (a : Atom) → symbol.stands_for ≡ a → MayStandFor known.framing known.symbols n symbol a
    → (next_text_by known.framing known.symbols known.differences (so_far known n) symbol a ≡ text_of texts (Sym n))
    ⊎ IsTextBefore (next_text_by known.framing known.symbols known.differences (so_far known n) symbol a) (text_of texts (Sym n))
next_up_to known solvable texts solution n symbol at same (Const text) is stands = inl (sym (solution.fits.equal n symbol at ∙ ap (text_of texts) is))
next_up_to known solvable texts solution n symbol at same (Sym r) is stands =
    let within = slice_get_within known.symbols n symbol at in
    let not_after = stands.0 in
    let long = length-first_texts known.framing known.symbols known.differences n (omega arith) in
    elim (cases_lt r n) [
      | inl earlier ↦ inl (
          ap (λ test. cond test (first_free known.framing symbol.alphabet symbol.len (taken_from known.symbols known.differences (so_far known n) r)) (text_of (so_far known n) (Sym r)))
          (ne_eqb r (length (so_far known n)) (λ equal. omega (arith, equal, long)))
          ∙ ap (λ front. text_of front (Sym r)) same
          ∙ ap (λ found. unwrap_or found []) (slice_get-take texts n r earlier)
          ∙ sym (solution.fits.equal n symbol at ∙ ap (text_of texts) is))
      | inr behind ↦
          let equal : r ≡ n = omega arith in
          let free : next_text_by known.framing known.symbols known.differences (so_far known n) symbol (Sym r) ≡ first_free known.framing symbol.alphabet symbol.len (taken_at known n) =
          ap (λ test. cond test (first_free known.framing symbol.alphabet symbol.len (taken_from known.symbols known.differences (so_far known n) r)) (text_of (so_far known n) (Sym r)))
          (eq-eqb r (length (so_far known n)) (equal ∙ sym long))
          ∙ ap (λ k. first_free known.framing symbol.alphabet symbol.len (taken_from known.symbols known.differences (so_far known n) k)) equal in
          elim (free_least known.framing symbol.alphabet symbol.len (taken_at known n) (text_of texts (Sym n)) (fewer_taken known solvable n n symbol at)
          (solution.fits.picked n symbol at) (not_in_solution known texts solution n same)) [
            | inl first ↦ inl (free ∙ first)
            | inr before ↦ inr (subst (λ text. IsTextBefore text (text_of texts (Sym n))) (sym free) before)
          ]
    ]

-- the first texts are those of the solution, or before them
first_up_to : (known : Known) → IsSolvable known → (texts : List (List ℕ)) → IsSolution known texts → (n : ℕ) → n ≤ length known.symbols → AreTextsUpTo (so_far known n) (take n texts)
first_up_to known solvable texts solution zero within = inl refl
first_up_to known solvable texts solution (suc n) within =
    go (item_at known.symbols n (omega arith)) (item_at texts n (omega (arith, long))) (first_up_to known solvable texts solution n (omega arith))
  where
    long : length texts ≡ length known.symbols
    long = solution.fits.one_each

    go : (found : (symbol : Symbol) × (slice_get known.symbols n ≡ Some symbol)) → (text : (text : List ℕ) × (slice_get texts n ≡ Some text)) → AreTextsUpTo (so_far known n) (take n texts)
        → AreTextsUpTo (so_far known (suc n)) (take (suc n) texts)
    go found text (inr before) =
        inr (subst (λ front. IsBefore IsTextBefore front (take (suc n) texts)) (sym (first_texts_more known.framing known.symbols known.differences n found.0 found.1))
        (subst (λ front. IsBefore IsTextBefore (so_far known n ++ next_text known.framing known.symbols known.differences (so_far known n) found.0 ∷ []) front) (sym (take_one_more texts n text.0 text.1))
        (before_longer IsTextBefore (so_far known n) (take n texts) _ _ before)))
    go found text (inl same) =
        let mine = first_texts_more known.framing known.symbols known.differences n found.0 found.1 in
        let theirs = take_one_more texts n text.0 text.1 in
        let is : text_of texts (Sym n) ≡ text.0 = ap (λ o. unwrap_or o []) text.1 in
        elim (next_up_to known solvable texts solution n found.0 found.1 same found.0.stands_for refl (solvable.resolved n found.0 found.1)) [
          | inl equal ↦ inl (mine ∙ ap (λ t. so_far known n ++ t ∷ []) (equal ∙ is) ∙ ap (λ front. front ++ text.0 ∷ []) same ∙ sym theirs)
          | inr before ↦ inr (record {
            front = so_far known n;
            x = next_text known.framing known.symbols known.differences (so_far known n) found.0;
            y = text_of texts (Sym n);
            xs_rest = [];
            ys_rest = [];
            first = mine;
            second = theirs ∙ ap (λ t. take n texts ++ t ∷ []) (sym is) ∙ ap (λ front. front ++ text_of texts (Sym n) ∷ []) (sym same);
            lesser = before;
          })
        ]

pub least_of_all : (known : Known) → IsSolvable known → (texts : List (List ℕ)) → IsSolution known texts → AreTextsUpTo (least_texts known) texts
least_of_all known solvable texts solution =
    let whole : take (length known.symbols) texts ≡ texts = ap (λ n. take n texts) (sym solution.fits.one_each) ∙ take-length texts in
    subst (λ all. AreTextsUpTo (least_texts known) all) whole (first_up_to known solvable texts solution (length known.symbols) (omega arith))
