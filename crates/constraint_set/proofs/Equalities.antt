-- What is known when two atoms are equal.
use Rattle.std.proofs.Common.{◌≡◌, ℕ, ◌+◌, ◌<◌, ◌≤◌, Bool, true, false, ◌==◌, cond, nat_lt, List, [], ◌∷◌, map, length, slice_get, Option, Some, None, bytes_eq, refl, sym, ◌∙◌, ap, subst, arith, inl, inr, eq-eqb}
use Rattle.std.specs.List.{list_all}
use Rattle.std.specs.Option.{option_map_or, option_and_then}
use Rattle.std.proofs.lemmas.Bool.{and_parts, cases_eq, eqb-true, eqb-false, ltb-true, ltb-false, both_ways}
use Rattle.std.proofs.lemmas.List.{length-map}
use Rattle.std.proofs.lemmas.Slice.Eq.{bytes_eq-Decides}
use Rattle.spec_model.specs.declared.event.Framing.{Framing}
use Rattle.spec_model.specs.Step.{may_be_picked}
use Rattle.spec_model.specs.Value.{only_if}
use Rattle.constraint_set.specs.Known.{Known, FitsSymbols, IsAtomOf, IsNarrowedTo, IsSolution, text_of}
use Rattle.constraint_set.specs.Least.{least_texts}
use Rattle.constraint_set.specs.Solved.{AreResolved, HaveMore, IsSolved, after_binding, after_equality, after_joining, bound_atom, bound_to, is_apart, resolved, symbols_equated}
use Rattle.constraint_set.specs.declared.atom.Atom.{Atom}
use Rattle.constraint_set.specs.declared.atom.Atom.TheVariants.{Const, Sym}
use Rattle.constraint_set.specs.declared.symbol.Symbol.{Symbol}
use Rattle.constraint_set.specs.declared.symbol.Difference.{Difference}
use Rattle.constraint_set.proofs.Atoms.{each_passes, some_fails, text_of-resolved, together_sides}
use Rattle.constraint_set.proofs.Grounding.{IsGrounding, fits_grounded, given_text, grounded, grounded_atom, grounded_fits, grounded_more, grounded_resolved}
use Rattle.constraint_set.proofs.Joining.{AreRoots, fits_joined, joined, joined_fits, joined_more, joined_resolved, joined_texts}
use Rattle.constraint_set.proofs.Lists.{same_place}
use Rattle.constraint_set.proofs.LeastSolution.{IsRoot, IsRootAtom, IsSolvable, least_solves, resolved_root}

-- What symbols become when two atoms are equal: the texts that fit then are those that fit before and give both one text.
pub record IsEquality (framing : Framing) (symbols new : List Symbol) (x y : Atom) : Type 0 where
  pub resolved : AreResolved framing new
  pub count : length new ≡ length symbols
  pub many : (count : ℕ) → HaveMore framing symbols count → HaveMore framing new count
  pub kept : (texts : List (List ℕ)) → FitsSymbols framing new texts → FitsSymbols framing symbols texts
  pub same : (texts : List (List ℕ)) → FitsSymbols framing new texts → text_of texts x ≡ text_of texts y
  pub all : (texts : List (List ℕ)) → FitsSymbols framing symbols texts → text_of texts x ≡ text_of texts y → FitsSymbols framing new texts

-- the other way round
turned : (framing : Framing) (symbols new : List Symbol) (x y : Atom) → IsEquality framing symbols new x y → IsEquality framing symbols new y x
turned framing symbols new x y is = record {
  resolved = is.resolved;
  count = is.count;
  many = is.many;
  kept = is.kept;
  same = λ texts fits. sym (is.same texts fits);
  all = λ texts fits same. is.all texts fits (sym same);
}

-- Either answer of an equality: symbols, or none where no texts that fit give both one text.
abbrev pub Answers : Framing → List Symbol → Atom → Atom → Option (List Symbol) → Type 0
Answers framing symbols x y None = (texts : List (List ℕ)) → FitsSymbols framing symbols texts → text_of texts x ≡ text_of texts y → ⊥
Answers framing symbols x y (Some new) = IsEquality framing symbols new x y

turned_answer : (framing : Framing) (symbols : List Symbol) (x y : Atom) (answer : Option (List Symbol)) → Answers framing symbols x y answer → Answers framing symbols y x answer
turned_answer framing symbols x y None answers = λ texts fits same. answers texts fits (sym same)
turned_answer framing symbols x y (Some new) answers = turned framing symbols new x y answers

unchanged : (framing : Framing) (symbols : List Symbol) (x y : Atom) → AreResolved framing symbols → x ≡ y → IsEquality framing symbols symbols x y
unchanged framing symbols x y are same = record {
  resolved = are;
  count = refl;
  many = λ count more. more;
  kept = λ texts fits. fits;
  same = λ texts fits. ap (text_of texts) same;
  all = λ texts fits equal. fits;
}

-- a text given to one symbol alone
abbrev pub only_at : ℕ → List ℕ → ℕ → Option (List ℕ)
only_at s text r = cond (r == s) (Some text) None

bound_is_grounded : (s : ℕ) (text : List ℕ) (a : Atom) → bound_atom s text a ≡ grounded_atom (only_at s text) a
bound_is_grounded s text (Const other) = refl
bound_is_grounded s text (Sym r) = go (r == s)
  where
    go : (same : Bool) → cond same (Const text) (Sym r) ≡ option_map_or (λ t. Const t) (cond same (Some text) None) (Sym r)
    go true = refl
    go false = refl

same_map : {A B : Type 0} → (f g : A → B) → ((x : A) → f x ≡ g x) → (xs : List A) → map f xs ≡ map g xs
same_map f g same [] = refl
same_map f g same (x ∷ xs) = let rest = same_map f g same xs in let first = same x in rw (first, rest) refl

bound_map : (s : ℕ) (text : List ℕ) (symbols : List Symbol) → map (bound_to s text) symbols ≡ map (grounded (only_at s text)) symbols
bound_map s text symbols = same_map (bound_to s text) (grounded (only_at s text)) (λ symbol. ap (λ a. record symbol { stands_for = a }) (bound_is_grounded s text symbol.stands_for)) symbols

pub only_one : (s r : ℕ) (text other : List ℕ) → only_at s text r ≡ Some other → (r ≡ s) × (text ≡ other)
only_one s r text other is = go (r == s) refl is
  where
    go : (same : Bool) → (r == s) ≡ same → cond same (Some text) None ≡ Some other → (r ≡ s) × (text ≡ other)
    go true same is = (eqb-true r s same, cc)
    go false same is = absurd (cc)

binds : (framing : Framing) (symbols : List Symbol) (s : ℕ) (root : IsRoot symbols s) (text : List ℕ) → AreResolved framing symbols
    → may_be_picked framing root.root.len root.root.alphabet text ≡ true → IsEquality framing symbols (map (grounded (only_at s text)) symbols) (Sym s) (Const text)
binds framing symbols s root text are may = record {
  resolved = grounded_resolved framing symbols (only_at s text) given are;
  count = length-map symbols (grounded (only_at s text));
  many = λ count more. grounded_more framing symbols (only_at s text) count more;
  kept = λ texts fits. grounded_fits framing symbols (only_at s text) texts are fits;
  same = λ texts fits. given_text framing symbols (only_at s text) texts fits s root.root text root.at root.itself given_here;
  all = λ texts fits same. fits_grounded framing symbols (only_at s text) texts fits (λ r other is.
      let one = only_one s r text other is in ap (λ k. text_of texts (Sym k)) one.0 ∙ same ∙ one.1);
}
  where
    given_here : only_at s text s ≡ Some text
    given_here = ap (λ test. cond test (Some text) None) (eq-eqb s s refl)

    given : IsGrounding framing symbols (only_at s text)
    given r other_root other at is =
        let one = only_one s r text other is in
        let same : other_root ≡ root.root = same_place symbols s r root.root other_root (sym one.0) root.at at in
        ap (λ (x : Symbol). may_be_picked framing x.len x.alphabet other) same ∙ ap (may_be_picked framing root.root.len root.root.alphabet) (sym one.1) ∙ may

binding_answers : (framing : Framing) (symbols : List Symbol) (s : ℕ) → IsRoot symbols s → (text : List ℕ) → AreResolved framing symbols
    → Answers framing symbols (Sym s) (Const text) (after_binding framing symbols s text)
binding_answers framing symbols s root text are =
    subst (Answers framing symbols (Sym s) (Const text)) (sym (ap (option_and_then (λ (symbol : Symbol). only_if (may_be_picked framing symbol.len symbol.alphabet text) (Some (map (bound_to s text) symbols)))) root.at))
    (go (may_be_picked framing root.root.len root.root.alphabet text) refl)
  where
    go : (may : Bool) → may_be_picked framing root.root.len root.root.alphabet text ≡ may → Answers framing symbols (Sym s) (Const text) (only_if may (Some (map (bound_to s text) symbols)))
    go true is = subst (λ new. IsEquality framing symbols new (Sym s) (Const text)) (sym (bound_map s text symbols)) (binds framing symbols s root text are is)
    go false is = λ texts fits same. both_ways (may_be_picked framing root.root.len root.root.alphabet text) is
        (ap (may_be_picked framing root.root.len root.root.alphabet) (sym same) ∙ fits.picked s root.root root.at)

joins : (framing : Framing) (symbols : List Symbol) (lesser greater : ℕ) (a b : Symbol) → AreRoots symbols lesser greater a b → AreResolved framing symbols
    → IsEquality framing symbols (map (joined a b lesser greater) symbols) (Sym lesser) (Sym greater)
joins framing symbols lesser greater a b roots are = record {
  resolved = joined_resolved framing symbols lesser greater a b roots are;
  count = length-map symbols (joined a b lesser greater);
  many = λ count more. joined_more framing symbols lesser greater a b count roots are more;
  kept = λ texts fits. joined_fits framing symbols lesser greater a b texts roots are fits;
  same = λ texts fits. joined_texts framing symbols lesser greater a b texts roots fits;
  all = λ texts fits same. fits_joined framing symbols lesser greater a b texts roots are fits same;
}

-- texts of two lengths are not equal
picked_length : (framing : Framing) (symbols : List Symbol) (texts : List (List ℕ)) → FitsSymbols framing symbols texts → (s : ℕ) (symbol : Symbol) → slice_get symbols s ≡ Some symbol
    → length (text_of texts (Sym s)) ≡ symbol.len
picked_length framing symbols texts fits s symbol at = eqb-true (length (text_of texts (Sym s))) symbol.len ((and_parts _ _ (fits.picked s symbol at)).0)

joining_answers : (framing : Framing) (symbols : List Symbol) (lesser greater : ℕ) → lesser < greater → IsRoot symbols lesser → IsRoot symbols greater → AreResolved framing symbols
    → Answers framing symbols (Sym lesser) (Sym greater) (after_joining symbols lesser greater)
joining_answers framing symbols lesser greater order first second are =
    subst (Answers framing symbols (Sym lesser) (Sym greater)) (sym computed) (go (a.len == b.len) refl)
  where
    a : Symbol
    a = first.root

    b : Symbol
    b = second.root

    computed : after_joining symbols lesser greater ≡ only_if (a.len == b.len) (Some (map (joined a b lesser greater) symbols))
    computed =
        ap (λ found. option_and_then (λ (x : Symbol). option_and_then (λ (y : Symbol). only_if (x.len == y.len) (Some (map (joined x y lesser greater) symbols))) (slice_get symbols greater)) found) first.at
        ∙ ap (λ found. option_and_then (λ (y : Symbol). only_if (a.len == y.len) (Some (map (joined a y lesser greater) symbols))) found) second.at

    go : (same : Bool) → (a.len == b.len) ≡ same → Answers framing symbols (Sym lesser) (Sym greater) (only_if same (Some (map (joined a b lesser greater) symbols)))
    go true is = joins framing symbols lesser greater a b (record {
      order = order;
      first_at = first.at;
      second_at = second.at;
      first_itself = first.itself;
      second_itself = second.itself;
      len = eqb-true a.len b.len is;
    }) are
    go false is = λ texts fits same. eqb-false a.len b.len is
        (sym (picked_length framing symbols texts fits lesser a first.at) ∙ ap length same ∙ picked_length framing symbols texts fits greater b second.at)

-- what two resolved atoms that are equal make of the symbols
pub equality_answers : (framing : Framing) (symbols : List Symbol) → AreResolved framing symbols → (x y : Atom) → IsRootAtom symbols x → IsRootAtom symbols y
    → Answers framing symbols x y (after_equality framing symbols x y)
equality_answers framing symbols are (Const text) (Const other) x_root y_root = go (bytes_eq text other) refl
  where
    go : (same : Bool) → bytes_eq text other ≡ same → Answers framing symbols (Const text) (Const other) (only_if same (Some symbols))
    go true is = unchanged framing symbols (Const text) (Const other) are (ap Const ((bytes_eq-Decides text other).0 is))
    go false is = λ texts fits same. both_ways (bytes_eq text other) is ((bytes_eq-Decides text other).1 same)
equality_answers framing symbols are (Sym s) (Const text) x_root y_root = binding_answers framing symbols s x_root text are
equality_answers framing symbols are (Const text) (Sym s) x_root y_root =
    turned_answer framing symbols (Sym s) (Const text) (after_binding framing symbols s text) (binding_answers framing symbols s y_root text are)
equality_answers framing symbols are (Sym s) (Sym other) x_root y_root = go (s == other) (nat_lt s other) refl refl
  where
    go : (same less : Bool) → (s == other) ≡ same → nat_lt s other ≡ less
        → Answers framing symbols (Sym s) (Sym other) (cond same (Some symbols) (cond less (after_joining symbols s other) (after_joining symbols other s)))
    go true less same_is less_is = unchanged framing symbols (Sym s) (Sym other) are (ap Sym (eqb-true s other same_is))
    go false true same_is less_is = joining_answers framing symbols s other (ltb-true s other less_is) x_root y_root are
    go false false same_is less_is =
        let distinct : (s ≡ other) → ⊥ = eqb-false s other same_is in
        let not_less : other ≤ s = ltb-false s other less_is in
        let order : other < s = elim (cases_eq s other) [ inl same ↦ absurd (distinct same) | inr differ ↦ omega arith ] in
        turned_answer framing symbols (Sym other) (Sym s) (after_joining symbols other s) (joining_answers framing symbols other s order y_root x_root are)

-- solved facts can be solved
pub solvable : (known : Known) → IsSolved known → IsSolvable known
solvable known solved =
    let counted = solved.counted in
    let within = solved.within in
    record {
      resolved = solved.resolved;
      apart = each_passes (is_apart known.symbols) known.differences solved.apart;
      atoms = solved.atoms;
      many = λ s symbol at. let more = solved.many s symbol at in omega (arith, counted, within, more);
    }

-- so they have a solution
pub some_solution : (known : Known) → IsSolved known → (texts : List (List ℕ)) × IsSolution known texts
some_solution known solved = (least_texts known, least_solves known (solvable known solved))

atom_still : (known : Known) (symbols : List Symbol) → length symbols ≡ length known.symbols → (a : Atom) → IsAtomOf known a → IsAtomOf (record known { symbols = symbols }) a
atom_still known symbols same (Const text) atom = tt
atom_still known symbols same (Sym s) atom = omega (arith, same, atom)

-- What an equality makes of facts: the solutions are those that meet it, or none meets it.
abbrev pub EquatesTo : Known → Atom → Atom → Option (List Symbol) → Type 0
EquatesTo known a b None = (texts : List (List ℕ)) → IsSolution known texts → text_of texts a ≡ text_of texts b → ⊥
EquatesTo known a b (Some symbols) = IsSolved (record known { symbols = symbols }) × IsNarrowedTo known (record known { symbols = symbols }) (λ texts. text_of texts a ≡ text_of texts b)

equates : (known : Known) → IsSolved known → (a b : Atom) → IsAtomOf known a → IsAtomOf known b → EquatesTo known a b (symbols_equated known.framing known.symbols known.differences a b)
equates known solved a b a_atom b_atom = go (after_equality known.framing known.symbols x y) answers
  where
    x : Atom
    x = resolved known.symbols a

    y : Atom
    y = resolved known.symbols b

    answers : Answers known.framing known.symbols x y (after_equality known.framing known.symbols x y)
    answers = equality_answers known.framing known.symbols solved.resolved x y (resolved_root known solved.resolved a a_atom) (resolved_root known solved.resolved b b_atom)

    to_sides : (texts : List (List ℕ)) → FitsSymbols known.framing known.symbols texts → text_of texts a ≡ text_of texts b → text_of texts x ≡ text_of texts y
    to_sides texts fits same =
        sym (text_of-resolved known.framing known.symbols texts fits a) ∙ same ∙ text_of-resolved known.framing known.symbols texts fits b

    from_sides : (texts : List (List ℕ)) → FitsSymbols known.framing known.symbols texts → text_of texts x ≡ text_of texts y → text_of texts a ≡ text_of texts b
    from_sides texts fits same =
        text_of-resolved known.framing known.symbols texts fits a ∙ same ∙ sym (text_of-resolved known.framing known.symbols texts fits b)

    met : (symbols : List Symbol) → IsEquality known.framing known.symbols symbols x y → (apart : Bool) → list_all (is_apart symbols) known.differences ≡ apart
        → EquatesTo known a b (only_if apart (Some symbols))
    met symbols equality true is =
        let still_solved : IsSolved (record known { symbols = symbols }) = record {
          resolved = equality.resolved;
          apart = is;
          atoms = λ d is_in. let atoms = solved.atoms d is_in in
              (atom_still known symbols equality.count d.left atoms.0, atom_still known symbols equality.count d.right atoms.1);
          counted = solved.counted;
          within = solved.within;
          many = equality.many (known.room + 1) solved.many;
        } in (
          still_solved,
          record {
            framing = refl;
            room = refl;
            symbols = equality.count;
            kept = λ texts solution. let fits = equality.kept texts solution.fits in
                (record { fits = fits; different = solution.different }, from_sides texts fits (equality.same texts solution.fits));
            all = λ texts solution same. record { fits = equality.all texts solution.fits (to_sides texts solution.fits same); different = solution.different };
            left = some_solution (record known { symbols = symbols }) still_solved;
          },
        )
    met symbols equality false is = λ texts solution same.
        let found = some_fails (is_apart symbols) known.differences is in
        let d : Difference = found.0 in
        let fits = equality.all texts solution.fits (to_sides texts solution.fits same) in
        solution.different d found.1
        (text_of-resolved known.framing symbols texts fits d.left ∙ ap (text_of texts) (together_sides symbols d found.2) ∙ sym (text_of-resolved known.framing symbols texts fits d.right))

    go : (answer : Option (List Symbol)) → Answers known.framing known.symbols x y answer
        → EquatesTo known a b (option_and_then (λ symbols. only_if (list_all (is_apart symbols) known.differences) (Some symbols)) answer)
    go None none = λ texts solution same. none texts solution.fits (to_sides texts solution.fits same)
    go (Some symbols) equality = met symbols equality (list_all (is_apart symbols) known.differences) refl

-- the same of an answer that is this one
pub equated_as : (known : Known) → IsSolved known → (a b : Atom) → IsAtomOf known a → IsAtomOf known b → (answer : Option (List Symbol))
    → answer ≡ symbols_equated known.framing known.symbols known.differences a b → EquatesTo known a b answer
equated_as known solved a b a_atom b_atom answer is = subst (EquatesTo known a b) (sym is) (equates known solved a b a_atom b_atom)
