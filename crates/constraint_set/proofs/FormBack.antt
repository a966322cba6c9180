-- Facts whose roots take the same texts have one form.
use Rattle.std.proofs.Common.{◌≡◌, ◌⊎◌, ℕ, ◌+◌, ◌<◌, ◌≤◌, true, cond, ◌==◌, List, filter_map, length, map, slice_get, Option, Some, None, refl, sym, ◌∙◌, ap, arith, inl, inr, eq-eqb}
use Rattle.std.proofs.Math.Nat.{pow-zero}
use Rattle.std.proofs.lemmas.Bool.{cases_lt}
use Rattle.std.proofs.lemmas.Option.{slice_get_within}
use Rattle.spec_model.specs.Step.{may_be_picked}
use Rattle.constraint_set.specs.Characters.{size_of, text_numbered, texts_count}
use Rattle.constraint_set.specs.Known.{Known, IsIn, IsSolution, text_of}
use Rattle.constraint_set.specs.Least.{least_texts}
use Rattle.constraint_set.specs.RootTexts.{TakeSame}
use Rattle.constraint_set.specs.Solved.{IsSolved, resolved}
use Rattle.constraint_set.specs.declared.atom.Atom.{Atom}
use Rattle.constraint_set.specs.declared.atom.Atom.TheVariants.{Const, Sym}
use Rattle.constraint_set.specs.declared.symbol.Difference.{Difference}
use Rattle.constraint_set.proofs.Atoms.{item_at}
use Rattle.constraint_set.proofs.Equalities.{solvable}
use Rattle.constraint_set.proofs.FormForth.{picked_len}
use Rattle.constraint_set.proofs.FreeTexts.{free_place}
use Rattle.constraint_set.proofs.LeastSolution.{IsRoot, least_solves, resolved_root}
use Rattle.constraint_set.proofs.Lists.{given_is_in, length-filter_map}
use Rattle.constraint_set.proofs.NumberedTexts.{numbered_picked}
use Rattle.constraint_set.proofs.OutsideTexts.{IsMoved, moved_outside, moved_picked, outside_distinct, outside_numbered}
use Rattle.constraint_set.proofs.Places.{placed}
use Rattle.constraint_set.proofs.Possible.{SomeSolution, can_be, tell_apart}
use Rattle.constraint_set.proofs.SameRoots.{IsSeen, IsUnknown, root_takes}

-- solved facts with roots of theirs
pub record IsRooted (known : Known) (roots : List Atom) : Type 0 where
  pub solved : IsSolved known
  pub seen : IsSeen known roots

-- two facts that were made alike and give their roots the same texts
pub record AreAlike (known : Known) (roots : List Atom) (other : Known) (other_roots : List Atom) : Type 0 where
  pub one : IsRooted known roots
  pub two : IsRooted other other_roots
  pub framing : known.framing ≡ other.framing
  pub room : known.room ≡ other.room
  pub same : TakeSame known roots other other_roots

pub turned_alike : (known : Known) (roots : List Atom) (other : Known) (other_roots : List Atom) → AreAlike known roots other other_roots → AreAlike other other_roots known roots
turned_alike known roots other other_roots alike = record {
  one = alike.two;
  two = alike.one;
  framing = sym alike.framing;
  room = sym alike.room;
  same = record { forth = alike.same.back; back = alike.same.forth };
}

-- Each solution of the first has a solution of the second by which the roots take the same texts.
pub record IsTwin (known : Known) (roots : List Atom) (other : Known) (other_roots : List Atom) (texts : List (List ℕ)) : Type 0 where
  pub other_texts : List (List ℕ)
  pub solution : IsSolution other other_texts
  pub same : map (text_of other_texts) other_roots ≡ map (text_of texts) roots

pub twin : (known : Known) (roots : List Atom) (other : Known) (other_roots : List Atom) → AreAlike known roots other other_roots → (texts : List (List ℕ)) → IsSolution known texts
    → IsTwin known roots other other_roots texts
twin known roots other other_roots alike texts solution =
    let found = alike.same.forth (map (text_of texts) roots) (texts, solution, refl) in
    record { other_texts = found.0; solution = found.1; same = found.2 }

-- at each place they do
pub twin_at : (known : Known) (roots : List Atom) (other : Known) (other_roots : List Atom) (texts : List (List ℕ)) → IsSolution known texts → (t : IsTwin known roots other other_roots texts) → (k : ℕ)
    → (root other_root x y : Atom) → slice_get roots k ≡ Some root → slice_get other_roots k ≡ Some other_root → resolved known.symbols root ≡ x → resolved other.symbols other_root ≡ y
    → text_of t.other_texts y ≡ text_of texts x
twin_at known roots other other_roots texts solution t k root other_root x y at other_at is other_is =
    let mine = root_takes known roots texts solution.fits k root x at is in
    let theirs = root_takes other other_roots t.other_texts t.solution.fits k other_root y other_at other_is in
    let both : Some (text_of t.other_texts y) ≡ Some (text_of texts x) = sym theirs ∙ ap (λ taken. slice_get taken k) t.same ∙ mine in
    cc

pub first_solution : (known : Known) → IsSolved known → IsSolution known (least_texts known)
first_solution known solved = least_solves known (solvable known solved)

abbrev unknown_root : (known : Known) (roots : List Atom) (k : ℕ) (root : Atom) → (u : IsUnknown known roots k root) → IsRoot known.symbols u.r
unknown_root known roots k root u = record { root = u.symbol; at = u.reached.at; itself = u.itself }

-- a root that is a constant here is one there
pub not_unknown : (known : Known) (roots : List Atom) (other : Known) (other_roots : List Atom) → AreAlike known roots other other_roots → (k : ℕ) (root other_root : Atom)
    → slice_get roots k ≡ Some root → slice_get other_roots k ≡ Some other_root → (text : List ℕ) → resolved known.symbols root ≡ Const text → IsUnknown other other_roots k other_root → ⊥
not_unknown known roots other other_roots alike k root other_root at other_at text is u =
    let apart = tell_apart other alike.two.solved (Sym u.r) (Const text) (unknown_root other other_roots k other_root u) tt (λ same. cc) in
    let t = twin other other_roots known roots (turned_alike known roots other other_roots alike) apart.texts apart.solution in
    apart.holds (sym (twin_at other other_roots known roots apart.texts apart.solution t k other_root root (Sym u.r) (Const text) other_at at u.is is))

-- two symbols at one place have one length
pub same_len : (known : Known) (roots : List Atom) (other : Known) (other_roots : List Atom) → AreAlike known roots other other_roots → (k : ℕ) (root other_root : Atom)
    → slice_get roots k ≡ Some root → slice_get other_roots k ≡ Some other_root → (u : IsUnknown known roots k root) → (v : IsUnknown other other_roots k other_root) → u.symbol.len ≡ v.symbol.len
same_len known roots other other_roots alike k root other_root at other_at u v =
    let texts = least_texts known in
    let solution = first_solution known alike.one.solved in
    let t = twin known roots other other_roots alike texts solution in
    let equal = twin_at known roots other other_roots texts solution t k root other_root (Sym u.r) (Sym v.r) at other_at u.is v.is in
    sym (picked_len u.symbol.len known.framing u.symbol.alphabet (text_of texts (Sym u.r)) (solution.fits.picked u.r u.symbol u.reached.at))
    ∙ ap length (sym equal)
    ∙ picked_len v.symbol.len other.framing v.symbol.alphabet (text_of t.other_texts (Sym v.r)) (t.solution.fits.picked v.r v.symbol v.reached.at)

-- and one first place: the second's isn't after the first's
pub not_later : (known : Known) (roots : List Atom) (other : Known) (other_roots : List Atom) → AreAlike known roots other other_roots → length roots ≡ length other_roots → (k : ℕ) (root other_root : Atom)
    → slice_get roots k ≡ Some root → slice_get other_roots k ≡ Some other_root → (u : IsUnknown known roots k root) → (v : IsUnknown other other_roots k other_root) → u.place < v.place → ⊥
not_later known roots other other_roots alike long k root other_root at other_at u v less =
    let here = placed known.symbols roots u.r u.place u.reached.place_is in
    let there = placed other.symbols other_roots v.r v.place v.reached.place_is in
    let within = slice_get_within roots u.place here.root here.at in
    let found = item_at other_roots u.place (omega arith) in
    let first : Atom = found.0 in
    let differ : (resolved other.symbols first ≡ Sym v.r) → ⊥ = there.before u.place first less found.1 in
    let apart = tell_apart other alike.two.solved (resolved other.symbols first) (Sym v.r) (resolved_root other alike.two.seen.solvable.resolved first (alike.two.seen.atoms u.place first found.1))
    (unknown_root other other_roots k other_root v) differ in
    let t = twin other other_roots known roots (turned_alike known roots other other_roots alike) apart.texts apart.solution in
    let at_first = twin_at other other_roots known roots apart.texts apart.solution t u.place first here.root (resolved other.symbols first) (Sym u.r) found.1 here.at refl here.is in
    let at_k = twin_at other other_roots known roots apart.texts apart.solution t k other_root root (Sym v.r) (Sym u.r) other_at at v.is u.is in
    apart.holds (sym at_first ∙ at_k)

-- the constants that a symbol differs from
abbrev other_constant : ℕ → Atom → Atom → Option (List ℕ)
other_constant r (Const text) (Const other) = None
other_constant r (Const text) (Sym s) = cond (s == r) (Some text) None
other_constant r (Sym s) (Const text) = cond (s == r) (Some text) None
other_constant r (Sym s) (Sym t) = None

constant_of : (r : ℕ) (x y : Atom) (text : List ℕ) → ((x ≡ Sym r) × (y ≡ Const text)) ⊎ ((x ≡ Const text) × (y ≡ Sym r)) → other_constant r x y ≡ Some text
constant_of r x y text (inl sides) = ap (λ a. other_constant r a y) sides.0 ∙ ap (other_constant r (Sym r)) sides.1 ∙ ap (λ test. cond test (Some text) None) (eq-eqb r r refl)
constant_of r x y text (inr sides) = ap (λ a. other_constant r a y) sides.0 ∙ ap (other_constant r (Const text)) sides.1 ∙ ap (λ test. cond test (Some text) None) (eq-eqb r r refl)

-- A symbol of the second can't be over a wider alphabet: one of the texts outside the narrower one is free.
pub not_wider : (known : Known) (roots : List Atom) (other : Known) (other_roots : List Atom) → AreAlike known roots other other_roots → (k : ℕ) (root other_root : Atom)
    → slice_get roots k ≡ Some root → slice_get other_roots k ≡ Some other_root → (u : IsUnknown known roots k root) → (v : IsUnknown other other_roots k other_root)
    → (move : ℕ → ℕ) → IsMoved other.framing u.symbol.alphabet v.symbol.alphabet move → ⊥
not_wider known roots other other_roots alike k root other_root at other_at u v move moved =
    moved_outside other.framing u.symbol.alphabet v.symbol.alphabet move moved u.symbol.len (text_numbered other.framing u.symbol.alphabet u.symbol.len free.0) some (numbered_picked other.framing u.symbol.alphabet u.symbol.len free.0)
    (ap (may_be_picked other.framing u.symbol.len u.symbol.alphabet) (sym (equal ∙ be.holds)) ∙ ap (λ f. may_be_picked f u.symbol.len u.symbol.alphabet (text_of t.other_texts (Sym u.r))) (sym alike.framing)
    ∙ t.solution.fits.picked u.r u.symbol u.reached.at)
  where
    len : u.symbol.len ≡ v.symbol.len
    len = same_len known roots other other_roots alike k root other_root at other_at u v

    many : known.room + 1 < texts_count known.framing u.symbol.alphabet u.symbol.len
    many = alike.one.solved.many u.r u.symbol u.reached.at

    many_here : other.room + 1 < texts_count other.framing u.symbol.alphabet u.symbol.len
    many_here =
        let moved_count = ap (λ f. texts_count f u.symbol.alphabet u.symbol.len) alike.framing in
        let room = alike.room in
        omega (arith, many, moved_count, room)

    some : 0 < u.symbol.len
    some = elim (cases_lt 0 u.symbol.len) [
      | inl less ↦ less
      | inr none ↦ absurd (
          let zero_is : u.symbol.len ≡ 0 = omega arith in
          let one = ap (λ n. texts_count known.framing u.symbol.alphabet n) zero_is ∙ pow-zero (size_of known.framing u.symbol.alphabet) in
          omega (arith, many, one))
    ]

    constants : List (List ℕ)
    constants = filter_map (λ (d : Difference). other_constant v.r (resolved other.symbols d.left) (resolved other.symbols d.right)) other.differences

    few : 0 + length constants < texts_count other.framing u.symbol.alphabet u.symbol.len
    few =
        let short = length-filter_map (λ (d : Difference). other_constant v.r (resolved other.symbols d.left) (resolved other.symbols d.right)) other.differences in
        let counted = alike.two.solved.counted in
        let within = alike.two.solved.within in
        omega (arith, short, counted, within, many_here)

    free : (place : ℕ) × (0 ≤ place) × (place ≤ 0 + length constants) × (IsIn (outside_numbered other.framing u.symbol.alphabet move u.symbol.len place) constants → ⊥)
    free = free_place (outside_numbered other.framing u.symbol.alphabet move u.symbol.len) (texts_count other.framing u.symbol.alphabet u.symbol.len)
        (outside_distinct other.framing u.symbol.alphabet v.symbol.alphabet move moved u.symbol.len) (length constants) constants 0 (omega arith) few

    text : List ℕ
    text = outside_numbered other.framing u.symbol.alphabet move u.symbol.len free.0

    may : may_be_picked other.framing v.symbol.len v.symbol.alphabet text ≡ true
    may = ap (λ n. may_be_picked other.framing n v.symbol.alphabet text) (sym len)
        ∙ moved_picked other.framing u.symbol.alphabet v.symbol.alphabet move moved u.symbol.len (text_numbered other.framing u.symbol.alphabet u.symbol.len free.0) (numbered_picked other.framing u.symbol.alphabet u.symbol.len free.0)

    be : SomeSolution other (λ texts. text_of texts (Sym v.r) ≡ text)
    be = can_be other (solvable other alike.two.solved) v.r (unknown_root other other_roots k other_root v) text may
        (λ d is_in sides. free.3 (given_is_in (λ (e : Difference). other_constant v.r (resolved other.symbols e.left) (resolved other.symbols e.right)) other.differences d text is_in
        (constant_of v.r (resolved other.symbols d.left) (resolved other.symbols d.right) text sides)))

    t : IsTwin other other_roots known roots be.texts
    t = twin other other_roots known roots (turned_alike known roots other other_roots alike) be.texts be.solution

    equal : text_of t.other_texts (Sym u.r) ≡ text_of be.texts (Sym v.r)
    equal = twin_at other other_roots known roots be.texts be.solution t k other_root root (Sym v.r) (Sym u.r) other_at at v.is u.is
