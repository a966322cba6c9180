-- Two symbols that stand for themselves become one.
use Rattle.std.proofs.Common.{◌≡◌, ◌⊎◌, ℕ, ◌<◌, ◌≤◌, Bool, true, false, if◌then◌else◌, List, map, slice_get, Some, refl, sym, ◌∙◌, ap, subst, arith, inl, inr}
use Rattle.std.proofs.lemmas.List.{length-map}
use Rattle.std.proofs.lemmas.Bool.{or_cases, or_left, or_right}
use Rattle.spec_model.specs.declared.event.Framing.{Framing}
use Rattle.spec_model.specs.Step.{may_be_picked}
use Rattle.constraint_set.specs.Characters.{narrower, texts_count}
use Rattle.constraint_set.specs.Known.{FitsSymbols, is_same, text_of}
use Rattle.constraint_set.specs.Solved.{is_either, joined_to, MayStandFor, AreResolved, HaveMore}
use Rattle.constraint_set.specs.declared.atom.Atom.{Atom}
use Rattle.constraint_set.specs.declared.atom.Atom.TheVariants.{Const, Sym}
use Rattle.constraint_set.specs.declared.symbol.Symbol.{Symbol}
use Rattle.constraint_set.proofs.Alphabets.{narrower_first, narrower_second, narrower_one, picked_within}
use Rattle.constraint_set.proofs.Atoms.{is_same-equal, is_same_itself, mapped_from, mapped_at}

-- two symbols of one length that stand for themselves, in order
pub record AreRoots (symbols : List Symbol) (lesser greater : ℕ) (a b : Symbol) : Type 0 where
  pub order : lesser < greater
  pub first_at : slice_get symbols lesser ≡ Some a
  pub second_at : slice_get symbols greater ≡ Some b
  pub first_itself : a.stands_for ≡ Sym lesser
  pub second_itself : b.stands_for ≡ Sym greater
  pub len : a.len ≡ b.len

-- what a symbol becomes
abbrev pub joined : Symbol → Symbol → ℕ → ℕ → Symbol → Symbol
joined a b lesser greater = joined_to lesser greater (narrower a.alphabet b.alphabet)

-- the same by the answer of its test
abbrev pub joined_if : Symbol → Symbol → ℕ → Bool → Symbol → Symbol
joined_if a b lesser either symbol = if either then record symbol { alphabet = narrower a.alphabet b.alphabet; stands_for = Sym lesser } else symbol

either_one : (lesser greater : ℕ) (x : Atom) → is_either lesser greater x ≡ true → (x ≡ Sym lesser) ⊎ (x ≡ Sym greater)
either_one lesser greater x is = elim (or_cases (is_same x (Sym lesser)) (is_same x (Sym greater)) is) [
  | inl first ↦ inl (is_same-equal x (Sym lesser) first)
  | inr second ↦ inr (is_same-equal x (Sym greater) second)
]

first_either : (lesser greater : ℕ) (x : Atom) → x ≡ Sym lesser → is_either lesser greater x ≡ true
first_either lesser greater x is = or_left _ _ (ap (λ y. is_same y (Sym lesser)) is ∙ is_same_itself (Sym lesser))

second_either : (lesser greater : ℕ) (x : Atom) → x ≡ Sym greater → is_either lesser greater x ≡ true
second_either lesser greater x is = or_right _ _ (ap (λ y. is_same y (Sym greater)) is ∙ is_same_itself (Sym greater))

same_symbol : (symbols : List Symbol) (r : ℕ) (x y : Symbol) → slice_get symbols r ≡ Some x → slice_get symbols r ≡ Some y → x ≡ y
same_symbol symbols r x y at_x at_y = cc

pub joined_as : (a b : Symbol) (lesser greater : ℕ) (symbol : Symbol) (either : Bool) → is_either lesser greater symbol.stands_for ≡ either → joined a b lesser greater symbol ≡ joined_if a b lesser either symbol
joined_as a b lesser greater symbol either is = ap (λ m. joined_if a b lesser m symbol) is

-- where the joined symbols stand
new_first : (symbols : List Symbol) (lesser greater : ℕ) (a b : Symbol) → AreRoots symbols lesser greater a b → slice_get (map (joined a b lesser greater) symbols) lesser ≡ Some (joined_if a b lesser true a)
new_first symbols lesser greater a b roots =
    mapped_at (joined a b lesser greater) symbols lesser a roots.first_at ∙ ap Some (joined_as a b lesser greater a true (first_either lesser greater a.stands_for roots.first_itself))

new_second : (symbols : List Symbol) (lesser greater : ℕ) (a b : Symbol) → AreRoots symbols lesser greater a b → slice_get (map (joined a b lesser greater) symbols) greater ≡ Some (joined_if a b lesser true b)
new_second symbols lesser greater a b roots =
    mapped_at (joined a b lesser greater) symbols greater b roots.second_at ∙ ap Some (joined_as a b lesser greater b true (second_either lesser greater b.stands_for roots.second_itself))

-- what stood for either one is of its length and alphabet, and not before the lesser
record Joins (s : ℕ) (symbol : Symbol) (lesser : ℕ) (a b : Symbol) : Type 0 where
  order : lesser ≤ s
  len : a.len ≡ symbol.len
  alphabet : (symbol.alphabet ≡ a.alphabet) ⊎ (symbol.alphabet ≡ b.alphabet)

joins : (framing : Framing) (symbols : List Symbol) (lesser greater : ℕ) (a b : Symbol) → AreRoots symbols lesser greater a b → (s : ℕ) (symbol : Symbol)
    → MayStandFor framing symbols s symbol symbol.stands_for → (symbol.stands_for ≡ Sym lesser) ⊎ (symbol.stands_for ≡ Sym greater) → Joins s symbol lesser a b
joins framing symbols lesser greater a b roots s symbol stands (inl first) =
    let h : MayStandFor framing symbols s symbol (Sym lesser) = subst (λ x. MayStandFor framing symbols s symbol x) first stands in
    let root = same_symbol symbols lesser h.1.0 a h.1.1 roots.first_at in
    record { order = h.0; len = ap (λ (x : Symbol). x.len) (sym root) ∙ h.1.3; alphabet = inl (sym h.1.4 ∙ ap (λ (x : Symbol). x.alphabet) root) }
joins framing symbols lesser greater a b roots s symbol stands (inr second) =
    let h : MayStandFor framing symbols s symbol (Sym greater) = subst (λ x. MayStandFor framing symbols s symbol x) second stands in
    let root = same_symbol symbols greater h.1.0 b h.1.1 roots.second_at in
    let order = roots.order in
    let behind : greater ≤ s = h.0 in
    record { order = omega arith; len = roots.len ∙ ap (λ (x : Symbol). x.len) (sym root) ∙ h.1.3; alphabet = inr (sym h.1.4 ∙ ap (λ (x : Symbol). x.alphabet) root) }

-- what stood for neither stands for the same as before
stays : (framing : Framing) (symbols : List Symbol) (lesser greater : ℕ) (a b : Symbol) (s : ℕ) (symbol : Symbol) (x : Atom) → MayStandFor framing symbols s symbol x
    → is_either lesser greater x ≡ false → MayStandFor framing (map (joined a b lesser greater) symbols) s symbol x
stays framing symbols lesser greater a b s symbol (Const text) stands neither = stands
stays framing symbols lesser greater a b s symbol (Sym r) stands neither =
    let root : Symbol = stands.1.0 in
    let same : joined a b lesser greater root ≡ root = joined_as a b lesser greater root false (ap (is_either lesser greater) stands.1.2 ∙ neither) in
    (stands.0, (root, mapped_at (joined a b lesser greater) symbols r root stands.1.1 ∙ ap Some same, stands.1.2, stands.1.3, stands.1.4))

-- the symbols are resolved again
pub joined_resolved : (framing : Framing) (symbols : List Symbol) (lesser greater : ℕ) (a b : Symbol) → AreRoots symbols lesser greater a b → AreResolved framing symbols
    → AreResolved framing (map (joined a b lesser greater) symbols)
joined_resolved framing symbols lesser greater a b roots are s new at =
    let old = mapped_from (joined a b lesser greater) symbols s new at in
    subst (λ (x : Symbol). MayStandFor framing (map (joined a b lesser greater) symbols) s x x.stands_for) (sym old.2)
    (go old.0 (are s old.0 old.1) (is_either lesser greater old.0.stands_for) refl)
  where
    go : (symbol : Symbol) → MayStandFor framing symbols s symbol symbol.stands_for → (either : Bool) → is_either lesser greater symbol.stands_for ≡ either
        → MayStandFor framing (map (joined a b lesser greater) symbols) s (joined_if a b lesser either symbol) (joined_if a b lesser either symbol).stands_for
    go symbol stands true is =
        let known = joins framing symbols lesser greater a b roots s symbol stands (either_one lesser greater symbol.stands_for is) in
        (known.order, (joined_if a b lesser true a, new_first symbols lesser greater a b roots, refl, known.len, refl))
    go symbol stands false is = stays framing symbols lesser greater a b s symbol symbol.stands_for stands is

-- texts that fit then give both the same text
pub joined_texts : (framing : Framing) (symbols : List Symbol) (lesser greater : ℕ) (a b : Symbol) (texts : List (List ℕ)) → AreRoots symbols lesser greater a b
    → FitsSymbols framing (map (joined a b lesser greater) symbols) texts → text_of texts (Sym lesser) ≡ text_of texts (Sym greater)
joined_texts framing symbols lesser greater a b texts roots fits = sym (fits.equal greater (joined_if a b lesser true b) (new_second symbols lesser greater a b roots))

picked_one : (framing : Framing) (s : ℕ) (symbol : Symbol) (lesser : ℕ) (a b : Symbol) (text : List ℕ) → Joins s symbol lesser a b
    → may_be_picked framing symbol.len (narrower a.alphabet b.alphabet) text ≡ true → may_be_picked framing symbol.len symbol.alphabet text ≡ true
picked_one framing s symbol lesser a b text known may = elim known.alphabet [
  | inl first ↦ rw first (picked_within framing symbol.len (narrower a.alphabet b.alphabet) a.alphabet (narrower_first framing a.alphabet b.alphabet) text may)
  | inr second ↦ rw second (picked_within framing symbol.len (narrower a.alphabet b.alphabet) b.alphabet (narrower_second framing a.alphabet b.alphabet) text may)
]

-- and fit before
pub joined_fits : (framing : Framing) (symbols : List Symbol) (lesser greater : ℕ) (a b : Symbol) (texts : List (List ℕ)) → AreRoots symbols lesser greater a b → AreResolved framing symbols
    → FitsSymbols framing (map (joined a b lesser greater) symbols) texts → FitsSymbols framing symbols texts
joined_fits framing symbols lesser greater a b texts roots are fits = record {
  one_each = fits.one_each ∙ length-map symbols (joined a b lesser greater);
  picked = λ s symbol at. picked_before s symbol at (is_either lesser greater symbol.stands_for) refl (fits.picked s _ (mapped_at (joined a b lesser greater) symbols s symbol at));
  equal = λ s symbol at. equal_before s symbol (is_either lesser greater symbol.stands_for) refl (fits.equal s _ (mapped_at (joined a b lesser greater) symbols s symbol at));
}
  where
    picked_before : (s : ℕ) (symbol : Symbol) → slice_get symbols s ≡ Some symbol → (either : Bool) → is_either lesser greater symbol.stands_for ≡ either
        → may_be_picked framing (joined_if a b lesser either symbol).len (joined_if a b lesser either symbol).alphabet (text_of texts (Sym s)) ≡ true
        → may_be_picked framing symbol.len symbol.alphabet (text_of texts (Sym s)) ≡ true
    picked_before s symbol at true is may =
        picked_one framing s symbol lesser a b (text_of texts (Sym s)) (joins framing symbols lesser greater a b roots s symbol (are s symbol at) (either_one lesser greater symbol.stands_for is)) may
    picked_before s symbol at false is may = may

    equal_before : (s : ℕ) (symbol : Symbol) (either : Bool) → is_either lesser greater symbol.stands_for ≡ either
        → text_of texts (Sym s) ≡ text_of texts (joined_if a b lesser either symbol).stands_for → text_of texts (Sym s) ≡ text_of texts symbol.stands_for
    equal_before s symbol true is equal = elim (either_one lesser greater symbol.stands_for is) [
      | inl first ↦ equal ∙ ap (text_of texts) (sym first)
      | inr second ↦ equal ∙ joined_texts framing symbols lesser greater a b texts roots fits ∙ ap (text_of texts) (sym second)
    ]
    equal_before s symbol false is equal = equal

-- texts that fit before and give both the same text fit then
pub fits_joined : (framing : Framing) (symbols : List Symbol) (lesser greater : ℕ) (a b : Symbol) (texts : List (List ℕ)) → AreRoots symbols lesser greater a b → AreResolved framing symbols
    → FitsSymbols framing symbols texts → text_of texts (Sym lesser) ≡ text_of texts (Sym greater) → FitsSymbols framing (map (joined a b lesser greater) symbols) texts
fits_joined framing symbols lesser greater a b texts roots are fits same = record {
  one_each = fits.one_each ∙ sym (length-map symbols (joined a b lesser greater));
  picked = λ s new at. let old = mapped_from (joined a b lesser greater) symbols s new at in
      subst (λ (x : Symbol). may_be_picked framing x.len x.alphabet (text_of texts (Sym s)) ≡ true) (sym old.2) (picked_then s old.0 old.1 (is_either lesser greater old.0.stands_for) refl);
  equal = λ s new at. let old = mapped_from (joined a b lesser greater) symbols s new at in
      subst (λ (x : Symbol). text_of texts (Sym s) ≡ text_of texts x.stands_for) (sym old.2) (equal_then s old.0 (is_either lesser greater old.0.stands_for) refl (fits.equal s old.0 old.1));
}
  where
    to_lesser : (x : Atom) → (x ≡ Sym lesser) ⊎ (x ≡ Sym greater) → text_of texts x ≡ text_of texts (Sym lesser)
    to_lesser x (inl first) = ap (text_of texts) first
    to_lesser x (inr second) = ap (text_of texts) second ∙ sym same

    in_first : may_be_picked framing a.len a.alphabet (text_of texts (Sym lesser)) ≡ true
    in_first = fits.picked lesser a roots.first_at

    in_second : may_be_picked framing a.len b.alphabet (text_of texts (Sym lesser)) ≡ true
    in_second = ap (λ len. may_be_picked framing len b.alphabet (text_of texts (Sym lesser))) roots.len ∙ ap (may_be_picked framing b.len b.alphabet) same ∙ fits.picked greater b roots.second_at

    picked_then : (s : ℕ) (symbol : Symbol) → slice_get symbols s ≡ Some symbol → (either : Bool) → is_either lesser greater symbol.stands_for ≡ either
        → may_be_picked framing (joined_if a b lesser either symbol).len (joined_if a b lesser either symbol).alphabet (text_of texts (Sym s)) ≡ true
    picked_then s symbol at true is =
        let one = either_one lesser greater symbol.stands_for is in
        let known = joins framing symbols lesser greater a b roots s symbol (are s symbol at) one in
        let text : text_of texts (Sym s) ≡ text_of texts (Sym lesser) = fits.equal s symbol at ∙ to_lesser symbol.stands_for one in
        ap (may_be_picked framing symbol.len (narrower a.alphabet b.alphabet)) text
        ∙ ap (λ len. may_be_picked framing len (narrower a.alphabet b.alphabet) (text_of texts (Sym lesser))) (sym known.len)
        ∙ narrower_one (λ alphabet. may_be_picked framing a.len alphabet (text_of texts (Sym lesser)) ≡ true) a.alphabet b.alphabet in_first in_second
    picked_then s symbol at false is = fits.picked s symbol at

    equal_then : (s : ℕ) (symbol : Symbol) (either : Bool) → is_either lesser greater symbol.stands_for ≡ either → text_of texts (Sym s) ≡ text_of texts symbol.stands_for
        → text_of texts (Sym s) ≡ text_of texts (joined_if a b lesser either symbol).stands_for
    equal_then s symbol true is equal = equal ∙ to_lesser symbol.stands_for (either_one lesser greater symbol.stands_for is)
    equal_then s symbol false is equal = equal

-- each symbol still may have as many texts
pub joined_more : (framing : Framing) (symbols : List Symbol) (lesser greater : ℕ) (a b : Symbol) (count : ℕ) → AreRoots symbols lesser greater a b → AreResolved framing symbols
    → HaveMore framing symbols count → HaveMore framing (map (joined a b lesser greater) symbols) count
joined_more framing symbols lesser greater a b count roots are more s new at =
    let old = mapped_from (joined a b lesser greater) symbols s new at in
    subst (λ (x : Symbol). count < texts_count framing x.alphabet x.len) (sym old.2) (go old.0 old.1 (is_either lesser greater old.0.stands_for) refl)
  where
    go : (symbol : Symbol) → slice_get symbols s ≡ Some symbol → (either : Bool) → is_either lesser greater symbol.stands_for ≡ either
        → count < texts_count framing (joined_if a b lesser either symbol).alphabet (joined_if a b lesser either symbol).len
    go symbol at true is =
        let known = joins framing symbols lesser greater a b roots s symbol (are s symbol at) (either_one lesser greater symbol.stands_for is) in
        subst (λ len. count < texts_count framing (narrower a.alphabet b.alphabet) len) known.len
        (narrower_one (λ alphabet. count < texts_count framing alphabet a.len) a.alphabet b.alphabet (more lesser a roots.first_at)
        (subst (λ len. count < texts_count framing b.alphabet len) (sym roots.len) (more greater b roots.second_at)))
    go symbol at false is = more s symbol at
