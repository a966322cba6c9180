-- Forms are equal exactly where the roots take the same texts.
use Rattle.std.proofs.Common.{◌≡◌, ◌⊎◌, ◌↔◌, ℕ, ◌<◌, ◌≤◌, min, max, true, List, [], ◌∷◌, ◌++◌, flat_map, length, map, slice_get, Some, refl, sym, ◌∙◌, ap, subst, arith, inl, inr}
use Rattle.std.specs.Cmp.Lexicographic.{nat_list_cmp_total}
use Rattle.std.proofs.lemmas.Bool.{cases_order, cases_Bool, both_ways}
use Rattle.std.proofs.lemmas.List.{length-map}
use Rattle.spec_model.specs.declared.event.Framing.{Framing}
use Rattle.spec_model.specs.declared.tree.Alphabet.{Alphabet}
use Rattle.spec_model.specs.declared.tree.Alphabet.TheVariants.{Hex, Alnum, Any}
use Rattle.spec_model.specs.Step.{may_be_picked}
use Rattle.constraint_set.specs.Form.{IsForm, difference_key, difference_key_by, packed, place_bytes, place_of, root_key, root_key_by}
use Rattle.constraint_set.specs.Free.{is_taken}
use Rattle.constraint_set.specs.Known.{Known, IsIn, IsSolution, text_of}
use Rattle.constraint_set.specs.Least.{least_texts}
use Rattle.constraint_set.specs.RootTexts.{TakeSame}
use Rattle.constraint_set.specs.Solved.{resolved}
use Rattle.constraint_set.specs.declared.atom.Atom.{Atom}
use Rattle.constraint_set.specs.declared.atom.Atom.TheVariants.{Const, Sym}
use Rattle.constraint_set.specs.declared.symbol.Symbol.{Symbol}
use Rattle.constraint_set.specs.declared.symbol.Difference.{Difference}
use Rattle.constraint_set.proofs.Atoms.{apart_sides, mapped_at, mapped_from}
use Rattle.constraint_set.proofs.Equalities.{solvable}
use Rattle.constraint_set.proofs.FormBack.{AreAlike, IsRooted, IsTwin, first_solution, not_later, not_unknown, not_wider, same_len, turned_alike, twin, twin_at}
use Rattle.constraint_set.proofs.FormForth.{takes_too}
use Rattle.constraint_set.proofs.FormGives.{IsMet, keys_of, met, met_alphabet}
use Rattle.constraint_set.proofs.FormKeys.{SaysPair, SaysText, key_says, pair_key_is, text_key_is}
use Rattle.constraint_set.proofs.FreeTexts.{is_in_taken, taken_is_in}
use Rattle.constraint_set.proofs.Lists.{given_by_one, given_is_in, same_lists, same_place}
use Rattle.constraint_set.proofs.OutsideTexts.{IsMoved, alnum_in_any, by_128, hex_in_alnum, hex_in_any, to_capitals}
use Rattle.constraint_set.proofs.Packing.{packed_lists}
use Rattle.constraint_set.proofs.Places.{one_symbol}
use Rattle.constraint_set.proofs.Possible.{SomeSolution, can_be, can_equal}
use Rattle.constraint_set.proofs.SameRoots.{AreBothUnknown, AreSameAll, AreSameRoots, IsUnknown, keys_from_same, place_takes, root_info, same_from_keys, sides_apart, turned_all}
use Rattle.constraint_set.proofs.SortedKeys.{same_sorted}

-- two alphabets are the same, or the characters of one can be moved out of it into the other
record IsInside (framing : Framing) (narrow wide : Alphabet) : Type 0 where
  move : ℕ → ℕ
  moved : IsMoved framing narrow wide move

alphabet_cases : (framing : Framing) (a b : Alphabet) → (a ≡ b) ⊎ (IsInside framing a b ⊎ IsInside framing b a)
alphabet_cases framing Hex Hex = inl refl
alphabet_cases framing Hex Alnum = inr (inl (record { move = to_capitals; moved = hex_in_alnum framing }))
alphabet_cases framing Hex Any = inr (inl (record { move = by_128; moved = hex_in_any framing }))
alphabet_cases framing Alnum Hex = inr (inr (record { move = to_capitals; moved = hex_in_alnum framing }))
alphabet_cases framing Alnum Alnum = inl refl
alphabet_cases framing Alnum Any = inr (inl (record { move = by_128; moved = alnum_in_any framing }))
alphabet_cases framing Any Hex = inr (inr (record { move = by_128; moved = hex_in_any framing }))
alphabet_cases framing Any Alnum = inr (inr (record { move = by_128; moved = alnum_in_any framing }))
alphabet_cases framing Any Any = inl refl

-- facts that give their roots the same texts have as many roots
same_count : (known : Known) (roots : List Atom) (other : Known) (other_roots : List Atom) → AreAlike known roots other other_roots → length roots ≡ length other_roots
same_count known roots other other_roots alike =
    let texts = least_texts known in
    let t = twin known roots other other_roots alike texts (first_solution known alike.one.solved) in
    sym (length-map roots (text_of texts)) ∙ ap length (sym t.same) ∙ length-map other_roots (text_of t.other_texts)

same_unknowns : (known : Known) (roots : List Atom) (other : Known) (other_roots : List Atom) → AreAlike known roots other other_roots → (k : ℕ) (root other_root : Atom)
    → slice_get roots k ≡ Some root → slice_get other_roots k ≡ Some other_root → (u : IsUnknown known roots k root) → (v : IsUnknown other other_roots k other_root)
    → AreBothUnknown known roots other other_roots k root other_root
same_unknowns known roots other other_roots alike k root other_root at other_at u v = record {
  one = u;
  two = v;
  place = elim (cases_order u.place v.place) [
    | inl same ↦ same
    | inr (inl less) ↦ absurd (not_later known roots other other_roots alike long k root other_root at other_at u v less)
    | inr (inr more) ↦ absurd (not_later other other_roots known roots turned (sym long) k other_root root other_at at v u more)
  ];
  len = same_len known roots other other_roots alike k root other_root at other_at u v;
  alphabet = elim (alphabet_cases other.framing u.symbol.alphabet v.symbol.alphabet) [
    | inl same ↦ same
    | inr (inl wider) ↦ absurd (not_wider known roots other other_roots alike k root other_root at other_at u v wider.move wider.moved)
    | inr (inr narrower) ↦ absurd (not_wider other other_roots known roots turned k other_root root other_at at v u narrower.move
        (subst (λ f. IsMoved f v.symbol.alphabet u.symbol.alphabet narrower.move) (sym alike.framing) narrower.moved))
  ];
}
  where
    long : length roots ≡ length other_roots
    long = same_count known roots other other_roots alike

    turned : AreAlike other other_roots known roots
    turned = turned_alike known roots other other_roots alike

-- such facts have the same roots
all_same : (known : Known) (roots : List Atom) (other : Known) (other_roots : List Atom) → AreAlike known roots other other_roots → AreSameAll known roots other other_roots
all_same known roots other other_roots alike = record {
  long = same_count known roots other other_roots alike;
  each = λ k root other_root at other_at. go k root other_root at other_at (root_info known roots alike.one.seen k root at) (root_info other other_roots alike.two.seen k other_root other_at);
}
  where
    go : (k : ℕ) (root other_root : Atom) → slice_get roots k ≡ Some root → slice_get other_roots k ≡ Some other_root
        → ((text : List ℕ) × (resolved known.symbols root ≡ Const text)) ⊎ IsUnknown known roots k root
        → ((text : List ℕ) × (resolved other.symbols other_root ≡ Const text)) ⊎ IsUnknown other other_roots k other_root
        → AreSameRoots known roots other other_roots k root other_root
    go k root other_root at other_at (inl one) (inl two) =
        let texts = least_texts known in
        let solution = first_solution known alike.one.solved in
        let t = twin known roots other other_roots alike texts solution in
        let equal : two.0 ≡ one.0 = twin_at known roots other other_roots texts solution t k root other_root (Const one.0) (Const two.0) at other_at one.1 two.1 in
        inl (one.0, one.1, two.1 ∙ ap Const equal)
    go k root other_root at other_at (inl one) (inr v) = absurd (not_unknown known roots other other_roots alike k root other_root at other_at one.0 one.1 v)
    go k root other_root at other_at (inr u) (inl two) =
        absurd (not_unknown other other_roots known roots (turned_alike known roots other other_roots alike) k other_root root other_at at two.0 two.1 u)
    go k root other_root at other_at (inr u) (inr v) = inr (same_unknowns known roots other other_roots alike k root other_root at other_at u v)

-- the symbols at one place have the same text in a solution and its twin
twin_place : (known : Known) (roots : List Atom) (other : Known) (other_roots : List Atom) (texts : List (List ℕ)) → IsSolution known texts → (t : IsTwin known roots other other_roots texts) → (r s place : ℕ)
    → place_of known.symbols roots r ≡ Some place → place_of other.symbols other_roots s ≡ Some place → text_of t.other_texts (Sym s) ≡ text_of texts (Sym r)
twin_place known roots other other_roots texts solution t r s place found other_found =
    let mine = place_takes known roots texts solution.fits r place found in
    let theirs = place_takes other other_roots t.other_texts t.solution.fits s place other_found in
    let both : Some (text_of t.other_texts (Sym s)) ≡ Some (text_of texts (Sym r)) = sym theirs ∙ ap (λ taken. slice_get taken place) t.same ∙ mine in
    cc

-- what is written of a difference here is written there
text_goes : (known : Known) (roots : List Atom) (other : Known) (other_roots : List Atom) → AreAlike known roots other other_roots → AreSameAll known roots other other_roots
    → (d : Difference) → IsIn d known.differences → (key : List ℕ)
    → SaysText known.framing known.symbols roots (resolved known.symbols d.left) (resolved known.symbols d.right) key → (IsIn key (keys_of other other_roots) → ⊥) → ⊥
text_goes known roots other other_roots alike same d is_in key says missing =
    elim says.sides [
      | inl straight ↦ sides_apart known t.other_texts t.solution d is_in (Sym says.r) (Const says.text) straight.0 straight.1 equal
      | inr turned ↦ sides_apart known t.other_texts t.solution d is_in (Const says.text) (Sym says.r) turned.0 turned.1 (sym equal)
    ]
  where
    back : AreSameAll other other_roots known roots
    back = turned_all known roots other other_roots same

    m : IsMet other other_roots known roots says.r says.place
    m = met other other_roots known roots back says.r says.place says.reached.place_is

    symbol : says.symbol ≡ m.b
    symbol = same_place known.symbols says.r says.r m.b says.symbol refl m.other_reached.at says.reached.at

    may : may_be_picked other.framing m.a.len m.a.alphabet says.text ≡ true
    may =
        ap (λ f. may_be_picked f m.a.len m.a.alphabet says.text) (sym alike.framing)
        ∙ ap (λ len. may_be_picked known.framing len m.a.alphabet says.text) m.len
        ∙ ap (λ alphabet. may_be_picked known.framing m.b.len alphabet says.text) (met_alphabet other other_roots known roots back says.r says.place says.reached.place_is m)
        ∙ ap (λ (x : Symbol). may_be_picked known.framing x.len x.alphabet says.text) (sym symbol)
        ∙ says.may

    forbidden : (e : Difference) → IsIn e other.differences → (key_of : difference_key other.framing other.symbols other_roots e ≡ Some (3 ∷ (place_bytes says.place ++ says.text))) → ⊥
    forbidden e e_in key_of = missing (subst (λ k. IsIn k (keys_of other other_roots)) (sym says.key_is) (given_is_in (difference_key other.framing other.symbols other_roots) other.differences e _ e_in key_of))

    be : SomeSolution other (λ texts. text_of texts (Sym m.r) ≡ says.text)
    be = can_be other (solvable other alike.two.solved) m.r (record { root = m.a; at = m.reached.at; itself = m.itself }) says.text may
        (λ e e_in sides. forbidden e e_in (elim sides [
          | inl straight ↦
              ap (λ x. difference_key_by other.framing other.symbols other_roots x (resolved other.symbols e.right)) straight.0
              ∙ ap (difference_key_by other.framing other.symbols other_roots (Sym m.r)) straight.1
              ∙ text_key_is other.framing other.symbols other_roots m.r says.place m.a says.text m.reached may
          | inr turned ↦
              ap (λ x. difference_key_by other.framing other.symbols other_roots x (resolved other.symbols e.right)) turned.0
              ∙ ap (difference_key_by other.framing other.symbols other_roots (Const says.text)) turned.1
              ∙ text_key_is other.framing other.symbols other_roots m.r says.place m.a says.text m.reached may
        ]))

    t : IsTwin other other_roots known roots be.texts
    t = twin other other_roots known roots (turned_alike known roots other other_roots alike) be.texts be.solution

    equal : text_of t.other_texts (Sym says.r) ≡ says.text
    equal = twin_place other other_roots known roots be.texts be.solution t m.r says.r says.place m.reached.place_is says.reached.place_is ∙ be.holds

pair_goes : (known : Known) (roots : List Atom) (other : Known) (other_roots : List Atom) → AreAlike known roots other other_roots → AreSameAll known roots other other_roots
    → (d : Difference) → IsIn d known.differences → (key : List ℕ)
    → SaysPair known.symbols roots (resolved known.symbols d.left) (resolved known.symbols d.right) key → (IsIn key (keys_of other other_roots) → ⊥) → ⊥
pair_goes known roots other other_roots alike same d is_in key says missing =
    sides_apart known t.other_texts t.solution d is_in (Sym says.r) (Sym says.s) says.left says.right
    (twin_place other other_roots known roots be.texts be.solution t m.r says.r says.r_place m.reached.place_is says.r_reached.place_is
    ∙ be.holds
    ∙ sym (twin_place other other_roots known roots be.texts be.solution t n.r says.s says.s_place n.reached.place_is says.s_reached.place_is))
  where
    back : AreSameAll other other_roots known roots
    back = turned_all known roots other other_roots same

    m : IsMet other other_roots known roots says.r says.r_place
    m = met other other_roots known roots back says.r says.r_place says.r_reached.place_is

    n : IsMet other other_roots known roots says.s says.s_place
    n = met other other_roots known roots back says.s says.s_place says.s_reached.place_is

    len : m.a.len ≡ n.a.len
    len =
        m.len ∙ ap (λ (x : Symbol). x.len) (sym (same_place known.symbols says.r says.r m.b says.a refl m.other_reached.at says.r_reached.at))
        ∙ says.len ∙ ap (λ (x : Symbol). x.len) (same_place known.symbols says.s says.s n.b says.b refl n.other_reached.at says.s_reached.at) ∙ sym n.len

    differ : (m.r ≡ n.r) → ⊥
    differ equal =
        let places : Some says.r_place ≡ Some says.s_place = sym m.reached.place_is ∙ ap (place_of other.symbols other_roots) equal ∙ n.reached.place_is in
        let place : says.r_place ≡ says.s_place = cc in
        let symbols = one_symbol known.symbols roots says.r says.s says.s_place (says.r_reached.place_is ∙ ap Some place) says.s_reached.place_is in
        apart_sides known.symbols d (alike.one.seen.solvable.apart d is_in) (says.left ∙ ap Sym symbols ∙ sym says.right)

    forbidden : (e : Difference) → IsIn e other.differences
        → (key_of : difference_key other.framing other.symbols other_roots e ≡ Some (2 ∷ (place_bytes (min says.r_place says.s_place) ++ place_bytes (max says.r_place says.s_place)))) → ⊥
    forbidden e e_in key_of = missing (subst (λ k. IsIn k (keys_of other other_roots)) (sym says.key_is) (given_is_in (difference_key other.framing other.symbols other_roots) other.differences e _ e_in key_of))

    be : SomeSolution other (λ texts. text_of texts (Sym m.r) ≡ text_of texts (Sym n.r))
    be = can_equal other (solvable other alike.two.solved) m.r n.r (record { root = m.a; at = m.reached.at; itself = m.itself }) (record { root = n.a; at = n.reached.at; itself = n.itself }) len differ
        (λ e e_in between. forbidden e e_in (elim between [
          | inl straight ↦
              ap (λ x. difference_key_by other.framing other.symbols other_roots x (resolved other.symbols e.right)) straight.0
              ∙ ap (difference_key_by other.framing other.symbols other_roots (Sym m.r)) straight.1
              ∙ pair_key_is other.symbols other_roots m.r n.r says.r_place says.s_place m.a n.a m.reached n.reached len
          | inr turned ↦
              ap (λ x. difference_key_by other.framing other.symbols other_roots x (resolved other.symbols e.right)) turned.0
              ∙ ap (difference_key_by other.framing other.symbols other_roots (Sym n.r)) turned.1
              ∙ pair_key_is other.symbols other_roots n.r m.r says.s_place says.r_place n.a m.a n.reached m.reached (sym len)
              ∙ ap (λ lesser. Some (2 ∷ (place_bytes lesser ++ place_bytes (max says.s_place says.r_place)))) (least_turned says.s_place says.r_place)
              ∙ ap (λ greater. Some (2 ∷ (place_bytes (min says.r_place says.s_place) ++ place_bytes greater))) (greatest_turned says.s_place says.r_place)
        ]))
      where
        least_turned : (a b : ℕ) → min a b ≡ min b a
        least_turned a b = omega arith

        greatest_turned : (a b : ℕ) → max a b ≡ max b a
        greatest_turned a b = omega arith

    t : IsTwin other other_roots known roots be.texts
    t = twin other other_roots known roots (turned_alike known roots other other_roots alike) be.texts be.solution

pub key_goes : (known : Known) (roots : List Atom) (other : Known) (other_roots : List Atom) → AreAlike known roots other other_roots → AreSameAll known roots other other_roots
    → (key : List ℕ) → IsIn key (keys_of known roots) → IsIn key (keys_of other other_roots)
key_goes known roots other other_roots alike same key is_in = elim (cases_Bool (is_taken (keys_of other other_roots) key)) [
  | inl there ↦ taken_is_in (keys_of other other_roots) key there
  | inr missing ↦ absurd (go (given_by_one (difference_key known.framing known.symbols roots) known.differences key is_in)
      (λ there. both_ways (is_taken (keys_of other other_roots) key) missing (is_in_taken (keys_of other other_roots) key there)))
]
  where
    go : (found : (d : Difference) × IsIn d known.differences × (difference_key known.framing known.symbols roots d ≡ Some key)) → (IsIn key (keys_of other other_roots) → ⊥) → ⊥
    go found missing = elim (key_says known.framing known.symbols roots (resolved known.symbols found.0.left) (resolved known.symbols found.0.right) key found.2) [
      | inl says ↦ text_goes known roots other other_roots alike same found.0 found.1 key says missing
      | inr says ↦ pair_goes known roots other other_roots alike same found.0 found.1 key says missing
    ]

-- the first byte of a key
abbrev tag : List ℕ → ℕ
tag [] = 0
tag (byte ∷ key) = byte

root_tag : (symbols : List Symbol) (roots : List Atom) (x : Atom) → tag (root_key_by symbols roots x) < 2
root_tag symbols roots (Const text) = omega arith
root_tag symbols roots (Sym r) = omega arith

-- joined lists of low and high tags have the same parts
split_tags : (xs ys zs ws : List (List ℕ)) → ((x : List ℕ) → IsIn x xs → tag x < 2) → ((y : List ℕ) → IsIn y ys → tag y < 2)
    → ((z : List ℕ) → IsIn z zs → 2 ≤ tag z) → ((w : List ℕ) → IsIn w ws → 2 ≤ tag w) → xs ++ zs ≡ ys ++ ws → (xs ≡ ys) × (zs ≡ ws)
split_tags [] [] zs ws xs_low ys_low zs_high ws_high same = (refl, same)
split_tags [] (y ∷ ys) [] ws xs_low ys_low zs_high ws_high same = absurd (cc)
split_tags [] (y ∷ ys) (z ∷ zs) ws xs_low ys_low zs_high ws_high same = absurd (
    let equal : z ≡ y = cc in let low = ys_low y (inl refl) in let high = zs_high z (inl refl) in let tags = ap tag equal in omega (arith, low, high, tags))
split_tags (x ∷ xs) [] zs [] xs_low ys_low zs_high ws_high same = absurd (cc)
split_tags (x ∷ xs) [] zs (w ∷ ws) xs_low ys_low zs_high ws_high same = absurd (
    let equal : x ≡ w = cc in let low = xs_low x (inl refl) in let high = ws_high w (inl refl) in let tags = ap tag equal in omega (arith, low, high, tags))
split_tags (x ∷ xs) (y ∷ ys) zs ws xs_low ys_low zs_high ws_high same =
    let tails : xs ++ zs ≡ ys ++ ws = cc in
    let rest = split_tags xs ys zs ws (λ a a_in. xs_low a (inr a_in)) (λ b b_in. ys_low b (inr b_in)) zs_high ws_high tails in
    let heads : x ≡ y = cc in
    let others = rest.0 in
    (cc, rest.1)

mapped_in : {A B : Type 0} → (f : A → B) (xs : List A) (y : B) → IsIn y (map f xs) → (x : A) × (y ≡ f x)
mapped_in f [] y is_in = absurd is_in
mapped_in f (x ∷ xs) y (inl same) = (x, same)
mapped_in f (x ∷ xs) y (inr later) = mapped_in f xs y later

roots_low : (known : Known) (roots : List Atom) (y : List ℕ) → IsIn y (map (root_key known.symbols roots) roots) → tag y < 2
roots_low known roots y is_in =
    let found = mapped_in (root_key known.symbols roots) roots y is_in in
    let low = root_tag known.symbols roots (resolved known.symbols found.0) in
    let tags = ap tag found.1 in
    omega (arith, low, tags)

keys_high : (known : Known) (roots : List Atom) (y : List ℕ) → IsIn y (keys_of known roots) → 2 ≤ tag y
keys_high known roots y is_in =
    let found = given_by_one (difference_key known.framing known.symbols roots) known.differences y is_in in
    elim (key_says known.framing known.symbols roots (resolved known.symbols found.0.left) (resolved known.symbols found.0.right) y found.2) [
      | inl says ↦ (let tags = ap tag says.key_is in omega (arith, tags))
      | inr says ↦ (let tags = ap tag says.key_is in omega (arith, tags))
    ]

-- Forms of facts that were made alike are equal exactly where the roots take the same texts.
pub forms_tell : (known : Known) (roots : List Atom) (other : Known) (other_roots : List Atom) (form other_form : List ℕ) → IsRooted known roots → IsRooted other other_roots
    → known.framing ≡ other.framing → known.room ≡ other.room → IsForm known roots form → IsForm other other_roots other_form
    → (form ≡ other_form) ↔ TakeSame known roots other other_roots
forms_tell known roots other other_roots form other_form one two framing room is other_is = (same_texts, same_forms)
  where
    same_texts : form ≡ other_form → TakeSame known roots other other_roots
    same_texts equal = give (split_tags (map (root_key known.symbols roots) roots) (map (root_key other.symbols other_roots) other_roots) is.keys other_is.keys
        (roots_low known roots) (roots_low other other_roots) (λ y y_in. keys_high known roots y (is.only y y_in)) (λ y y_in. keys_high other other_roots y (other_is.only y y_in))
        (packed_lists (map (root_key known.symbols roots) roots ++ is.keys) (map (root_key other.symbols other_roots) other_roots ++ other_is.keys) (sym is.is ∙ equal ∙ other_is.is)))
      where
        give : (map (root_key known.symbols roots) roots ≡ map (root_key other.symbols other_roots) other_roots) × (is.keys ≡ other_is.keys) → TakeSame known roots other other_roots
        give parts = record {
          forth = takes_too known roots other other_roots one.seen two.seen framing all (λ key key_in. is.only key (subst (IsIn key) (sym parts.1) (other_is.all key key_in)));
          back = takes_too other other_roots known roots two.seen one.seen (sym framing) (turned_all known roots other other_roots all) (λ key key_in. other_is.only key (subst (IsIn key) parts.1 (is.all key key_in)));
        }
          where
            all : AreSameAll known roots other other_roots
            all = record {
              long = sym (length-map roots (root_key known.symbols roots)) ∙ ap length parts.0 ∙ length-map other_roots (root_key other.symbols other_roots);
              each = λ k root other_root at other_at.
                  let mine = mapped_at (root_key known.symbols roots) roots k root at in
                  let theirs = mapped_at (root_key other.symbols other_roots) other_roots k other_root other_at in
                  let both : Some (root_key known.symbols roots root) ≡ Some (root_key other.symbols other_roots other_root) = sym mine ∙ ap (λ keys. slice_get keys k) parts.0 ∙ theirs in
                  same_from_keys known roots other other_roots one.seen two.seen k root other_root at other_at (cc);
            }

    same_forms : TakeSame known roots other other_roots → form ≡ other_form
    same_forms same =
        is.is
        ∙ ap (λ keys. flat_map packed (keys ++ is.keys)) same_roots
        ∙ ap (λ keys. flat_map packed (map (root_key other.symbols other_roots) other_roots ++ keys)) same_keys
        ∙ sym other_is.is
      where
        alike : AreAlike known roots other other_roots
        alike = record { one = one; two = two; framing = framing; room = room; same = same }

        all : AreSameAll known roots other other_roots
        all = all_same known roots other other_roots alike

        same_roots : map (root_key known.symbols roots) roots ≡ map (root_key other.symbols other_roots) other_roots
        same_roots = same_lists (map (root_key known.symbols roots) roots) (map (root_key other.symbols other_roots) other_roots)
            (length-map roots (root_key known.symbols roots) ∙ all.long ∙ sym (length-map other_roots (root_key other.symbols other_roots)))
            (λ k x y at_x at_y.
            let mine = mapped_from (root_key known.symbols roots) roots k x at_x in
            let theirs = mapped_from (root_key other.symbols other_roots) other_roots k y at_y in
            mine.2 ∙ keys_from_same known roots other other_roots k mine.0 theirs.0 (all.each k mine.0 theirs.0 mine.1 theirs.1) ∙ sym theirs.2)

        same_keys : is.keys ≡ other_is.keys
        same_keys = same_sorted nat_list_cmp_total is.keys other_is.keys is.sorted other_is.sorted
            (λ key key_in. other_is.all key (key_goes known roots other other_roots alike all key (is.only key key_in)))
            (λ key key_in. is.all key (key_goes other other_roots known roots (turned_alike known roots other other_roots alike) (turned_all known roots other other_roots all) key (other_is.only key key_in)))
