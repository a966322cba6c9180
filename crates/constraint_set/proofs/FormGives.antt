-- Facts of one form give their roots the same texts.
use Rattle.std.proofs.Common.{◌≡◌, ◌⊎◌, ℕ, ◌<◌, min, max, List, ◌∷◌, ◌++◌, filter_map, slice_get, Some, sym, ◌∙◌, ap, arith, inl, inr}
use Rattle.std.proofs.lemmas.Bool.{cases_eq}
use Rattle.std.proofs.lemmas.Option.{slice_get_within}
use Rattle.spec_model.specs.declared.event.Framing.TheVariants.{Len16}
use Rattle.spec_model.specs.declared.tree.Alphabet.TheVariants.{Any}
use Rattle.constraint_set.specs.Characters.{texts_count}
use Rattle.constraint_set.specs.Form.{difference_key, place_bytes, place_of}
use Rattle.constraint_set.specs.Known.{Known, IsIn, IsSolution, text_of}
use Rattle.constraint_set.specs.Solved.{resolved}
use Rattle.constraint_set.specs.declared.atom.Atom.{Atom}
use Rattle.constraint_set.specs.declared.atom.Atom.TheVariants.{Const, Sym}
use Rattle.constraint_set.specs.declared.symbol.Symbol.{Symbol}
use Rattle.constraint_set.specs.declared.symbol.Difference.{Difference}
use Rattle.constraint_set.proofs.Atoms.{item_at}
use Rattle.constraint_set.proofs.FormKeys.{IsReached, SaysPair, SaysText, key_says, same_place_bytes}
use Rattle.constraint_set.proofs.Lists.{given_by_one, same_place}
use Rattle.constraint_set.proofs.Packing.{head_same, places_apart, tail_same}
use Rattle.constraint_set.proofs.Places.{IsPlaced, one_symbol, placed}
use Rattle.constraint_set.proofs.SameRoots.{AreSameAll, AreSameRoots, IsSeen, sides_apart}

-- what is written of the differences
abbrev pub keys_of : Known → List Atom → List (List ℕ)
keys_of known roots = filter_map (difference_key known.framing known.symbols roots) known.differences

-- the place of a symbol is a place of a root
pub small_place : (known : Known) (roots : List Atom) → IsSeen known roots → (r place : ℕ) → place_of known.symbols roots r ≡ Some place → place < texts_count Len16 Any 8
small_place known roots seen r place found =
    let here = placed known.symbols roots r place found in
    let within = slice_get_within roots place here.root here.at in
    let short = seen.short in
    omega arith

-- a symbol that both reach at one place
pub record IsMet (known : Known) (roots : List Atom) (other : Known) (other_roots : List Atom) (s place : ℕ) : Type 0 where
  pub r : ℕ
  pub a : Symbol
  pub b : Symbol
  pub reached : IsReached known.symbols roots r place a
  pub other_reached : IsReached other.symbols other_roots s place b
  pub itself : a.stands_for ≡ Sym r
  pub other_itself : b.stands_for ≡ Sym s
  pub len : a.len ≡ b.len

pub met : (known : Known) (roots : List Atom) (other : Known) (other_roots : List Atom) → AreSameAll known roots other other_roots → (s place : ℕ) → place_of other.symbols other_roots s ≡ Some place
    → IsMet known roots other other_roots s place
met known roots other other_roots same s place found =
    let here = placed other.symbols other_roots s place found in
    let within = slice_get_within other_roots place here.root here.at in
    let long = same.long in
    let mine = item_at roots place (omega arith) in
    go mine.0 mine.1 here (same.each place mine.0 here.root mine.1 here.at)
  where
    go : (root : Atom) → slice_get roots place ≡ Some root → (here : IsPlaced other.symbols other_roots s place) → AreSameRoots known roots other other_roots place root here.root
        → IsMet known roots other other_roots s place
    go root at here (inl constants) = absurd (let wrong : Const constants.0 ≡ Sym s = sym constants.2 ∙ here.is in cc)
    go root at here (inr both) =
        let symbols : Sym both.two.r ≡ Sym s = sym both.two.is ∙ here.is in
        let s_is : both.two.r ≡ s = cc in
        let places : Some both.two.place ≡ Some place = sym both.two.reached.place_is ∙ ap (place_of other.symbols other_roots) s_is ∙ found in
        let place_is : both.two.place ≡ place = cc in
        record {
          r = both.one.r;
          a = both.one.symbol;
          b = both.two.symbol;
          reached = record { place_is = both.one.reached.place_is ∙ ap Some (both.place ∙ place_is); at = both.one.reached.at };
          other_reached = record { place_is = found; at = ap (slice_get other.symbols) (sym s_is) ∙ both.two.reached.at };
          itself = both.one.itself;
          other_itself = both.two.itself ∙ ap Sym s_is;
          len = both.len;
        }

-- also over one alphabet
pub met_alphabet : (known : Known) (roots : List Atom) (other : Known) (other_roots : List Atom) → AreSameAll known roots other other_roots → (s place : ℕ) → (found : place_of other.symbols other_roots s ≡ Some place)
    → (m : IsMet known roots other other_roots s place) → m.a.alphabet ≡ m.b.alphabet
met_alphabet known roots other other_roots same s place found m =
    let here = placed other.symbols other_roots s place found in
    let mine = placed known.symbols roots m.r place m.reached.place_is in
    go mine here (same.each place mine.root here.root mine.at here.at)
  where
    go : (mine : IsPlaced known.symbols roots m.r place) (here : IsPlaced other.symbols other_roots s place) → AreSameRoots known roots other other_roots place mine.root here.root → m.a.alphabet ≡ m.b.alphabet
    go mine here (inl constants) = absurd (let wrong : Const constants.0 ≡ Sym s = sym constants.2 ∙ here.is in cc)
    go mine here (inr both) =
        let r_symbols : Sym both.one.r ≡ Sym m.r = sym both.one.is ∙ mine.is in
        let r_is : both.one.r ≡ m.r = cc in
        let s_symbols : Sym both.two.r ≡ Sym s = sym both.two.is ∙ here.is in
        let s_is : both.two.r ≡ s = cc in
        let a_is : m.a ≡ both.one.symbol = same_place known.symbols both.one.r m.r both.one.symbol m.a r_is both.one.reached.at m.reached.at in
        let b_is : m.b ≡ both.two.symbol = same_place other.symbols both.two.r s both.two.symbol m.b s_is both.two.reached.at m.other_reached.at in
        ap (λ (x : Symbol). x.alphabet) a_is ∙ both.alphabet ∙ ap (λ (x : Symbol). x.alphabet) (sym b_is)

-- where a key says that a symbol at a place isn't a text, no solution gives it that
pub text_key_apart : (known : Known) (roots : List Atom) → IsSeen known roots → (texts : List (List ℕ)) → IsSolution known texts → (r place : ℕ) (text : List ℕ) → place_of known.symbols roots r ≡ Some place
    → IsIn (3 ∷ (place_bytes place ++ text)) (keys_of known roots) → text_of texts (Sym r) ≡ text → ⊥
text_key_apart known roots seen texts solution r place text found is_in same =
    let from = given_by_one (difference_key known.framing known.symbols roots) known.differences (3 ∷ (place_bytes place ++ text)) is_in in
    let d : Difference = from.0 in
    go d from.1 (key_says known.framing known.symbols roots (resolved known.symbols d.left) (resolved known.symbols d.right) (3 ∷ (place_bytes place ++ text)) from.2)
  where
    go : (d : Difference) → IsIn d known.differences
        → SaysText known.framing known.symbols roots (resolved known.symbols d.left) (resolved known.symbols d.right) (3 ∷ (place_bytes place ++ text))
        ⊎ SaysPair known.symbols roots (resolved known.symbols d.left) (resolved known.symbols d.right) (3 ∷ (place_bytes place ++ text)) → ⊥
    go d d_in (inr pair) = let wrong = head_same 3 2 _ _ pair.key_is in omega arith
    go d d_in (inl says) =
        let parts = same_place_bytes place says.place text says.text (tail_same 3 3 _ _ says.key_is) in
        let place_is = places_apart place says.place (small_place known roots seen r place found) (small_place known roots seen says.r says.place says.reached.place_is) parts.0 in
        let r_is : says.r ≡ r = one_symbol known.symbols roots says.r r place (says.reached.place_is ∙ ap Some (sym place_is)) found in
        let texts_same : text_of texts (Sym says.r) ≡ says.text = ap (λ k. text_of texts (Sym k)) r_is ∙ same ∙ parts.1 in
        elim says.sides [
          | inl straight ↦ sides_apart known texts solution d d_in (Sym says.r) (Const says.text) straight.0 straight.1 texts_same
          | inr turned ↦ sides_apart known texts solution d d_in (Const says.text) (Sym says.r) turned.0 turned.1 (sym texts_same)
        ]

-- from the lesser and the greater of two places, the places
two_places : (p q m n : ℕ) → min p q ≡ min m n → max p q ≡ max m n → ((p ≡ m) × (q ≡ n)) ⊎ ((p ≡ n) × (q ≡ m))
two_places p q m n lesser greater = elim (cases_eq p m) [
  | inl same ↦ inl (same, omega arith)
  | inr other ↦ inr (omega arith, omega arith)
]

-- where a key says that the symbols at two places differ, they do in each solution
pub pair_key_apart : (known : Known) (roots : List Atom) → IsSeen known roots → (texts : List (List ℕ)) → IsSolution known texts → (r s p q : ℕ)
    → place_of known.symbols roots r ≡ Some p → place_of known.symbols roots s ≡ Some q
    → IsIn (2 ∷ (place_bytes (min p q) ++ place_bytes (max p q))) (keys_of known roots) → text_of texts (Sym r) ≡ text_of texts (Sym s) → ⊥
pair_key_apart known roots seen texts solution r s p q r_found s_found is_in same =
    let from = given_by_one (difference_key known.framing known.symbols roots) known.differences (2 ∷ (place_bytes (min p q) ++ place_bytes (max p q))) is_in in
    let d : Difference = from.0 in
    go d from.1 (key_says known.framing known.symbols roots (resolved known.symbols d.left) (resolved known.symbols d.right) (2 ∷ (place_bytes (min p q) ++ place_bytes (max p q))) from.2)
  where
    small : (t place : ℕ) → place_of known.symbols roots t ≡ Some place → place < texts_count Len16 Any 8
    small t place found = small_place known roots seen t place found

    min_small : (a b bound : ℕ) → a < bound → b < bound → min a b < bound
    min_small a b bound a_small b_small = omega arith

    max_small : (a b bound : ℕ) → a < bound → b < bound → max a b < bound
    max_small a b bound a_small b_small = omega arith

    go : (d : Difference) → IsIn d known.differences
        → SaysText known.framing known.symbols roots (resolved known.symbols d.left) (resolved known.symbols d.right) (2 ∷ (place_bytes (min p q) ++ place_bytes (max p q)))
        ⊎ SaysPair known.symbols roots (resolved known.symbols d.left) (resolved known.symbols d.right) (2 ∷ (place_bytes (min p q) ++ place_bytes (max p q))) → ⊥
    go d d_in (inl says) = let wrong = head_same 2 3 _ _ says.key_is in omega arith
    go d d_in (inr pair) =
        let parts = same_place_bytes (min p q) (min pair.r_place pair.s_place) (place_bytes (max p q)) (place_bytes (max pair.r_place pair.s_place)) (tail_same 2 2 _ _ pair.key_is) in
        let p_small = small r p r_found in
        let q_small = small s q s_found in
        let r_small = small pair.r pair.r_place pair.r_reached.place_is in
        let s_small = small pair.s pair.s_place pair.s_reached.place_is in
        let lesser = places_apart (min p q) (min pair.r_place pair.s_place) (min_small p q _ p_small q_small) (min_small pair.r_place pair.s_place _ r_small s_small) parts.0 in
        let greater = places_apart (max p q) (max pair.r_place pair.s_place) (max_small p q _ p_small q_small) (max_small pair.r_place pair.s_place _ r_small s_small) parts.1 in
        elim (two_places p q pair.r_place pair.s_place lesser greater) [
          | inl straight ↦
              let r_is : pair.r ≡ r = one_symbol known.symbols roots pair.r r p (pair.r_reached.place_is ∙ ap Some (sym straight.0)) r_found in
              let s_is : pair.s ≡ s = one_symbol known.symbols roots pair.s s q (pair.s_reached.place_is ∙ ap Some (sym straight.1)) s_found in
              sides_apart known texts solution d d_in (Sym pair.r) (Sym pair.s) pair.left pair.right
              (ap (λ k. text_of texts (Sym k)) r_is ∙ same ∙ ap (λ k. text_of texts (Sym k)) (sym s_is))
          | inr turned ↦
              let r_is : pair.r ≡ s = one_symbol known.symbols roots pair.r s q (pair.r_reached.place_is ∙ ap Some (sym turned.1)) s_found in
              let s_is : pair.s ≡ r = one_symbol known.symbols roots pair.s r p (pair.s_reached.place_is ∙ ap Some (sym turned.0)) r_found in
              sides_apart known texts solution d d_in (Sym pair.r) (Sym pair.s) pair.left pair.right
              (ap (λ k. text_of texts (Sym k)) r_is ∙ sym same ∙ ap (λ k. text_of texts (Sym k)) (sym s_is))
        ]
