-- Packed texts are told apart.
use Rattle.std.proofs.Common.{◌≡◌, ℕ, ◌<◌, Bool, true, false, cond, ◌==◌, List, [], ◌∷◌, ◌++◌, flat_map, refl, sym, ◌∙◌, arith, inl, inr, append_assoc}
use Rattle.std.proofs.lemmas.Bool.{eqb-true, eqb-false, cases_order}
use Rattle.spec_model.specs.declared.event.Framing.TheVariants.{Len16}
use Rattle.spec_model.specs.declared.tree.Alphabet.TheVariants.{Any}
use Rattle.constraint_set.specs.Characters.{texts_count}
use Rattle.constraint_set.specs.Form.{packed, packed_byte, place_bytes}
use Rattle.constraint_set.proofs.FreeTexts.{distinct_texts}

pub head_same : (a b : ℕ) (xs ys : List ℕ) → a ∷ xs ≡ b ∷ ys → a ≡ b
head_same a b xs ys same = cc

pub tail_same : (a b : ℕ) (xs ys : List ℕ) → a ∷ xs ≡ b ∷ ys → xs ≡ ys
tail_same a b xs ys same = cc

-- a packed text ends where it ends
pub packed_apart : (s t xs ys : List ℕ) → flat_map packed_byte s ++ 0 ∷ 0 ∷ xs ≡ flat_map packed_byte t ++ 0 ∷ 0 ∷ ys → (s ≡ t) × (xs ≡ ys)
packed_apart [] [] xs ys same = (refl, cc)
packed_apart [] (b ∷ t) xs ys same = absurd (go (b == 0) refl same)
  where
    go : (zero_is : Bool) → (b == 0) ≡ zero_is → 0 ∷ 0 ∷ xs ≡ (cond zero_is (0 ∷ 1 ∷ []) (b ∷ []) ++ flat_map packed_byte t) ++ 0 ∷ 0 ∷ ys → ⊥
    go true is same = let one : 0 ∷ xs ≡ 1 ∷ (flat_map packed_byte t ++ 0 ∷ 0 ∷ ys) = tail_same 0 0 _ _ same in let wrong = head_same 0 1 _ _ one in omega arith
    go false is same = let zero_too : 0 ≡ b = head_same 0 b _ _ same in eqb-false b 0 is (sym zero_too)
packed_apart (a ∷ s) [] xs ys same = absurd (go (a == 0) refl same)
  where
    go : (zero_is : Bool) → (a == 0) ≡ zero_is → (cond zero_is (0 ∷ 1 ∷ []) (a ∷ []) ++ flat_map packed_byte s) ++ 0 ∷ 0 ∷ xs ≡ 0 ∷ 0 ∷ ys → ⊥
    go true is same = let one : 1 ∷ (flat_map packed_byte s ++ 0 ∷ 0 ∷ xs) ≡ 0 ∷ ys = tail_same 0 0 _ _ same in let wrong = head_same 1 0 _ _ one in omega arith
    go false is same = let zero_too : a ≡ 0 = head_same a 0 _ _ same in eqb-false a 0 is zero_too
packed_apart (a ∷ s) (b ∷ t) xs ys same = go (a == 0) (b == 0) refl refl same (λ rest. packed_apart s t xs ys rest)
  where
    go : (a_zero b_zero : Bool) → (a == 0) ≡ a_zero → (b == 0) ≡ b_zero
        → (cond a_zero (0 ∷ 1 ∷ []) (a ∷ []) ++ flat_map packed_byte s) ++ 0 ∷ 0 ∷ xs ≡ (cond b_zero (0 ∷ 1 ∷ []) (b ∷ []) ++ flat_map packed_byte t) ++ 0 ∷ 0 ∷ ys
        → (flat_map packed_byte s ++ 0 ∷ 0 ∷ xs ≡ flat_map packed_byte t ++ 0 ∷ 0 ∷ ys → (s ≡ t) × (xs ≡ ys)) → (a ∷ s ≡ b ∷ t) × (xs ≡ ys)
    go true true a_is b_is same later =
        let rest = later (tail_same 1 1 _ _ (tail_same 0 0 _ _ same)) in
        let first : a ≡ b = eqb-true a 0 a_is ∙ sym (eqb-true b 0 b_is) in
        let others = rest.0 in
        (cc, rest.1)
    go true false a_is b_is same later = absurd (let zero_too : 0 ≡ b = head_same 0 b _ _ same in eqb-false b 0 b_is (sym zero_too))
    go false true a_is b_is same later = absurd (let zero_too : a ≡ 0 = head_same a 0 _ _ same in eqb-false a 0 a_is zero_too)
    go false false a_is b_is same later =
        let rest = later (tail_same a b _ _ same) in
        let first : a ≡ b = head_same a b _ _ same in
        let others = rest.0 in
        (cc, rest.1)

-- packed lists are equal only where the lists are
pub packed_lists : (ss ts : List (List ℕ)) → flat_map packed ss ≡ flat_map packed ts → ss ≡ ts
packed_lists [] [] same = refl
packed_lists [] (t ∷ ts) same = absurd (no_end t ts same)
  where
    no_end : (t : List ℕ) (ts : List (List ℕ)) → [] ≡ (flat_map packed_byte t ++ 0 ∷ 0 ∷ []) ++ flat_map packed ts → ⊥
    no_end [] ts same = cc
    no_end (b ∷ t) ts same = go (b == 0) same
      where
        go : (zero_is : Bool) → [] ≡ ((cond zero_is (0 ∷ 1 ∷ []) (b ∷ []) ++ flat_map packed_byte t) ++ 0 ∷ 0 ∷ []) ++ flat_map packed ts → ⊥
        go true same = cc
        go false same = cc
packed_lists (s ∷ ss) [] same = absurd (no_end s ss same)
  where
    no_end : (t : List ℕ) (ts : List (List ℕ)) → (flat_map packed_byte t ++ 0 ∷ 0 ∷ []) ++ flat_map packed ts ≡ [] → ⊥
    no_end [] ts same = cc
    no_end (b ∷ t) ts same = go (b == 0) same
      where
        go : (zero_is : Bool) → ((cond zero_is (0 ∷ 1 ∷ []) (b ∷ []) ++ flat_map packed_byte t) ++ 0 ∷ 0 ∷ []) ++ flat_map packed ts ≡ [] → ⊥
        go true same = cc
        go false same = cc
packed_lists (s ∷ ss) (t ∷ ts) same =
    let first = append_assoc (flat_map packed_byte s) (0 ∷ 0 ∷ []) (flat_map packed ss) in
    let second = append_assoc (flat_map packed_byte t) (0 ∷ 0 ∷ []) (flat_map packed ts) in
    let parts = packed_apart s t (flat_map packed ss) (flat_map packed ts) (sym first ∙ same ∙ second) in
    let rest = packed_lists ss ts parts.1 in
    let front = parts.0 in
    cc

-- different places are written differently
pub places_apart : (p q : ℕ) → p < texts_count Len16 Any 8 → q < texts_count Len16 Any 8 → place_bytes p ≡ place_bytes q → p ≡ q
places_apart p q p_small q_small same = elim (cases_order p q) [
  | inl equal ↦ equal
  | inr (inl less) ↦ absurd (distinct_texts Len16 Any 8 p q less q_small same)
  | inr (inr more) ↦ absurd (distinct_texts Len16 Any 8 q p more p_small (sym same))
]
