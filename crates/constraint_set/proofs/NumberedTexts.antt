-- The texts of a length over an alphabet, by their numbers.
use Rattle.std.proofs.Common.{◌≡◌, ℕ, zero, suc, ◌+◌, ◌*◌, ◌/◌, ◌%◌, ◌<◌, true, ◌==◌, List, [], ◌∷◌, ◌++◌, length, refl, sym, ◌∙◌, ap, subst, arith, inl, inr, eq-eqb, append_assoc, length-append, append-nil}
use Rattle.std.specs.List.{list_all}
use Rattle.std.proofs.Math.Nat.{pow-zero, pow-suc, mul_comm}
use Rattle.std.proofs.lemmas.Nat.{div_below, mul-add-lt, div-mul-add, mod-mul-add, div-add-mod', mod_below}
use Rattle.std.proofs.lemmas.Bool.{cases_order, and_parts, and_from, eqb-true}
use Rattle.std.proofs.lemmas.List.Folds.{list_all-append}
use Rattle.spec_model.specs.declared.event.Framing.{Framing}
use Rattle.spec_model.specs.declared.tree.Alphabet.{Alphabet}
use Rattle.spec_model.specs.Step.{is_character, may_be_picked}
use Rattle.constraint_set.specs.Characters.{character, size_of, text_numbered, texts_count}
use Rattle.spec_model.specs.Order.{IsBefore, IsTextBefore}
use Rattle.constraint_set.proofs.CharacterOrder.{character_is, character_number, character_rises, some_character}

-- what follows does not change the order
pub before_longer : {A : Type 0} (less : A → A → Type 0) (xs ys zs ws : List A) → IsBefore less xs ys → IsBefore less (xs ++ zs) (ys ++ ws)
before_longer less xs ys zs ws before = record {
  front = before.front;
  x = before.x;
  y = before.y;
  xs_rest = before.xs_rest ++ zs;
  ys_rest = before.ys_rest ++ ws;
  first = ap (λ list. list ++ zs) before.first ∙ append_assoc before.front (before.x ∷ before.xs_rest) zs;
  second = ap (λ list. list ++ ws) before.second ∙ append_assoc before.front (before.y ∷ before.ys_rest) ws;
  lesser = before.lesser;
}

pub length-text_numbered : (framing : Framing) (alphabet : Alphabet) (len number : ℕ) → length (text_numbered framing alphabet len number) ≡ len
length-text_numbered framing alphabet zero number = refl
length-text_numbered framing alphabet (suc len) number =
    let front = length-text_numbered framing alphabet len (number / size_of framing alphabet) in
    let both = length-append (text_numbered framing alphabet len (number / size_of framing alphabet)) (character framing alphabet (number % size_of framing alphabet) ∷ []) in
    omega (arith, front, both)

all_characters : (framing : Framing) (alphabet : Alphabet) (len number : ℕ) → list_all (is_character framing alphabet) (text_numbered framing alphabet len number) ≡ true
all_characters framing alphabet zero number = refl
all_characters framing alphabet (suc len) number =
    list_all-append (is_character framing alphabet) (text_numbered framing alphabet len (number / size_of framing alphabet)) (character framing alphabet (number % size_of framing alphabet) ∷ [])
    ∙ and_from _ _ (all_characters framing alphabet len (number / size_of framing alphabet))
    (and_from _ _ (character_is framing alphabet (number % size_of framing alphabet) (mod_below number (size_of framing alphabet) (some_character framing alphabet))) refl)

-- each number gives a text
pub numbered_picked : (framing : Framing) (alphabet : Alphabet) (len number : ℕ) → may_be_picked framing len alphabet (text_numbered framing alphabet len number) ≡ true
numbered_picked framing alphabet len number =
    and_from _ _ (eq-eqb (length (text_numbered framing alphabet len number)) len (length-text_numbered framing alphabet len number)) (all_characters framing alphabet len number)

-- greater numbers give later texts
pub numbered_rises : (framing : Framing) (alphabet : Alphabet) (len k j : ℕ) → k < j → j < texts_count framing alphabet len
    → IsTextBefore (text_numbered framing alphabet len k) (text_numbered framing alphabet len j)
numbered_rises framing alphabet zero k j less within = absurd (let one = pow-zero (size_of framing alphabet) in omega (arith, one))
numbered_rises framing alphabet (suc len) k j less within = elim (cases_order (k / size) (j / size)) [
  | inl same ↦ record {
    front = text_numbered framing alphabet len (k / size);
    x = character framing alphabet (k % size);
    y = character framing alphabet (j % size);
    xs_rest = [];
    ys_rest = [];
    first = refl;
    second = ap (λ part. text_numbered framing alphabet len part ++ character framing alphabet (j % size) ∷ []) (sym same);
    lesser = character_rises framing alphabet (k % size) (j % size) (last_rises same);
  }
  | inr (inl rises) ↦ before_longer _ (text_numbered framing alphabet len (k / size)) (text_numbered framing alphabet len (j / size)) _ _
      (numbered_rises framing alphabet len (k / size) (j / size) rises (div_below j size (texts_count framing alphabet len) (some_character framing alphabet) fewer))
  | inr (inr falls) ↦ absurd (no_fall falls)
]
  where
    size : ℕ
    size = size_of framing alphabet

    fewer : j < texts_count framing alphabet len * size
    fewer = let more = pow-suc (size_of framing alphabet) len in rw more at within

    last_rises : k / size ≡ j / size → k % size < j % size
    last_rises same =
        let k_parts = div-add-mod' k size in
        let j_parts = div-add-mod' j size in
        let products : (k / size) * size ≡ (j / size) * size = ap (λ part. part * size) same in
        omega (arith, k_parts, j_parts, products)

    no_fall : j / size < k / size → ⊥
    no_fall falls =
        let k_parts = div-add-mod' k size in
        let j_parts = div-add-mod' j size in
        let small = mod_below j size (some_character framing alphabet) in
        let products = mul-add-lt (j / size) size (j % size) (k / size) falls small in
        omega (arith, k_parts, j_parts, products)

-- each text of the length over the alphabet has a number
continued : (framing : Framing) (alphabet : Alphabet) (text : List ℕ) (len number : ℕ) → list_all (is_character framing alphabet) text ≡ true → number < texts_count framing alphabet len
    → (whole : ℕ) × (whole < texts_count framing alphabet (len + length text)) × (text_numbered framing alphabet (len + length text) whole ≡ text_numbered framing alphabet len number ++ text)
continued framing alphabet [] len number all within =
    let same : len + 0 ≡ len = omega arith in
    (number, rw same within, rw same (sym (append-nil (text_numbered framing alphabet len number))))
continued framing alphabet (byte ∷ text) len number all within =
    let later = continued framing alphabet text (suc len) next parts.1 next_within in
    (later.0, rw longer later.1, rw longer (later.2 ∙ ap (λ front. front ++ text) one_more ∙ append_assoc (text_numbered framing alphabet len number) (byte ∷ []) text))
  where
    size : ℕ
    size = size_of framing alphabet

    parts : (is_character framing alphabet byte ≡ true) × (list_all (is_character framing alphabet) text ≡ true)
    parts = and_parts (is_character framing alphabet byte) (list_all (is_character framing alphabet) text) all

    found : (digit : ℕ) × (digit < size) × (character framing alphabet digit ≡ byte)
    found = character_number framing alphabet byte parts.0

    next : ℕ
    next = number * size + found.0

    next_within : next < texts_count framing alphabet (suc len)
    next_within =
        let bound = mul-add-lt number size found.0 (texts_count framing alphabet len) within found.1 in
        let more = pow-suc (size_of framing alphabet) len in
        let turned = mul_comm size (texts_count framing alphabet len) in
        omega (arith, bound, more, turned)

    one_more : text_numbered framing alphabet (suc len) next ≡ text_numbered framing alphabet len number ++ byte ∷ []
    one_more = rw (div-mul-add number size found.0 found.1, mod-mul-add number size found.0 found.1, found.2) refl

    longer : len + suc (length text) ≡ suc len + length text
    longer = omega arith

pub number_of_text : (framing : Framing) (alphabet : Alphabet) (len : ℕ) (text : List ℕ) → may_be_picked framing len alphabet text ≡ true
    → (number : ℕ) × (number < texts_count framing alphabet len) × (text_numbered framing alphabet len number ≡ text)
number_of_text framing alphabet len text may =
    let parts = and_parts (length text == len) (list_all (is_character framing alphabet) text) may in
    let same : length text ≡ len = eqb-true (length text) len parts.0 in
    let one = pow-zero (size_of framing alphabet) in
    let whole = continued framing alphabet text 0 0 parts.1 (omega (arith, one)) in
    let count : 0 + length text ≡ len = omega (arith, same) in
    (whole.0, subst (λ n. whole.0 < texts_count framing alphabet n) count whole.1, subst (λ n. text_numbered framing alphabet n whole.0 ≡ text) count whole.2)
