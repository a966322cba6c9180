-- Bytes before and behind the first byte of a kind.
use Rattle.std.proofs.Common.{◌≡◌, ℕ, suc, ◌+◌, Bool, true, false, not, ◌&&◌, cond, eqb, ltb, List, [], ◌∷◌, ◌++◌, length, take, drop, Option, Some, None, option_map, refl, sym, ◌∙◌, ap, arith, add-one, inl, inr, eq-eqb, append_assoc}
use Rattle.std.proofs.Math.Numerals.{one-add}
use Rattle.std.specs.List.{list_all, prefix_len}
use Rattle.std.specs.Option.{IfSome, IfNone}
use Rattle.std.proofs.lemmas.Bool.{lt-ltb, le-ltb, cases_lt, eqb-true}
use Rattle.std.proofs.lemmas.List.Folds.{list_all-append}
use Rattle.spec_model.specs.Message.{line_feed}
use Rattle.exchange_text.specs.LooseReading.{split_once}
use Rattle.exchange_text.specs.Text.{Lacks, IsLine, HasLine}

-- joined bytes lack what both parts lack
pub Lacks-append : (byte : ℕ) (xs ys : List ℕ) → Lacks byte xs → Lacks byte ys → Lacks byte (xs ++ ys)
Lacks-append byte xs ys in_xs in_ys = rw (list_all-append, in_xs, in_ys) refl

-- what a split makes of the place of the first such byte
abbrev parts_at : List ℕ → Option ℕ → Option (List ℕ × List ℕ)
parts_at bytes place = option_map (λ at. (take at bytes, drop (at + 1) bytes)) place

-- the place as a number, which is the length where there is none
abbrev place_below : ℕ → ℕ → Option ℕ
place_below place len = cond (ltb place len) (Some place) None

abbrev with_front : ℕ → Option (List ℕ × List ℕ) → Option (List ℕ × List ℕ)
with_front x parts = option_map (λ parts. (x ∷ parts.0, parts.1)) parts

-- behind one byte more each place is one on
one_on : (x : ℕ) (xs : List ℕ) (place : ℕ) → parts_at (x ∷ xs) (place_below (1 + place) (suc (length xs))) ≡ with_front x (parts_at xs (place_below place (length xs)))
one_on x xs place = elim (cases_lt place (length xs)) [
  | inl within ↦ rw (one-add, lt-ltb place (length xs) within, lt-ltb (suc place) (suc (length xs)) (omega arith), add-one (suc place), add-one place) refl
  | inr past ↦ rw (one-add, le-ltb place (length xs) past, le-ltb (suc place) (suc (length xs)) (omega arith)) refl
]

-- the first byte is the one, or a split of the others has it in front
split_once-cons : (byte x : ℕ) (xs : List ℕ) → split_once byte (x ∷ xs) ≡ cond (eqb x byte) (Some ([], xs)) (with_front x (split_once byte xs))
split_once-cons byte x xs = go (eqb x byte) (prefix_len (λ other. not (eqb other byte)) xs)
  where
    go : (found : Bool) (place : ℕ) → parts_at (x ∷ xs) (place_below (cond (not found) (1 + place) 0) (suc (length xs))) ≡ cond found (Some ([], xs)) (with_front x (parts_at xs (place_below place (length xs))))
    go true place = rw (lt-ltb 0 (suc (length xs)) (omega arith)) refl
    go false place = one_on x xs place

-- behind bytes that lack it the byte is the first of its kind
pub split_once_at : (byte : ℕ) (xs rest : List ℕ) → Lacks byte xs → split_once byte (xs ++ byte ∷ rest) ≡ Some (xs, rest)
split_once_at byte [] rest lacks = split_once-cons byte byte rest ∙ rw (eq-eqb byte byte refl) refl
split_once_at byte (x ∷ xs) rest lacks =
    split_once-cons byte x (xs ++ byte ∷ rest) ∙ go (eqb x byte) (split_once byte (xs ++ byte ∷ rest)) lacks (λ in_xs. split_once_at byte xs rest in_xs)
  where
    go : (found : Bool) (others : Option (List ℕ × List ℕ)) → (not found && list_all (λ other. not (eqb other byte)) xs) ≡ true → (Lacks byte xs → others ≡ Some (xs, rest)) → cond found (Some ([], xs ++ byte ∷ rest)) (with_front x others) ≡ Some (x ∷ xs, rest)
    go true others lacks is = cc
    go false others lacks is = rw (is lacks) refl

-- where there is no split, the bytes lack the byte
pub split_once_none : (byte : ℕ) (xs : List ℕ) → split_once byte xs ≡ None → Lacks byte xs
split_once_none byte [] none = refl
split_once_none byte (x ∷ xs) none =
    go (eqb x byte) (split_once byte xs) (sym (split_once-cons byte x xs) ∙ none) (λ none_in_xs. split_once_none byte xs none_in_xs)
  where
    go : (found : Bool) (others : Option (List ℕ × List ℕ)) → cond found (Some ([], xs)) (with_front x others) ≡ None → (others ≡ None → Lacks byte xs) → (not found && list_all (λ other. not (eqb other byte)) xs) ≡ true
    go true others none lacks = cc
    go false None none lacks = lacks refl
    go false (Some parts) none lacks = cc

-- what a split says of the bytes
pub split_once_some : (byte : ℕ) (xs front rest : List ℕ) → split_once byte xs ≡ Some (front, rest) → Lacks byte front × (xs ≡ front ++ byte ∷ rest)
split_once_some byte [] front rest some = absurd (cc)
split_once_some byte (x ∷ xs) front rest some =
    go (eqb x byte) refl (split_once byte xs) (sym (split_once-cons byte x xs) ∙ some) (λ front' rest' is. split_once_some byte xs front' rest' is)
  where
    go : (found : Bool) → eqb x byte ≡ found → (others : Option (List ℕ × List ℕ)) → cond found (Some ([], xs)) (with_front x others) ≡ Some (front, rest)
        → ((front' rest' : List ℕ) → others ≡ Some (front', rest') → Lacks byte front' × (xs ≡ front' ++ byte ∷ rest'))
        → Lacks byte front × (x ∷ xs ≡ front ++ byte ∷ rest)
    go true test others some ih =
        let pair : ◌≡◌ {A = List ℕ × List ℕ} ([], xs) (front, rest) = cc in
        let empty = ap (λ p. p.0) pair in
        let same = ap (λ p. p.1) pair in
        let first : x ≡ byte = eqb-true x byte test in
        (rw (← empty) refl, rw (← empty, ← same, first) refl)
    go false test None some ih = absurd (cc)
    go false test (Some parts) some ih =
        let pair : ◌≡◌ {A = List ℕ × List ℕ} (x ∷ parts.0, parts.1) (front, rest) = cc in
        let longer = ap (λ p. p.0) pair in
        let same = ap (λ p. p.1) pair in
        let in_xs = ih parts.0 parts.1 refl in
        (rw (← longer, test, in_xs.0) refl, rw (← longer, ← same) (ap (λ ys. x ∷ ys) in_xs.1))

-- bytes are cut at the first byte of a kind in one way
pub cut : (byte : ℕ) (xs ys rest rest' : List ℕ) → Lacks byte xs → Lacks byte ys → xs ++ byte ∷ rest ≡ ys ++ byte ∷ rest' → (xs ≡ ys) × (rest ≡ rest')
cut byte xs ys rest rest' in_xs in_ys same =
    let one = split_once_at byte xs rest in_xs in
    let other = split_once_at byte ys rest' in_ys in
    let parts : ◌≡◌ {A = Option (List ℕ × List ℕ)} (Some (xs, rest)) (Some (ys, rest')) = sym one ∙ (ap (split_once byte) same ∙ other) in
    let pair : ◌≡◌ {A = List ℕ × List ℕ} (xs, rest) (ys, rest') = cc in
    (ap (λ p. p.0) pair, ap (λ p. p.1) pair)

-- a split at the first LF gives the first line
pub first_line_some : {A : Type 0} (parts : A → List ℕ × List ℕ) (found : Option A) (bytes : List ℕ) → option_map parts found ≡ split_once line_feed bytes
    → IfSome found (λ one. HasLine bytes (parts one).0 (parts one).1)
first_line_some parts None bytes is = tt
first_line_some parts (Some one) bytes is =
    let split = split_once_some line_feed bytes (parts one).0 (parts one).1 (sym is) in
    record { parts = split.1 ∙ sym (append_assoc (parts one).0 (line_feed ∷ []) (parts one).1); no_line_feed = split.0 }

-- without one there is no line
pub first_line_none : {A : Type 0} (parts : A → List ℕ × List ℕ) (found : Option A) (bytes : List ℕ) → option_map parts found ≡ split_once line_feed bytes
    → IfNone found (IsLine bytes)
first_line_none parts None bytes is = split_once_none line_feed bytes (sym is)
first_line_none parts (Some one) bytes is = tt
