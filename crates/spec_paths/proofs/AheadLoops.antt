-- Lists that are gone through one item at a time, from the front or from the end.
use Rattle.std.proofs.Common.{◌≡◌, ℕ, suc, ◌+◌, ◌-◌, ◌<◌, ◌≤◌, List, [], ◌∷◌, ◌++◌, map, length, take, drop, get_or, refl, sym, ◌∙◌, ap, arith, add-one, drop-cons}
use Rattle.std.proofs.Math.Seq.{take-suc, take-length}

-- what is left from one item earlier
pub drop-earlier : {A : Type 0} (items : List A) (place : ℕ) (item : A) → 0 < place → place ≤ length items → item ≡ get_or items (place - 1) item
    → item ∷ drop place items ≡ drop (place - 1) items
drop-earlier items place item positive within here =
    let before : place - 1 < length items = omega arith in
    let next : suc (place - 1) ≡ place = omega arith in
    ap (λ one. one ∷ drop place items) here ∙ ap (λ from. get_or items (place - 1) item ∷ drop from items) (sym next) ∙ sym (drop-cons items (place - 1) item before)

pub drop-all : {A : Type 0} (items : List A) → drop (length items) items ≡ []
drop-all [] = refl
drop-all (item ∷ items) = drop-all items

pub drop-none : {A : Type 0} (items list : List A) (place : ℕ) → items ≡ list → place ≤ 0 → drop place items ≡ list
drop-none items list place same none = let start : place ≡ 0 = omega arith in ap (λ from. drop from items) start ∙ same

-- what has been gone through with one item more
pub take-more : {A : Type 0} (items : List A) (index : ℕ) (item : A) → index < length items → item ≡ get_or items index item
    → take index items ++ item ∷ [] ≡ take (index + 1) items
take-more items index item within here =
    ap (λ one. take index items ++ one ∷ []) here ∙ sym (take-suc items index item within) ∙ ap (λ upto. take upto items) (sym (add-one index))

pub take-all : {A : Type 0} (items list : List A) (index : ℕ) → items ≡ list → index ≤ length items → length items ≤ index → take index items ≡ list
take-all items list index same within past =
    let whole : index ≡ length items = omega arith in ap (λ upto. take upto items) whole ∙ take-length items ∙ same

pub map-more : {A B : Type 0} (f : A → B) (items : List A) (item : A) → map f (items ++ item ∷ []) ≡ map f items ++ f item ∷ []
map-more f [] item = refl
map-more f (one ∷ items) item = ap (λ rest. f one ∷ rest) (map-more f items item)
