-- What declarations declare.
use Rattle.std.proofs.Common.{◌≡◌, ℕ, ◌+◌, ◌<◌, List, [], ◌∷◌, ◌++◌, take, get_or, length, filter_map, Option, Some, None, option_to_list, refl, sym, ◌∙◌, ap}
use Rattle.std.proofs.lemmas.List.{take_more}
use Rattle.std.proofs.lemmas.List.Elements.{filter_map-append}

one_declared : {A B : Type 0} (f : A → Option B) (item : A) (o : Option B) → f item ≡ o → filter_map f (item ∷ []) ≡ option_to_list o
one_declared f item None e = rw e refl
one_declared f item (Some value) e = rw e refl

-- one item more declares what it declares
pub declared_next : {A B : Type 0} (f : A → Option B) (items : List A) (place : ℕ) (item : A) (declared : Option B) (before after : List B) → place < length items
    → item ≡ get_or items place item → declared ≡ f item → before ≡ filter_map f (take place items) → after ≡ before ++ option_to_list declared
    → after ≡ filter_map f (take (place + 1) items)
declared_next f items place item declared before after within is is_declared so_far more =
    more ∙ ap (λ list. list ++ option_to_list declared) so_far
    ∙ sym (ap (filter_map f) (take_more items place item within ∙ ap (λ last. take place items ++ last ∷ []) (sym is))
    ∙ filter_map-append f (take place items) (item ∷ []) ∙ ap (λ last. filter_map f (take place items) ++ last) (one_declared f item declared (sym is_declared)))
