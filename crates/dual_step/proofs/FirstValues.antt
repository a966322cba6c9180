-- The values with which registers begin.
use Rattle.std.proofs.Common.{◌≡◌, ℕ, ◌+◌, ◌<◌, List, [], ◌∷◌, ◌++◌, take, get_or, length, filter_map, Option, Some, None, option_to_list, refl, sym, ◌∙◌, ap}
use Rattle.std.proofs.lemmas.List.{take_more}
use Rattle.std.proofs.lemmas.List.Elements.{filter_map-append}
use Rattle.spec_model.specs.declared.config.Value.{Value}
use Rattle.spec_model.specs.declared.tree.First.{First}
use Rattle.spec_model.specs.Config.{first_value}

one_value : (first : First) (value : Option Value) → first_value first ≡ value → filter_map first_value (first ∷ []) ≡ option_to_list value
one_value first None is = rw is refl
one_value first (Some value) is = rw is refl

-- one register more begins with its value
pub values_next : (firsts : List First) (place : ℕ) (first : First) (value : Option Value) (before after : List Value) → place < length firsts
    → first ≡ get_or firsts place first → value ≡ first_value first → before ≡ filter_map first_value (take place firsts) → after ≡ before ++ option_to_list value
    → after ≡ filter_map first_value (take (place + 1) firsts)
values_next firsts place first value before after within is is_value so_far more =
    let taken : take (place + 1) firsts ≡ take place firsts ++ first ∷ []
    = take_more firsts place first within ∙ ap (λ last. take place firsts ++ last ∷ []) (sym is) in
    let values : filter_map first_value (take (place + 1) firsts) ≡ filter_map first_value (take place firsts) ++ filter_map first_value (first ∷ [])
    = ap (filter_map first_value) taken ∙ filter_map-append first_value (take place firsts) (first ∷ []) in
    let last = ap (λ last. filter_map first_value (take place firsts) ++ last) (one_value first value (sym is_value)) in
    more ∙ ap (λ list. list ++ option_to_list value) so_far ∙ sym (values ∙ last)
