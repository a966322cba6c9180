use Rattle.std.proofs.Common.{◌≡◌, ℕ, ◌+◌, ◌<◌, List, [], ◌∷◌, ◌++◌, length, take, get_or, sym, ap, ◌∙◌}
use Rattle.std.proofs.lemmas.List.{take_more}
use Rattle.std.proofs.lemmas.List.Elements.{filter_map-append}
use Rattle.spec_model.specs.declared.tree.Item.{Item}
use Rattle.spec_rules.specs.Names.{name_of_item, names_of_pattern}
use Rattle.spec_rules.proofs.names.names_of_pattern.Goals as goal

-- the names of one item more
one_more : (items : List Item) (i : ℕ) (item : Item) → i < length items → item ≡ get_or items i item
    → names_of_pattern (take (i + 1) items) ≡ names_of_pattern (take i items) ++ names_of_pattern (item ∷ [])
one_more items i item within is =
    ap names_of_pattern (take_more items i item within ∙ ap (λ x. take i items ++ x ∷ []) (sym is)) ∙ filter_map-append name_of_item (take i items) (item ∷ [])

pub loop-item-preserved : goal.loop-item-preserved
loop-item-preserved c =
    let item = c.item-item.result in
    c.in_ok-push_item.ensures ∙ ap (λ names. names ++ names_of_pattern (item ∷ [])) c.loop-item.invariant
    ∙ sym (one_more c.args.items.now c.loop-item.item-index item c.loop-item-test.true c.item-item.is)
