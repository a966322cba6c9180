-- The parts of a template, item by item.
use Rattle.std.proofs.Common.{◌≡◌, ℕ, ◌+◌, ◌<◌, ◌≤◌, List, ◌∷◌, ◌++◌, length, drop, get_or, refl, sym, ◌∙◌, ap}
use Rattle.std.proofs.lemmas.List.{append-nil, at_drop_more, drop_all}
use Rattle.rand_chacha.specs.ChaCha.{ChaCha}
use Rattle.spec_model.specs.declared.tree.Item.{Item}
use Rattle.exchange_text.specs.declared.action.Part.{Part}
use Rattle.script_gen.specs.declared.plan.Plan.{Plan}
use Rattle.script_gen.specs.Parts.{part_of, parts_of, within}

-- the parts of a template, one drawn and those of what is left
pub parts_more : (plan : Plan) (earlier : ℕ) (template : List Item) (index : ℕ) (item : Item) (words behind : ChaCha) (part : Part) → index < length template
    → item ≡ get_or template index item → part ≡ (part_of plan earlier item words).0 → behind ≡ (part_of plan earlier item words).1
    → parts_of plan earlier (drop index template) words
    ≡ (part ∷ (parts_of plan earlier (drop (index + 1) template) behind).0, (parts_of plan earlier (drop (index + 1) template) behind).1)
unfolding parts_of
parts_more plan earlier template index item words behind part within is is_part is_behind =
    at_drop_more (λ items. parts_of plan earlier items words) template index item within
    ∙ ap (λ item. parts_of plan earlier (item ∷ drop (index + 1) template) words) (sym is)
    ∙ rw (is_part, is_behind) refl

pub none_left : (plan : Plan) (earlier : ℕ) (template : List Item) (index room : ℕ) (words : ChaCha) (parts : List Part) → length template ≤ index
    → (parts ++ within room (parts_of plan earlier (drop index template) words).0 ≡ parts) × ((parts_of plan earlier (drop index template) words).1 ≡ words)
unfolding parts_of
none_left plan earlier template index room words parts all =
    let none = drop_all index template all in
    rw none (append-nil parts, refl)
