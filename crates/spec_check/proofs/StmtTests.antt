-- Tests of a statement, put together from tests of its parts.
use Rattle.std.proofs.Common.{◌≡◌, ℕ, ◌||◌, Bool, true, false, not, List, [], ◌∷◌, ◌++◌, map, refl, ap, ◌∙◌}
use Rattle.std.proofs.lemmas.List.Folds.{list_any-append}
use Rattle.std.specs.List.{list_any, filter_map, flat_map}
use Rattle.spec_model.specs.declared.tree.Block.{Block}
use Rattle.spec_model.specs.declared.tree.Case.{Case, out-Case}
use Rattle.spec_model.specs.declared.tree.Chan.{Chan}
use Rattle.spec_model.specs.declared.tree.Expr.{Expr}
use Rattle.spec_model.specs.declared.tree.Expr.TheVariants as written
use Rattle.spec_model.specs.declared.tree.Item.{Item}
use Rattle.spec_model.specs.declared.tree.Item.TheVariants.{Lit, Hole}
use Rattle.spec_model.specs.Config.{StmtKind}
use Rattle.spec_rules.specs.declared.names.Known.{Known}
use Rattle.spec_rules.specs.declared.names.ValueType.TheVariants.{Text}
use Rattle.spec_rules.specs.Bad.{is_long, text_in, text_of_item, texts_of, texts_of_patterns}
use Rattle.spec_rules.specs.Names.{binds_known, is_known, local, name_in, names_of_chan, target_of, uses_unknown, values_of}
use Rattle.spec_rules.specs.Place.{Inner, without_names}
use Rattle.spec_check.specs.Parts.{case_binds_again, has_long_items, is_long_item, is_long_value, is_unknown_value}
use Rattle.spec_check.specs.Stmts.{blocks_of_cases}

unknown_values : (known : List Known) (values : List Expr)
    → list_any (λ name. not (is_known known name)) (filter_map name_in values) ≡ list_any (is_unknown_value known) values
unknown_values known [] = refl
unknown_values known (written.Text text ∷ values) = unknown_values known values
unknown_values known (written.Num number ∷ values) = unknown_values known values
unknown_values known (written.Name name ∷ values) = ap (λ found. not (is_known known name) || found) (unknown_values known values)

-- A statement uses a name that is not known as what it names, or as a value.
pub uses_unknown_parts : (known : List Known) (kind : StmtKind)
    → uses_unknown known kind ≡ (list_any (λ name. not (is_known known name)) (target_of kind) || list_any (is_unknown_value known) (values_of kind))
uses_unknown_parts known kind =
    list_any-append (λ name. not (is_known known name)) (target_of kind) (filter_map name_in (values_of kind))
    ∙ ap (λ found. list_any (λ name. not (is_known known name)) (target_of kind) || found) (unknown_values known (values_of kind))

long_values : (values : List Expr) → list_any is_long (filter_map text_in values) ≡ list_any is_long_value values
long_values [] = refl
long_values (written.Text text ∷ values) = ap (λ found. is_long text || found) (long_values values)
long_values (written.Num number ∷ values) = long_values values
long_values (written.Name name ∷ values) = long_values values

long_items : (items : List Item) → list_any is_long (filter_map text_of_item items) ≡ list_any is_long_item items
long_items [] = refl
long_items (Lit text ∷ items) = ap (λ found. is_long text || found) (long_items items)
long_items (Hole name kind ∷ items) = long_items items

pub long_cases : (cases : List Case) → list_any is_long (flat_map (λ case. filter_map text_of_item (out-Case case).items) cases) ≡ list_any has_long_items cases
long_cases [] = refl
long_cases (case ∷ cases) =
    list_any-append is_long (filter_map text_of_item (out-Case case).items) (flat_map (λ case. filter_map text_of_item (out-Case case).items) cases)
    ∙ ap (λ found. found || list_any is_long (flat_map (λ case. filter_map text_of_item (out-Case case).items) cases)) (long_items (out-Case case).items)
    ∙ ap (λ found. has_long_items case || found) (long_cases cases)

-- A statement has a long text as a value, or in a pattern.
pub texts_parts : (kind : StmtKind) → list_any is_long (texts_of kind) ≡ (list_any is_long_value (values_of kind) || list_any is_long (texts_of_patterns kind))
texts_parts kind =
    list_any-append is_long (filter_map text_in (values_of kind)) (texts_of_patterns kind)
    ∙ ap (λ found. found || list_any is_long (texts_of_patterns kind)) (long_values (values_of kind))

cases_bind : (known : List Known) (chan : Chan) (cases : List Case)
    → list_any (λ (inner : Inner). binds_known known inner.bound) (blocks_of_cases chan cases) ≡ list_any (case_binds_again known chan) cases
cases_bind known chan [] = refl
cases_bind known chan (case ∷ cases) = ap (λ found. case_binds_again known chan case || found) (cases_bind known chan cases)

or_false : (b : Bool) → (b || false) ≡ b
or_false true = refl
or_false false = refl

-- The blocks of a `recv` are those of its cases and of `other`.
pub recv_binds : (known : List Known) (chan : Chan) (cases : List Case) (other : List ℕ) (block : Block)
    → (list_any (λ (inner : Inner). binds_known known inner.bound) (blocks_of_cases chan cases ++ record { bound = names_of_chan chan ++ local other Text ∷ []; block = block } ∷ []) || false)
    ≡ (list_any (case_binds_again known chan) cases || binds_known known (names_of_chan chan ++ local other Text ∷ []))
recv_binds known chan cases other block =
    or_false _
    ∙ list_any-append (λ (inner : Inner). binds_known known inner.bound) (blocks_of_cases chan cases) (record { bound = names_of_chan chan ++ local other Text ∷ []; block = block } ∷ [])
    ∙ ap (λ found. found || (binds_known known (names_of_chan chan ++ local other Text ∷ []) || false)) (cases_bind known chan cases)
    ∙ ap (λ found. list_any (case_binds_again known chan) cases || found) (or_false (binds_known known (names_of_chan chan ++ local other Text ∷ [])))

-- Arms bind no names.
pub arms_bind_none : (known : List Known) (arms : List Block) → list_any (λ (inner : Inner). binds_known known inner.bound) (map without_names arms) ≡ false
arms_bind_none known [] = refl
arms_bind_none known (arm ∷ arms) = arms_bind_none known arms
