-- Sites are found part by part, and end within messages.
use Rattle.std.proofs.Common.{◌≡◌, ℕ, ◌+◌, ◌<◌, List, [], ◌∷◌, length, drop, get_or, Option, Some, None, refl, sym, ◌∙◌, ap, arith}
use Rattle.std.specs.Prelude.{option_and_then}
use Rattle.std.proofs.lemmas.List.{at_drop_more}
use Rattle.std.proofs.lemmas.Bool.Decides.{nat_tests}
use Rattle.spec_model.specs.declared.tree.Expr.{Expr}
use Rattle.spec_model.specs.declared.tree.Expr.TheVariants as written
use Rattle.script_gen.specs.declared.plan.KnownPick.{KnownPick}
use Rattle.script_gen.specs.declared.plan.TheConstants.{MAX_SITE_END}
use Rattle.script_gen.specs.Plan.{pick_len, site_at, site_behind}

-- no site ends past the greatest end
pub none_far : (start len : ℕ) → MAX_SITE_END < start + len → site_at start len ≡ None
none_far start len far = grind (arith, nat_tests)

none_far_named : (start : ℕ) (len : Option ℕ) → MAX_SITE_END < start → option_and_then (site_at start) len ≡ None
none_far_named start None far = refl
none_far_named start (Some len) far = none_far start len (omega arith)

-- Behind more bytes than a message has there is no site.
pub none_behind : (picks : List KnownPick) (start : ℕ) (parts : List Expr) → MAX_SITE_END < start → site_behind picks start parts ≡ None
none_behind picks start [] far = refl
none_behind picks start (written.Text text ∷ parts) far = none_behind picks (start + length text) parts (omega arith)
none_behind picks start (written.Name name ∷ parts) far = none_far_named start (pick_len picks name) far
none_behind picks start (written.Num number ∷ parts) far = refl

pub none_behind_text : (picks : List KnownPick) (start : ℕ) (parts : List Expr) (index : ℕ) (part : Expr) (text : List ℕ) → index < length parts
    → part ≡ get_or parts index part → part ≡ written.Text text → MAX_SITE_END < start + length text → site_behind picks start (drop index parts) ≡ None
none_behind_text picks start parts index part text within is is_text far =
    at_drop_more (site_behind picks start) parts index part within
    ∙ ap (λ part. site_behind picks start (part ∷ drop (index + 1) parts)) (sym is ∙ is_text)
    ∙ none_behind picks (start + length text) (drop (index + 1) parts) far
