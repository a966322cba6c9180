-- What a script is made from: the templates of a specification, and the sites at which it sends what it picked. Definition: own.
use Rattle.std.specs.Prelude.{ℕ, ◌+◌, List, [], ◌∷◌, length, flat_map, find, nat_le, if◌then◌else◌, bytes_eq, Option, Some, None, option_map, option_and_then, option_to_list}
use Rattle.spec_model.specs.declared.tree.Expr.{Expr}
use Rattle.spec_model.specs.declared.tree.Expr.TheVariants as written
use Rattle.spec_model.specs.declared.tree.Item.{Item}
use Rattle.spec_model.specs.declared.tree.Spec.{Spec}
use Rattle.script_gen.specs.declared.plan.KnownPick.{KnownPick}
use Rattle.script_gen.specs.declared.plan.Plan.{Plan}
use Rattle.script_gen.specs.declared.plan.Site.{Site}
use Rattle.script_gen.specs.declared.plan.TheConstants.{MAX_SITE_END}
use Rattle.script_gen.specs.Seen.{Seen, asks, seen_of, sends}

-- the length of the pick of this name, if one is known
abbrev pub pick_len : List KnownPick → List ℕ → Option ℕ
pick_len picks name = option_map (λ (pick : KnownPick). pick.len) (find (λ (pick : KnownPick). bytes_eq pick.name name) picks)

-- a site that ends where a message can have bytes
abbrev pub site_at : ℕ → ℕ → Option Site
site_at start len = if nat_le (start + len) MAX_SITE_END then Some (record { start = start; len = len }) else None

-- The site of a message's parts that stand behind so many bytes: of the first one that is no written text, where a pick bound its name.
abbrev pub site_behind : List KnownPick → ℕ → List Expr → Option Site
site_behind picks start (written.Text text ∷ parts) = site_behind picks (start + length text) parts
site_behind picks start (written.Name name ∷ parts) = option_and_then (site_at start) (pick_len picks name)
site_behind picks start _ = None

-- the templates of a `recv`
abbrev pub templates_at : Seen → List (List Item)
templates_at (asks templates) = templates
templates_at (sends picks parts) = []

-- the site of a send, if it has one
abbrev pub sites_at : Seen → List Site
sites_at (asks templates) = []
sites_at (sends picks parts) = option_to_list (site_behind picks 0 parts)

-- the templates and the sites of a specification, in the order of the text
abbrev pub templates_of : Spec → List (List Item)
templates_of spec = flat_map templates_at (seen_of spec)

abbrev pub sites_of : Spec → List Site
sites_of spec = flat_map sites_at (seen_of spec)

abbrev pub plan_of : Spec → ℕ → Plan
plan_of spec conns = record { shape = spec.shape; conns = conns; templates = templates_of spec; sites = sites_of spec }
