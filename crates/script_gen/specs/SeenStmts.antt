-- What the generator sees, statement by statement, which private functions cite alone.
use Rattle.std.specs.Prelude.{ℕ, List, [], ◌∷◌, ◌++◌, flat_map, map}
use Rattle.spec_model.specs.declared.tree.Block.{Block}
use Rattle.spec_model.specs.declared.tree.Case.{Case, out-Case}
use Rattle.spec_model.specs.declared.tree.Item.{Item}
use Rattle.spec_model.specs.declared.tree.Kind.TheOpen.{Recv, Send, Pick, If, Either, Lookup}
use Rattle.spec_model.specs.declared.tree.Stmt.{Stmt}
use Rattle.spec_model.specs.Config.{StmtKind, kind_of}
use Rattle.script_gen.specs.declared.plan.KnownPick.{KnownPick}
use Rattle.script_gen.specs.Seen.{Sight, StmtSeen, asks, picks_nothing, seen_in, sends, stmts_seen, template_of_other}

abbrev pub seen_in_cases : List Case → Sight
seen_in_cases cases picks = flat_map (λ case. seen_in (out-Case case).block picks) cases

abbrev pub seen_in_arms : List Block → Sight
seen_in_arms arms picks = flat_map (λ arm. seen_in arm picks) arms

-- the templates of a `recv`
abbrev pub templates_of_recv : List Case → List ℕ → List (List Item)
templates_of_recv cases other = map (λ case. (out-Case case).items) cases ++ template_of_other other ∷ []

-- a statement by what it does: what is seen of it and in it, and the picks that are known behind it
abbrev pub seen_by : StmtKind → StmtSeen
seen_by (Recv chan cases other rest) = picks_nothing (λ picks. asks (templates_of_recv cases other) ∷ (seen_in_cases cases picks ++ seen_in rest picks))
seen_by (Send conn parts) = picks_nothing (λ picks. sends picks parts ∷ [])
seen_by (Pick name len alphabet) = record { sight = λ picks. []; picks = record { name = name; len = len } ∷ [] }
seen_by (If cond holds fails) = picks_nothing (λ picks. seen_in holds picks ++ seen_in fails picks)
seen_by (Either arms) = picks_nothing (seen_in_arms arms)
seen_by (Lookup table key name found missing) = picks_nothing (λ picks. seen_in found picks ++ seen_in missing picks)
seen_by _ = picks_nothing (λ picks. [])

abbrev pub seen_at : Stmt → Sight
seen_at stmt = (seen_by (kind_of stmt)).sight

abbrev pub picks_behind : Stmt → List KnownPick
picks_behind stmt = (seen_by (kind_of stmt)).picks

-- what is seen in statements, one behind the other
abbrev pub seen_in_stmts : List Stmt → Sight
seen_in_stmts stmts = stmts_seen (map (λ stmt. seen_by (kind_of stmt)) stmts)
