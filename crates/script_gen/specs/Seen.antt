-- What the generator sees of the statements of a specification. Definition: own.
use Rattle.std.specs.Prelude.{ℕ, List, [], ◌∷◌, ◌++◌, map, flat_map, Option, Some, None}
use Rattle.spec_model.specs.declared.tree.Block.{Block, fold-Block}
use Rattle.spec_model.specs.declared.tree.Expr.{Expr}
use Rattle.spec_model.specs.declared.tree.HoleKind.TheVariants.{Rest}
use Rattle.spec_model.specs.declared.tree.Item.{Item}
use Rattle.spec_model.specs.declared.tree.Item.TheVariants.{Hole}
use Rattle.spec_model.specs.declared.tree.Kind.TheOpen.{Kind-F, Block-F, Case-F, Recv, Send, Pick, If, Either, Lookup}
use Rattle.spec_model.specs.declared.tree.Spec.{Spec}
use Rattle.script_gen.specs.declared.plan.KnownPick.{KnownPick}

-- the template of `other`, which every message fits
abbrev pub template_of_other : List ℕ → List Item
template_of_other name = Hole name Rest ∷ []

-- A `recv` asks for messages by its templates, in the order of its cases. A send sends its parts, where these picks are known.
pub data Seen : Type 0 where
  asks : List (List Item) → Seen
  sends : List KnownPick → List Expr → Seen

-- what is seen in statements, by the picks that are known before them
abbrev pub Sight : Type 0
Sight = List KnownPick → List Seen

-- a statement: what is seen of it and in it, and the picks that are known behind it, up to the end of its block
pub record StmtSeen : Type 0 where
  pub sight : Sight
  pub picks : List KnownPick

-- a case: its pattern, and what is seen in its block
pub record CaseSeen : Type 0 where
  pub template : List Item
  pub sight : Sight

abbrev pub picks_nothing : Sight → StmtSeen
picks_nothing sight = record { sight = sight; picks = [] }

abbrev pub kind_seen : Kind-F StmtSeen Sight CaseSeen StmtSeen → StmtSeen
kind_seen (Recv chan cases other rest) =
    picks_nothing (λ picks.
    asks (map (λ (case : CaseSeen). case.template) cases ++ template_of_other other ∷ [])
    ∷ (flat_map (λ (case : CaseSeen). case.sight picks) cases ++ rest picks))
kind_seen (Send conn parts) = picks_nothing (λ picks. sends picks parts ∷ [])
kind_seen (Pick name len alphabet) = record { sight = λ picks. []; picks = record { name = name; len = len } ∷ [] }
kind_seen (If cond holds fails) = picks_nothing (λ picks. holds picks ++ fails picks)
kind_seen (Either arms) = picks_nothing (λ picks. flat_map (λ (arm : Sight). arm picks) arms)
kind_seen (Lookup table key name found missing) = picks_nothing (λ picks. found picks ++ missing picks)
kind_seen _ = picks_nothing (λ picks. [])

-- one statement behind the other
abbrev pub stmts_seen : List StmtSeen → Sight
stmts_seen [] picks = []
stmts_seen (stmt ∷ stmts) picks = stmt.sight picks ++ stmts_seen stmts (picks ++ stmt.picks)

abbrev pub block_seen : Block-F StmtSeen Sight CaseSeen StmtSeen → Sight
block_seen block = stmts_seen block.stmts

abbrev pub case_seen : Case-F StmtSeen Sight CaseSeen StmtSeen → CaseSeen
case_seen case = record { template = case.items; sight = case.block }

-- what is seen in a block, in the order of the text
abbrev pub seen_in : Block → Sight
seen_in block = fold-Block StmtSeen Sight CaseSeen StmtSeen kind_seen block_seen case_seen (λ stmt. stmt.kind) block

abbrev pub seen_in_start : Option Block → List Seen
seen_in_start None = []
seen_in_start (Some start) = seen_in start []

-- what is seen in a specification, in the order of the text
abbrev pub seen_of : Spec → List Seen
seen_of spec = seen_in_start spec.start ++ seen_in spec.body []
