-- How nodes are made for what a specification has to do.
use Rattle.std.specs.Prelude.{◌≡◌, ℕ, ◌+◌, ◌≤◌, false, List, [], ◌∷◌, ◌++◌, length, map, slice_get, Option, Some, None}
use Rattle.std.specs.List.{AllByRecursion, concat}
use Rattle.spec_model.specs.declared.config.Task.{Task}
use Rattle.spec_model.specs.declared.tree.Block.{Block}
use Rattle.spec_model.specs.declared.tree.Case.{Case, out-Case}
use Rattle.spec_model.specs.declared.tree.Decl.{Decl}
use Rattle.spec_model.specs.declared.tree.Kind.TheOpen.{Recv, If, Either, Lookup}
use Rattle.spec_model.specs.declared.tree.Spec.{Spec}
use Rattle.spec_model.specs.declared.tree.Stmt.{Stmt}
use Rattle.spec_model.specs.Config.{StmtKind, begin, kind_of, stmts_of}
use Rattle.spec_rules.specs.declared.names.Known.{Known}
use Rattle.spec_rules.specs.declared.names.Meaning.{Meaning}
use Rattle.spec_rules.specs.declared.names.Meaning.TheVariants.{Local}
use Rattle.spec_rules.specs.Bad.{has_bad_length, is_mistyped, places_in}
use Rattle.spec_rules.specs.Names.{names_declared, names_of_pattern, uses_unknown}
use Rattle.spec_rules.specs.Place.{Inner, Place, StandsIn, blocks_of, bound_behind}
use Rattle.itree_data.specs.declared.node.Node.{Node}
use Rattle.itree_data.specs.declared.node.Node.TheVariants as nodes
use Rattle.itree_data.specs.declared.node.TakeCase.{TakeCase}
use Rattle.itree_data.specs.declared.nodes.Nodes.{Nodes}
use Rattle.itree_data.specs.Marks.{ArmsLead, CasesLead, DoesKind, GoesDown, IsMarked, LeadsTo, Mark, Marked, PlacesFall, entered, opening_todo}
use Rattle.itree_data.specs.Scope.{bound_by}
use Rattle.itree_data.specs.Slots.{ReadsBelow}

-- A node was put behind the others, where so many slots are in scope.
pub record Put (old new : Nodes) (node : Node) (count first : ℕ) : Type 0 where
  pub nodes : new.nodes.items ≡ old.nodes.items ++ node ∷ []
  pub scopes : new.scopes.items ≡ old.scopes.items ++ count ∷ []
  pub number : first ≡ length old.nodes.items

abbrev pub with_marks : Nodes → List (Option Mark) → Marked
with_marks made marks = record { nodes = made.nodes.items; scopes = made.scopes.items; marks = marks }

-- The numbers ascend, from the first bound on and to below the second.
abbrev pub Ascends : ℕ → List ℕ → ℕ → Type 0
Ascends least [] most = least ≤ most
Ascends least (place ∷ places) most = (least ≤ place) × Ascends (place + 1) places most

-- the places of the statements in a statement, in the order of the text
abbrev pub places_inside : StmtKind → List ℕ
places_inside (Recv chan cases other block) = concat (map (λ case. places_in (out-Case case).block) cases) ++ places_in block
places_inside (If cond holds fails) = places_in holds ++ places_in fails
places_inside (Either arms) = concat (map places_in arms)
places_inside (Lookup table key name found missing) = places_in found ++ places_in missing
places_inside _ = []

abbrev pub places_of : List Stmt → List ℕ
places_of [] = []
places_of (stmt ∷ stmts) = (stmt.at ∷ places_inside (kind_of stmt)) ++ places_of stmts

-- The nodes made so far stand for their marks, of statements from this place on.
pub record Made (decls : List Decl) (made : Nodes) (marks : List (Option Mark)) (least : ℕ) : Type 0 where
  pub marked : IsMarked decls (with_marks made marks)
  pub falls : PlacesFall marks least
  pub zero_node : slice_get made.nodes.items 0 ≡ Some (nodes.Back 0)
  pub zero_scope : slice_get made.scopes.items 0 ≡ Some 0
  pub down : (number : ℕ) (node : Node) → slice_get made.nodes.items number ≡ Some node → GoesDown number node
  pub reads : (number count : ℕ) (node : Node) → slice_get made.nodes.items number ≡ Some node → slice_get made.scopes.items number ≡ Some count → ReadsBelow count node

-- Nodes were added, and one of them, or one from before, leads to this.
pub record Grown (decls : List Decl) (new : Nodes) (marks : List (Option Mark)) (least : ℕ) (scope : List Known) (todo : List Task) (first : ℕ) : Type 0 where
  pub more : List (Option Mark)
  pub made : Made decls new (marks ++ more) least
  pub leads : LeadsTo (marks ++ more) scope todo first

-- Nodes are made for statements, up to a next node: whatever that stands for, the first one stands for the statements and for it.
abbrev pub MakesStmts : List Decl → List Known → List Stmt → ℕ → Nodes → Nodes → ℕ → Type 0
MakesStmts decls scope stmts next old new first =
    (marks : List (Option Mark)) (tail : List Task) (least most : ℕ) → Ascends least (places_of stmts) most → Made decls old marks most
    → LeadsTo marks (scope ++ bound_by stmts) tail next → Grown decls new marks least scope (map begin stmts ++ tail) first

-- The same for a block that is entered with more names: it ends, and then what the next node stands for is done with the first locals.
abbrev pub MakesBlock : List Decl → List Known → List Known → Block → ℕ → Nodes → Nodes → ℕ → Type 0
MakesBlock decls scope names block next old new first =
    (marks : List (Option Mark)) (rest : List Task) (least most : ℕ) → Ascends least (places_in block) most → Made decls old marks most
    → LeadsTo marks scope rest next → Grown decls new marks least (scope ++ names) (entered scope block rest) first

-- The same for one statement.
abbrev pub MakesStmt : List Decl → List Known → Stmt → ℕ → Nodes → Nodes → ℕ → Type 0
MakesStmt decls scope stmt next old new first =
    (marks : List (Option Mark)) (rest : List Task) (least most : ℕ) → Ascends least (stmt.at ∷ places_inside (kind_of stmt)) most → Made decls old marks most
    → LeadsTo marks (scope ++ bound_behind (kind_of stmt)) rest next → Grown decls new marks least scope (begin stmt ∷ rest) first

-- The node of a statement was put: it does the statement, whatever the next node stands for.
pub record PutsKind (decls : List Decl) (scope : List Known) (kind : StmtKind) (next : ℕ) (old new : Nodes) (first : ℕ) : Type 0 where
  pub node : Node
  pub put : Put old new node (length scope) first
  pub does : (m : Marked) (rest : List Task) → LeadsTo m.marks (scope ++ bound_behind kind) rest next → DoesKind decls m scope rest kind node

-- Nodes are made for the cases of a `recv`; the second locals are those with the connection.
pub record GrownCases (decls : List Decl) (new : Nodes) (marks : List (Option Mark)) (least : ℕ) (scope named : List Known) (rest : List Task) (cases : List Case) (taken : List TakeCase) : Type 0 where
  pub more : List (Option Mark)
  pub made : Made decls new (marks ++ more) least
  pub lead : CasesLead (marks ++ more) scope named rest cases taken

abbrev pub MakesCases : List Decl → List Known → List Known → List Case → ℕ → Nodes → Nodes → List TakeCase → Type 0
MakesCases decls scope named cases next old new taken =
    (marks : List (Option Mark)) (rest : List Task) (least most : ℕ) → Ascends least (concat (map (λ case. places_in (out-Case case).block) cases)) most → Made decls old marks most
    → LeadsTo marks scope rest next → GrownCases decls new marks least scope named rest cases taken

pub record GrownArms (decls : List Decl) (new : Nodes) (marks : List (Option Mark)) (least : ℕ) (scope : List Known) (rest : List Task) (arms : List Block) (targets : List ℕ) : Type 0 where
  pub more : List (Option Mark)
  pub made : Made decls new (marks ++ more) least
  pub lead : ArmsLead (marks ++ more) scope rest arms targets

abbrev pub MakesArms : List Decl → List Known → List Block → ℕ → Nodes → Nodes → List ℕ → Type 0
MakesArms decls scope arms next old new targets =
    (marks : List (Option Mark)) (rest : List Task) (least most : ℕ) → Ascends least (concat (map places_in arms)) most → Made decls old marks most
    → LeadsTo marks scope rest next → GrownArms decls new marks least scope rest arms targets

abbrev pub IsLocal : Meaning → Type 0
IsLocal (Local type) = Unit {0}
IsLocal _ = ⊥

-- What an accepted specification promises of a statement, by the names that are known there.
pub record IsSound (known : List Known) (kind : StmtKind) : Type 0 where
  pub named : uses_unknown known kind ≡ false
  pub typed : is_mistyped known kind ≡ false
  pub long : has_bad_length known kind ≡ false

-- It promises it of all statements among these, and in them, where these locals are in scope.
pub record AreSound (decls : List Decl) (scope : List Known) (stmts : List Stmt) : Type 0 where
  pub behind : List Stmt
  pub each : (place : Place) → StandsIn (names_declared decls ++ scope) stmts behind place → IsSound place.known (kind_of place.stmt)
  pub locals : AllByRecursion (λ (known : Known). IsLocal known.meaning) scope

-- It promises it of a statement and of those in it.
pub record IsAllSound (decls : List Decl) (scope : List Known) (kind : StmtKind) : Type 0 where
  pub here : IsSound (names_declared decls ++ scope) kind
  pub inside : (number : ℕ) (inner : Inner) → slice_get (blocks_of kind) number ≡ Some inner → AreSound decls (scope ++ inner.bound) (stmts_of inner.block)
  pub locals : AllByRecursion (λ (known : Known). IsLocal known.meaning) scope

-- It promises it of the cases of a `recv`, and of the arms of an `either`.
abbrev pub AreCasesSound : List Decl → List Known → List Case → Type 0
AreCasesSound decls named cases = AllByRecursion (λ case. AreSound decls (named ++ names_of_pattern (out-Case case).items) (stmts_of (out-Case case).block)) cases

abbrev pub AreArmsSound : List Decl → List Known → List Block → Type 0
AreArmsSound decls scope arms = AllByRecursion (λ arm. AreSound decls scope (stmts_of arm)) arms

-- Node 0 alone, where no locals are in scope.
pub record IsBegun (made : Nodes) : Type 0 where
  pub node : made.nodes.items ≡ nodes.Back 0 ∷ []
  pub scope : made.scopes.items ≡ 0 ∷ []

-- Nodes are made for the statements of `start`; node 0 is the first one where there are none.
abbrev pub MakesStart : List Decl → Option Block → Nodes → Nodes → ℕ → Type 0
MakesStart decls None old new root = (new ≡ old) × (root ≡ 0)
MakesStart decls (Some start) old new root = MakesStmts decls [] (stmts_of start) 0 old new root

abbrev pub IsStartSound : List Decl → Option Block → Type 0
IsStartSound decls None = Unit {0}
IsStartSound decls (Some start) = AreSound decls [] (stmts_of start)

-- The places of all statements ascend.
pub record AreInOrder (places : List ℕ) : Type 0 where
  pub most : ℕ
  pub up : Ascends 0 places most

-- These nodes stand for what a specification has to do, each statement at a node of its own.
pub record AreNodesOf (spec : Spec) (made : Nodes) (root : ℕ) : Type 0 where
  pub marks : List (Option Mark)
  pub marked : IsMarked spec.decls (with_marks made marks)
  pub falls : PlacesFall marks 0
  pub first : ℕ
  pub back : slice_get made.nodes.items 0 ≡ Some (nodes.Back first)
  pub zero_scope : slice_get made.scopes.items 0 ≡ Some 0
  pub down : (number : ℕ) (node : Node) → slice_get made.nodes.items number ≡ Some node → GoesDown number node
  pub reads : (number count : ℕ) (node : Node) → slice_get made.nodes.items number ≡ Some node → slice_get made.scopes.items number ≡ Some count → ReadsBelow count node
  pub body_leads : LeadsTo marks [] (entered [] spec.body []) first
  pub root_leads : LeadsTo marks [] (opening_todo spec.start) root
