-- How nodes stand for what a specification has to do.
use Rattle.std.specs.Prelude.{◌≡◌, ℕ, ◌<◌, ◌≤◌, List, [], ◌∷◌, ◌++◌, length, map, take, filter, slice_get, Option, Some, None}
use Rattle.std.specs.List.{AllByRecursion}
use Rattle.spec_model.specs.declared.config.Task.{Task}
use Rattle.spec_model.specs.declared.config.Task.TheVariants.{Do, Forget}
use Rattle.spec_model.specs.declared.tree.Block.{Block}
use Rattle.spec_model.specs.declared.tree.Case.{Case, out-Case}
use Rattle.spec_model.specs.declared.tree.Chan.{Chan}
use Rattle.spec_model.specs.declared.tree.Chan.TheVariants as chans
use Rattle.spec_model.specs.declared.tree.Cond.{Cond}
use Rattle.spec_model.specs.declared.tree.Decl.{Decl}
use Rattle.spec_model.specs.declared.tree.Expr.{Expr}
use Rattle.spec_model.specs.declared.tree.Kind.TheOpen.{Recv, Send, Pick, Assign, If, Either, Assume, Put, Lookup, Delete}
use Rattle.spec_model.specs.declared.tree.Sign.{Sign}
use Rattle.spec_model.specs.declared.tree.Stmt.{Stmt}
use Rattle.spec_model.specs.Config.{StmtKind, begin, kind_of, stmts_of}
use Rattle.spec_rules.specs.declared.names.Known.{Known}
use Rattle.spec_rules.specs.declared.names.ValueType.TheVariants.{Text}
use Rattle.spec_rules.specs.Bad.{declares_register, declares_table}
use Rattle.spec_rules.specs.Names.{local, names_of_chan, names_of_pattern}
use Rattle.itree_data.specs.declared.node.Change.TheVariants as changes
use Rattle.itree_data.specs.declared.node.Check.TheVariants as checks
use Rattle.itree_data.specs.declared.node.Node.{Node}
use Rattle.itree_data.specs.declared.node.Node.TheVariants as nodes
use Rattle.itree_data.specs.declared.node.TakeCase.{TakeCase}
use Rattle.itree_data.specs.declared.node.Val.{Val}
use Rattle.itree_data.specs.Fields.{Fields}
use Rattle.itree_data.specs.Laws.{IsTreeOf}
use Rattle.itree_data.specs.Resolve.{all_resolved, register_named, resolved, resolved_conn, slotted, table_named, tail_resolved}
use Rattle.itree_data.specs.Slots.{BindsBelow, ReadsBelow}

-- What a node stands for: the locals in scope there, and what is to do from there on.
pub record Mark : Type 0 where
  pub scope : List Known
  pub todo : List Task

-- Nodes, for each the number of slots in scope, and its mark; the change of a look-up has none.
pub record Marked : Type 0 where
  pub nodes : List Node
  pub scopes : List ℕ
  pub marks : List (Option Mark)

-- What stands first to do behind the ends of blocks.
abbrev pub ready : List Known → List Task → Mark
ready scope (Forget count ∷ rest) = ready (take count scope) rest
ready scope todo = record { scope = scope; todo = todo }

-- what is to do in a block that is entered with these locals, and behind it
abbrev pub entered : List Known → Block → List Task → List Task
entered scope block rest = map begin (stmts_of block) ++ Forget (length scope) ∷ rest

-- A node stands for this, to be done with these locals.
pub record LeadsTo (marks : List (Option Mark)) (scope : List Known) (todo : List Task) (node : ℕ) : Type 0 where
  pub marked : slice_get marks node ≡ Some (Some (ready scope todo))

abbrev pub ChanIs : List Decl → List Known → Chan → Option Val → Option ℕ → Type 0
ChanIs decls scope (chans.Bind name) from conn = (from ≡ None) × (conn ≡ Some (length scope))
ChanIs decls scope (chans.From named) from conn = (val : Val) × (resolved_conn decls scope named ≡ Some val) × (from ≡ Some val) × (conn ≡ None)

-- The cases lead to their blocks; the first locals are those at the `recv`, the others those with the connection.
abbrev pub CasesLead : List (Option Mark) → List Known → List Known → List Task → List Case → List TakeCase → Type 0
CasesLead marks scope named rest [] taken = taken ≡ []
CasesLead marks scope named rest (case ∷ cases) taken =
    (first : TakeCase) × (later : List TakeCase) × (taken ≡ first ∷ later)
    × (first.items ≡ slotted (length named) (out-Case case).items)
    × LeadsTo marks (named ++ names_of_pattern (out-Case case).items) (entered scope (out-Case case).block rest) first.next
    × CasesLead marks scope named rest cases later

abbrev pub ArmsLead : List (Option Mark) → List Known → List Task → List Block → List ℕ → Type 0
ArmsLead marks scope rest [] targets = targets ≡ []
ArmsLead marks scope rest (arm ∷ arms) targets =
    (first : ℕ) × (later : List ℕ) × (targets ≡ first ∷ later) × LeadsTo marks scope (entered scope arm rest) first × ArmsLead marks scope rest arms later

module _ (decls : List Decl) (m : Marked) where
  pub record DoesRecv (scope : List Known) (rest : List Task) (chan : Chan) (cases : List Case) (other : List ℕ) (block : Block) (node : Node) : Type 0 where
    pub from : Option Val
    pub conn : Option ℕ
    pub taken : List TakeCase
    pub next : ℕ
    pub is : node ≡ nodes.Take from conn taken (length (scope ++ names_of_chan chan)) next
    pub chan_is : ChanIs decls scope chan from conn
    pub cases_lead : CasesLead m.marks scope (scope ++ names_of_chan chan) rest cases taken
    pub other_leads : LeadsTo m.marks (scope ++ names_of_chan chan ++ local other Text ∷ []) (entered scope block rest) next

  pub record DoesSend (scope : List Known) (rest : List Task) (named : Expr) (parts : List Expr) (node : Node) : Type 0 where
    pub conn : Val
    pub vals : List Val
    pub next : ℕ
    pub is : node ≡ nodes.Send conn vals next
    pub conn_is : resolved_conn decls scope named ≡ Some conn
    pub vals_are : all_resolved decls scope parts ≡ Some vals
    pub leads : LeadsTo m.marks scope rest next

  pub record DoesAssign (scope : List Known) (rest : List Task) (name : List ℕ) (left : Expr) (tail : Option (Sign × Expr)) (node : Node) : Type 0 where
    pub register : ℕ
    pub val : Val
    pub tail_val : Option (Sign × Val)
    pub next : ℕ
    pub is : node ≡ nodes.Store (changes.Assign register val tail_val) next
    pub register_is : register_named decls name ≡ Some register
    pub val_is : resolved decls scope left ≡ Some val
    pub tail_is : tail_resolved decls scope tail ≡ Some tail_val
    pub leads : LeadsTo m.marks scope rest next

  -- A condition is asked, which leads to these nodes.
  pub record AsksCond (scope : List Known) (cond : Cond) (holds : ℕ) (fails : Option ℕ) (node : Node) : Type 0 where
    pub left : Val
    pub right : Val
    pub is : node ≡ nodes.Branch (checks.Cond left cond.op right) holds fails
    pub left_is : resolved decls scope cond.left ≡ Some left
    pub right_is : resolved decls scope cond.right ≡ Some right

  -- A key is looked up in a table, which leads to the change for a pair that is found, and to another node.
  pub record LooksUp (scope : List Known) (name : List ℕ) (key : Expr) (table : ℕ) (found : Node) (missing : ℕ) (node : Node) : Type 0 where
    pub key_val : Val
    pub holds : ℕ
    pub is : node ≡ nodes.Branch (checks.Scan table key_val) holds (Some missing)
    pub table_is : table_named decls name ≡ Some table
    pub key_is : resolved decls scope key ≡ Some key_val
    pub found_is : slice_get m.nodes holds ≡ Some found

  -- A node does a statement, and leads to what is to do behind it.
  abbrev pub DoesKind : List Known → List Task → StmtKind → Node → Type 0
  DoesKind scope rest (Recv chan cases other block) node = DoesRecv scope rest chan cases other block node
  DoesKind scope rest (Send named parts) node = DoesSend scope rest named parts node
  DoesKind scope rest (Pick name len alphabet) node =
      (next : ℕ) × (node ≡ nodes.Choose (length scope) len alphabet next) × LeadsTo m.marks (scope ++ local name Text ∷ []) rest next
  DoesKind scope rest (Assign name left tail) node = DoesAssign scope rest name left tail node
  DoesKind scope rest (If cond holds fails) node =
      (on_true : ℕ) × (on_false : ℕ) × AsksCond scope cond on_true (Some on_false) node
      × LeadsTo m.marks scope (entered scope holds rest) on_true × LeadsTo m.marks scope (entered scope fails rest) on_false
  DoesKind scope rest (Either arms) node = (targets : List ℕ) × (node ≡ nodes.Fork targets) × ArmsLead m.marks scope rest arms targets
  DoesKind scope rest (Assume cond) node = (next : ℕ) × AsksCond scope cond next None node × LeadsTo m.marks scope rest next
  DoesKind scope rest (Put name key value) node =
      (table : ℕ) × (key_val : Val) × (val : Val) × (missing : ℕ) × (next : ℕ)
      × LooksUp scope name key table (nodes.Store (changes.Renew table val) next) missing node
      × (slice_get m.nodes missing ≡ Some (nodes.Store (changes.Add table key_val val) next))
      × (resolved decls scope key ≡ Some key_val) × (resolved decls scope value ≡ Some val) × LeadsTo m.marks scope rest next
  DoesKind scope rest (Lookup name key bound found missing) node =
      (table : ℕ) × (first : ℕ) × (otherwise : ℕ)
      × LooksUp scope name key table (nodes.Store (changes.Bind (length scope) table) first) otherwise node
      × LeadsTo m.marks (scope ++ local bound Text ∷ []) (entered scope found rest) first × LeadsTo m.marks scope (entered scope missing rest) otherwise
  DoesKind scope rest (Delete name key) node =
      (table : ℕ) × (next : ℕ) × LooksUp scope name key table (nodes.Store (changes.Remove table) next) next node × LeadsTo m.marks scope rest next

  -- A node does what is to do first: a statement that is not begun.
  abbrev pub DoesTasks : List Known → List Task → Node → Type 0
  DoesTasks scope (Do stmt compared ∷ rest) node = (compared ≡ 0) × DoesKind scope rest (kind_of stmt) node
  DoesTasks scope _ node = ⊥

  -- The node of that number stands for its mark.
  pub record Stands (number : ℕ) (mark : Mark) : Type 0 where
    pub node : Node
    pub there : slice_get m.nodes number ≡ Some node
    pub scope : slice_get m.scopes number ≡ Some (length mark.scope)
    pub does : DoesTasks mark.scope mark.todo node

  -- Each node stands for its mark, and node 0 for nothing to do.
  pub record IsMarked : Type 0 where
    pub scopes_long : length m.scopes ≡ length m.nodes
    pub marks_long : length m.marks ≡ length m.nodes
    pub zero : slice_get m.marks 0 ≡ Some (Some (record { scope = []; todo = [] }))
    pub each : (number : ℕ) (mark : Mark) → 0 < number → slice_get m.marks number ≡ Some (Some mark) → Stands number mark

-- the marked nodes of a tree
abbrev pub marked_of : Fields → List (Option Mark) → Marked
marked_of tree marks = record { nodes = tree.nodes; scopes = tree.scopes; marks = marks }

-- The places in the text of the statements for which the marks stand fall from each node to the next, to this place at least.
pub record PlacesFall (marks : List (Option Mark)) (least : ℕ) : Type 0 where
  pub falls : (number other : ℕ) (mark other_mark : Mark) (stmt other_stmt : Stmt) (rest other_rest : List Task) → number < other
      → slice_get marks number ≡ Some (Some mark) → slice_get marks other ≡ Some (Some other_mark)
      → mark.todo ≡ Do stmt 0 ∷ rest → other_mark.todo ≡ Do other_stmt 0 ∷ other_rest → other_stmt.at < stmt.at
  pub above : (number : ℕ) (mark : Mark) (stmt : Stmt) (rest : List Task) → slice_get marks number ≡ Some (Some mark) → mark.todo ≡ Do stmt 0 ∷ rest → least ≤ stmt.at

-- A node goes on at nodes of lower numbers, but for node 0, which alone leads back to the loop.
abbrev pub GoesDown : ℕ → Node → Type 0
GoesDown number (nodes.Take from conn cases other next) = AllByRecursion (λ (case : TakeCase). case.next < number) cases × (next < number)
GoesDown number (nodes.Send conn parts next) = next < number
GoesDown number (nodes.Choose slot len alphabet next) = next < number
GoesDown number (nodes.Branch test holds None) = holds < number
GoesDown number (nodes.Branch test holds (Some fails)) = (holds < number) × (fails < number)
GoesDown number (nodes.Fork arms) = AllByRecursion (λ arm. arm < number) arms
GoesDown number (nodes.Store what next) = next < number
GoesDown number (nodes.Back next) = number ≡ 0

-- what is to do at the opening
abbrev pub opening_todo : Option Block → List Task
opening_todo None = []
opening_todo (Some start) = entered [] start []

-- The nodes of a tree stand for what its specification has to do, each statement at a node of its own. The slots that a node reads are
-- in scope there, and all slots are below their number.
pub record IsCompiled (tree : Fields) : Type 0 where
  pub shape : tree.shape ≡ tree.spec.shape
  pub registers : tree.registers ≡ map (λ (decl : Decl). decl.first) (filter declares_register tree.spec.decls)
  pub tables : tree.tables ≡ length (filter declares_table tree.spec.decls)
  pub marks : List (Option Mark)
  pub marked : IsMarked tree.spec.decls (marked_of tree marks)
  pub falls : PlacesFall marks 0
  pub first : ℕ
  pub back : slice_get tree.nodes 0 ≡ Some (nodes.Back first)
  pub zero_scope : slice_get tree.scopes 0 ≡ Some 0
  pub down : (number : ℕ) (node : Node) → slice_get tree.nodes number ≡ Some node → GoesDown number node
  pub reads : (number count : ℕ) (node : Node) → slice_get tree.nodes number ≡ Some node → slice_get tree.scopes number ≡ Some count → ReadsBelow count node
  pub in_scope : AllByRecursion (λ count. count ≤ tree.slots) tree.scopes
  pub bound : AllByRecursion (BindsBelow tree.slots) tree.nodes
  pub body_leads : LeadsTo marks [] (entered [] tree.spec.body []) first
  pub root_leads : LeadsTo marks [] (opening_todo tree.spec.start) tree.root

-- These are the fields of a tree: compiled of their specification, whose runs, state and places they keep.
pub record IsTree (tree : Fields) : Type 0 where
  pub compiled : IsCompiled tree
  pub laws : IsTreeOf tree
