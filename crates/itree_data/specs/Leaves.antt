-- The last nodes of statements that test.
use Rattle.std.specs.Prelude.{◌≡◌, ℕ, List, ◌++◌, length, Option, Some, None, IsSome}
use Rattle.std.specs.List.{AllByRecursion}
use Rattle.spec_model.specs.declared.tree.Chan.{Chan}
use Rattle.spec_model.specs.declared.tree.Chan.TheVariants as chans
use Rattle.spec_model.specs.declared.tree.Cond.{Cond}
use Rattle.spec_model.specs.declared.tree.Decl.{Decl}
use Rattle.spec_model.specs.declared.tree.Expr.{Expr}
use Rattle.spec_rules.specs.declared.names.Known.{Known}
use Rattle.spec_rules.specs.Names.{names_of_chan}
use Rattle.itree_data.specs.declared.node.Change.TheVariants as changes
use Rattle.itree_data.specs.declared.node.Check.TheVariants as checks
use Rattle.itree_data.specs.declared.node.Node.TheVariants as nodes
use Rattle.itree_data.specs.declared.node.TakeCase.{TakeCase}
use Rattle.itree_data.specs.declared.node.Val.{Val}
use Rattle.itree_data.specs.declared.nodes.Nodes.{Nodes}
use Rattle.itree_data.specs.Making.{Put}
use Rattle.itree_data.specs.Marks.{ChanIs}
use Rattle.itree_data.specs.Resolve.{resolved, resolved_conn, table_named}

-- Each of these stands for a value.
abbrev pub AreNamed : List Decl → List Known → List Expr → Type 0
AreNamed decls scope es = AllByRecursion (λ e. IsSome (resolved decls scope e)) es

-- A node that asks a condition was put.
pub record PutsCond (decls : List Decl) (scope : List Known) (cond : Cond) (holds : ℕ) (fails : Option ℕ) (old new : Nodes) (first : ℕ) : Type 0 where
  pub left : Val
  pub right : Val
  pub left_is : resolved decls scope cond.left ≡ Some left
  pub right_is : resolved decls scope cond.right ≡ Some right
  pub put : Put old new (nodes.Branch (checks.Cond left cond.op right) holds fails) (length scope) first

-- The nodes of a `put` were put: the changes for a missing and for a found pair, and the look-up.
pub record PutsPairIn (decls : List Decl) (scope : List Known) (name : List ℕ) (key value : Expr) (next : ℕ) (old new : Nodes) (first : ℕ) : Type 0 where
  pub table : ℕ
  pub key_val : Val
  pub val : Val
  pub missing : ℕ
  pub holds : ℕ
  pub middle : Nodes
  pub last : Nodes
  pub table_is : table_named decls name ≡ Some table
  pub key_is : resolved decls scope key ≡ Some key_val
  pub val_is : resolved decls scope value ≡ Some val
  pub put_add : Put old middle (nodes.Store (changes.Add table key_val val) next) (length scope) missing
  pub put_renew : Put middle last (nodes.Store (changes.Renew table val) next) (length scope) holds
  pub put : Put last new (nodes.Branch (checks.Scan table key_val) holds (Some missing)) (length scope) first

-- The nodes of a `del` were put: the change for a found pair, and the look-up.
pub record PutsPairAway (decls : List Decl) (scope : List Known) (name : List ℕ) (key : Expr) (next : ℕ) (old new : Nodes) (first : ℕ) : Type 0 where
  pub table : ℕ
  pub key_val : Val
  pub holds : ℕ
  pub last : Nodes
  pub table_is : table_named decls name ≡ Some table
  pub key_is : resolved decls scope key ≡ Some key_val
  pub put_remove : Put old last (nodes.Store (changes.Remove table) next) (length scope) holds
  pub put : Put last new (nodes.Branch (checks.Scan table key_val) holds (Some next)) (length scope) first

-- The last nodes of a `get` were put: the change for a found pair, and the look-up.
pub record PutsFinding (decls : List Decl) (scope : List Known) (name : List ℕ) (key : Expr) (found missing : ℕ) (old new : Nodes) (first : ℕ) : Type 0 where
  pub table : ℕ
  pub key_val : Val
  pub holds : ℕ
  pub last : Nodes
  pub table_is : table_named decls name ≡ Some table
  pub key_is : resolved decls scope key ≡ Some key_val
  pub put_bind : Put old last (nodes.Store (changes.Bind (length scope) table) found) (length scope) holds
  pub put : Put last new (nodes.Branch (checks.Scan table key_val) holds (Some missing)) (length scope) first

-- A name is that of a table, and a key stands for a value.
pub record IsTableKey (decls : List Decl) (scope : List Known) (name : List ℕ) (key : Expr) : Type 0 where
  pub has_table : IsSome (table_named decls name)
  pub has_value : IsSome (resolved decls scope key)

abbrev pub IsChanNamed : List Decl → List Known → Chan → Type 0
IsChanNamed decls scope (chans.Bind name) = Unit {0}
IsChanNamed decls scope (chans.From named) = IsSome (resolved_conn decls scope named)

-- the connection from which a `recv` takes
abbrev pub IsChanFrom : List Decl → List Known → Chan → Option Val → Type 0
IsChanFrom decls scope (chans.Bind name) from = from ≡ None
IsChanFrom decls scope (chans.From named) from = resolved_conn decls scope named ≡ from

-- the slot that a `recv` binds to the connection
abbrev pub chan_slot : List Known → Chan → Option ℕ
chan_slot scope (chans.Bind name) = Some (length scope)
chan_slot scope (chans.From named) = None

-- The node of a `recv` was put.
pub record PutsTaking (decls : List Decl) (scope : List Known) (chan : Chan) (taken : List TakeCase) (next : ℕ) (old new : Nodes) (first : ℕ) : Type 0 where
  pub from : Option Val
  pub conn : Option ℕ
  pub chan_is : ChanIs decls scope chan from conn
  pub put : Put old new (nodes.Take from conn taken (length (scope ++ names_of_chan chan)) next) (length scope) first
