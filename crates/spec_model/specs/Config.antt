-- Configurations, and how they change.
use Rattle.std.specs.Prelude.{ℕ, if◌then◌else◌, List, [], ◌∷◌, ◌++◌, length, map, replicate, slice_index_or, slice_set, filter_map, Option, Some, None, option_map, bytes_eq}
use Rattle.spec_model.specs.declared.config.Value.{Value}
use Rattle.spec_model.specs.declared.config.Value.TheVariants.{Text, Number}
use Rattle.spec_model.specs.declared.config.Binding.{Binding}
use Rattle.spec_model.specs.declared.config.Pair.{Pair}
use Rattle.spec_model.specs.declared.config.Table.{Table}
use Rattle.spec_model.specs.declared.config.Task.{Task}
use Rattle.spec_model.specs.declared.config.Task.TheVariants.{Do, Forget}
use Rattle.spec_model.specs.declared.config.Config.{Config}
use Rattle.spec_model.specs.declared.tree.Block.{Block, out-Block}
use Rattle.spec_model.specs.declared.tree.Case.{Case}
use Rattle.spec_model.specs.declared.tree.Decl.{Decl}
use Rattle.spec_model.specs.declared.tree.First.{First}
use Rattle.spec_model.specs.declared.tree.First.TheVariants as firsts
use Rattle.spec_model.specs.declared.tree.Kind.{Kind, out-Kind}
use Rattle.spec_model.specs.declared.tree.Kind.TheOpen.{Kind-F}
use Rattle.spec_model.specs.declared.tree.Spec.{Spec}
use Rattle.spec_model.specs.declared.tree.Stmt.{Stmt}

-- what a statement does
abbrev pub StmtKind : Type 0
StmtKind = Kind-F Kind Block Case Stmt

abbrev pub kind_of : Stmt → StmtKind
kind_of stmt = out-Kind stmt.kind

abbrev pub stmts_of : Block → List Stmt
stmts_of block = (out-Block block).stmts

-- a statement that is not begun
abbrev pub begin : Stmt → Task
begin stmt = Do stmt 0

-- A block is entered: its statements are to be done, with these names bound, and at its end the names bound since
-- are forgotten. The rest is done behind it.
abbrev pub after_entering : Config → List Task → Block → List Binding → Config
after_entering c rest block bound = record c {
  todo = map begin (stmts_of block) ++ Forget (length c.locals) ∷ rest;
  locals = c.locals ++ bound;
}

-- the lists with one item more at the end of the list of that number
abbrev pub with_item_at : {A : Type 0} → List (List A) → ℕ → A → List (List A)
with_item_at lists k item = slice_set lists k (slice_index_or lists k [] ++ item ∷ [])

-- the bindings with that name bound to that value
abbrev pub with_value : List Binding → List ℕ → Value → List Binding
with_value bindings name value = map (λ (b : Binding). if bytes_eq b.name name then record b { value = value } else b) bindings

-- the value that a declared name begins with, where it is a register
abbrev pub first_value : First → Option Value
first_value (firsts.Text text) = Some (Text text)
first_value (firsts.Num number) = Some (Number number)
first_value (firsts.Conn conn) = Some (Number conn)
first_value firsts.Table = None

abbrev pub register_of : Decl → Option Binding
register_of decl = option_map (λ value. record { name = decl.name; value = value }) (first_value decl.first)

-- a table begins with no pairs
abbrev pub first_pairs : First → Option (List Pair)
first_pairs firsts.Table = Some []
first_pairs _ = None

abbrev pub table_of : Decl → Option Table
table_of decl = option_map (λ pairs. record { name = decl.name; pairs = pairs }) (first_pairs decl.first)

-- the configuration in which nothing is done, and nothing is to be done before the loop
abbrev pub idle_config : Spec → Config
idle_config spec = record {
  todo = [];
  registers = filter_map register_of spec.decls;
  tables = filter_map table_of spec.decls;
  locals = [];
  taken = replicate spec.shape.conns [];
  sent = replicate spec.shape.conns [];
}

abbrev pub after_start : Config → Option Block → Config
after_start c None = c
after_start c (Some block) = after_entering c [] block []

-- The configuration from which the server begins: the statements of `start`, and then the loop, are to be done.
abbrev pub first_config : Spec → Config
first_config spec = after_start (idle_config spec) spec.start
