-- How specifications are written down as trees: a word of their text, one function. Places are all 0 here, since what a
-- specification means does not hang on them.
use Prim.Native.String.{String}
use Rattle.std.specs.Prelude.{ℕ, List, [], ◌∷◌, ◌++◌, map, flat_map, Option, Some, None, codes}
use Rattle.spec_model.specs.declared.event.Framing.{Framing}
use Rattle.spec_model.specs.declared.tree.Alphabet.{Alphabet}
use Rattle.spec_model.specs.declared.tree.Block.{Block, roll-Block}
use Rattle.spec_model.specs.declared.tree.Case.{Case, roll-Case}
use Rattle.spec_model.specs.declared.tree.Chan.TheVariants as chans
use Rattle.spec_model.specs.declared.tree.Cond.{Cond}
use Rattle.spec_model.specs.declared.tree.Decl.{Decl}
use Rattle.spec_model.specs.declared.tree.Expr.{Expr}
use Rattle.spec_model.specs.declared.tree.Expr.TheVariants as exprs
use Rattle.spec_model.specs.declared.tree.First.{First}
use Rattle.spec_model.specs.declared.tree.First.TheVariants as firsts
use Rattle.spec_model.specs.declared.tree.HoleKind.TheVariants as holes
use Rattle.spec_model.specs.declared.tree.Item.{Item}
use Rattle.spec_model.specs.declared.tree.Item.TheVariants as items
use Rattle.spec_model.specs.declared.tree.Kind.{Kind}
use Rattle.spec_model.specs.declared.tree.Kind.TheVariants as kinds
use Rattle.spec_model.specs.declared.tree.Op.TheVariants as ops
use Rattle.spec_model.specs.declared.tree.Sign.TheVariants as signs
use Rattle.spec_model.specs.declared.tree.Spec.{Spec}
use Rattle.spec_model.specs.declared.tree.Stmt.{Stmt}
use Rattle.spec_model.specs.Message.{line_feed}

-- lines of a text, each ended by LF
abbrev pub lines : List String → List ℕ
lines texts = flat_map (λ text. codes text ++ line_feed ∷ []) texts

-- values: "TEXT", NUMBER, NAME
abbrev pub text : String → Expr
text value = exprs.Text (codes value)

abbrev pub number : ℕ → Expr
number value = exprs.Num value

abbrev pub name : String → Expr
name value = exprs.Name (codes value)

-- conditions: LEFT == RIGHT, LEFT != RIGHT, LEFT < RIGHT
abbrev pub same : Expr → Expr → Cond
same left right = record { left = left; op = ops.Same; right = right }

abbrev pub other : Expr → Expr → Cond
other left right = record { left = left; op = ops.Other; right = right }

abbrev pub less : Expr → Expr → Cond
less left right = record { left = left; op = ops.Less; right = right }

-- items of a pattern: "TEXT", NAME:word, NAME:num, NAME:rest
abbrev pub literal : String → Item
literal value = items.Lit (codes value)

abbrev pub word : String → Item
word hole = items.Hole (codes hole) holes.Word

abbrev pub num : String → Item
num hole = items.Hole (codes hole) holes.Num

abbrev pub rest : String → Item
rest hole = items.Hole (codes hole) holes.Rest

-- { STATEMENTS }
abbrev pub block : List Stmt → Block
block stmts = roll-Block (record { at = 0; stmts = stmts })

abbrev pub statement : Kind → Stmt
statement kind = record { at = 0; kind = kind }

-- case ITEMS { STATEMENTS }
abbrev pub case_ : List Item → List Stmt → Case
case_ pattern stmts = roll-Case (record { items = pattern; block = block stmts })

-- recv CONN { CASES other MESSAGE { STATEMENTS } }
abbrev pub recv : String → List Case → String → List Stmt → Stmt
recv conn cases message stmts = statement (kinds.Recv (chans.Bind (codes conn)) cases (codes message) (block stmts))

-- recv from CONN { CASES other MESSAGE { STATEMENTS } }
abbrev pub recv_from : Expr → List Case → String → List Stmt → Stmt
recv_from conn cases message stmts = statement (kinds.Recv (chans.From conn) cases (codes message) (block stmts))

-- send CONN PARTS
abbrev pub send : Expr → List Expr → Stmt
send conn parts = statement (kinds.Send conn parts)

-- pick NAME LENGTH ALPHABET
abbrev pub pick : String → ℕ → Alphabet → Stmt
pick bound len alphabet = statement (kinds.Pick (codes bound) len alphabet)

-- set NAME VALUE
abbrev pub set : String → Expr → Stmt
set register value = statement (kinds.Assign (codes register) value None)

-- set NAME LEFT + RIGHT
abbrev pub set_sum : String → Expr → Expr → Stmt
set_sum register left right = statement (kinds.Assign (codes register) left (Some (signs.Plus, right)))

-- set NAME LEFT - RIGHT
abbrev pub set_difference : String → Expr → Expr → Stmt
set_difference register left right = statement (kinds.Assign (codes register) left (Some (signs.Minus, right)))

-- if CONDITION { STATEMENTS } else { STATEMENTS }
abbrev pub if_ : Cond → List Stmt → List Stmt → Stmt
if_ cond holds fails = statement (kinds.If cond (block holds) (block fails))

-- either { STATEMENTS } or { STATEMENTS }, and further arms
abbrev pub either : List (List Stmt) → Stmt
either arms = statement (kinds.Either (map block arms))

-- where CONDITION
abbrev pub where_ : Cond → Stmt
where_ cond = statement (kinds.Assume cond)

-- put TABLE KEY VALUE
abbrev pub put : String → Expr → Expr → Stmt
put table key value = statement (kinds.Put (codes table) key value)

-- get TABLE KEY NAME { STATEMENTS } else { STATEMENTS }
abbrev pub get : String → Expr → String → List Stmt → List Stmt → Stmt
get table key bound found missing =
    statement (kinds.Lookup (codes table) key (codes bound) (block found) (block missing))

-- del TABLE KEY
abbrev pub del : String → Expr → Stmt
del table key = statement (kinds.Delete (codes table) key)

-- declarations: text NAME = "TEXT", num NAME = NUMBER, conn NAME = NUMBER, table NAME
abbrev pub declared : String → First → Decl
declared register first = record { at = 0; name = codes register; first = first }

abbrev pub text_register : String → List ℕ → Decl
text_register register value = declared register (firsts.Text value)

abbrev pub num_register : String → ℕ → Decl
num_register register value = declared register (firsts.Num value)

abbrev pub conn_register : String → ℕ → Decl
conn_register register value = declared register (firsts.Conn value)

abbrev pub table : String → Decl
table declared_name = declared declared_name firsts.Table

-- start { STATEMENTS }
abbrev pub start : List Stmt → Option Block
start stmts = Some (block stmts)

-- no start
abbrev pub no_start : Option Block
no_start = None

-- frame FRAMING LIMIT conns CONNS DECLARATIONS START loop { STATEMENTS }
abbrev pub server : Framing → ℕ → ℕ → List Decl → Option Block → List Stmt → Spec
server framing limit conns decls begin stmts = record {
  shape = record { framing = framing; limit = limit; conns = conns };
  frame_at = 0;
  conns_at = 0;
  decls = decls;
  start = begin;
  body = block stmts;
}
