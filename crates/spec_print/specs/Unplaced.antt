-- Trees without their places.
use Rattle.std.specs.Prelude.{List, [], ◌∷◌, Option, Some, None}
use Rattle.spec_model.specs.declared.tree.Block.{Block, Block'}
use Rattle.spec_model.specs.declared.tree.Case.{Case, Case'}
use Rattle.spec_model.specs.declared.tree.Decl.{Decl}
use Rattle.spec_model.specs.declared.tree.Kind.{Kind}
use Rattle.spec_model.specs.declared.tree.Kind.TheVariants.{Recv', Send, Pick, Assign, If, Either', Assume, Put, Lookup, Delete}
use Rattle.spec_model.specs.declared.tree.Kind.TheBlock.{Row_of-Block, end_of-Block, more_of-Block, Row_of-Case, end_of-Case, more_of-Case, Row_of-Stmt, end_of-Stmt, more_of-Stmt}
use Rattle.spec_model.specs.declared.tree.Spec.{Spec}

abbrev mutual
  pub block : Block → Block
  block (Block' place shape row) = Block' 0 shape (stmts row)

  pub stmts : {m : _} → Row_of-Stmt m → Row_of-Stmt m
  stmts end_of-Stmt = end_of-Stmt
  stmts (more_of-Stmt place k row) = more_of-Stmt 0 (kind k) (stmts row)

  pub cases : {m : _} → Row_of-Case m → Row_of-Case m
  cases end_of-Case = end_of-Case
  cases (more_of-Case c row) = more_of-Case (case_ c) (cases row)

  pub case_ : Case → Case
  case_ (Case' pattern b) = Case' pattern (block b)

  pub blocks : {m : _} → Row_of-Block m → Row_of-Block m
  blocks end_of-Block = end_of-Block
  blocks (more_of-Block b row) = more_of-Block (block b) (blocks row)

  pub kind : Kind → Kind
  kind (Recv' chan shape row other rest) = Recv' chan shape (cases row) other (block rest)
  kind (If c holds fails) = If c (block holds) (block fails)
  kind (Either' shape row) = Either' shape (blocks row)
  kind (Lookup table key name found missing) = Lookup table key name (block found) (block missing)
  kind (Send conn parts) = Send conn parts
  kind (Pick name len alphabet) = Pick name len alphabet
  kind (Assign name left tail) = Assign name left tail
  kind (Assume c) = Assume c
  kind (Put table key value) = Put table key value
  kind (Delete table key) = Delete table key

abbrev pub decls : List Decl → List Decl
decls [] = []
decls (d ∷ ds) = record { at = 0; name = d.name; first = d.first } ∷ decls ds

abbrev pub start : Option Block → Option Block
start None = None
start (Some b) = Some (block b)

-- the tree with each place 0: two trees without their places are equal where they are the same but for their places
abbrev pub unplaced : Spec → Spec
unplaced spec = record {
  shape = spec.shape;
  frame_at = 0;
  conns_at = 0;
  decls = decls spec.decls;
  start = start spec.start;
  body = block spec.body;
}
