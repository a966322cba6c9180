-- What is bad in a specification, and where.
use Rattle.std.specs.Prelude.{◌≡◌, ℕ, ◌+◌, ◌<◌, Bool, true, false, not, ◌⊎◌, ◌&&◌, ◌||◌, ◌==◌, nat_le, nat_lt, List, [], ◌∷◌, ◌++◌, length, filter_map, flat_map, take, slice_get, count_by, Option, Some, None}
use Rattle.std.specs.List.{concat, list_any}
use Rattle.spec_model.specs.declared.tree.Block.{Block, fold-Block, out-Block}
use Rattle.spec_model.specs.declared.tree.Case.{out-Case}
use Rattle.spec_model.specs.declared.tree.Decl.{Decl}
use Rattle.spec_model.specs.declared.tree.Expr.{Expr}
use Rattle.spec_model.specs.declared.tree.Expr.TheVariants as written
use Rattle.spec_model.specs.declared.tree.First.{First}
use Rattle.spec_model.specs.declared.tree.First.TheVariants as firsts
use Rattle.spec_model.specs.declared.tree.Item.{Item}
use Rattle.spec_model.specs.declared.tree.Item.TheVariants.{Lit, Hole}
use Rattle.spec_model.specs.declared.tree.Kind.TheOpen.{Kind-F, Recv, Send, Pick, If, Either, Lookup}
use Rattle.spec_model.specs.declared.tree.Spec.{Spec}
use Rattle.spec_model.specs.declared.tree.Stmt.{Stmt}
use Rattle.spec_model.specs.Config.{StmtKind, kind_of, stmts_of}
use Rattle.spec_rules.specs.declared.fault.Fault.{Fault}
use Rattle.spec_rules.specs.declared.fault.Fault.TheVariants as faults
use Rattle.spec_rules.specs.declared.fault.Limit.{Limit}
use Rattle.spec_rules.specs.declared.fault.Limit.TheVariants as limits
use Rattle.spec_rules.specs.declared.names.Known.{Known}
use Rattle.spec_rules.specs.Names.{binds_known, conns_of, is_known, is_well_typed, names_declared, uses_unknown, values_of}
use Rattle.spec_rules.specs.Path.{PathPasses, is_recv}
use Rattle.spec_rules.specs.Place.{Inner, Place, StandsInLoop, StandsInStart, blocks_of, bound_behind}

-- whether a number is neither less nor greater than allowed
abbrev pub is_within : ℕ → ℕ → ℕ → Bool
is_within least greatest number = nat_le least number && nat_le number greatest

-- A statement passes a test, of the names that are known there and of what it does.
pub record HasStmt (spec : Spec) (test : List Known → StmtKind → Bool) (at : ℕ) : Type 0 where
  pub place : Place
  pub stands : StandsInStart spec place ⊎ StandsInLoop spec place
  pub passes : test place.known (kind_of place.stmt) ≡ true
  pub here : place.stmt.at ≡ at

-- A declaration passes a test, of the declarations before it and of itself.
pub record HasDecl (spec : Spec) (test : List Decl → Decl → Bool) (at : ℕ) : Type 0 where
  pub number : ℕ
  pub decl : Decl
  pub stands : slice_get spec.decls number ≡ Some decl
  pub passes : test (take number spec.decls) decl ≡ true
  pub here : decl.at ≡ at

abbrev pub is_declared_again : List Decl → Decl → Bool
is_declared_again before decl = is_known (names_declared before) decl.name

-- Whether a statement binds a name that is known already, or two of one name: the names of each of its blocks are bound
-- together, and so are those behind it.
abbrev pub binds_again : List Known → StmtKind → Bool
binds_again known kind = list_any (λ (inner : Inner). binds_known known inner.bound) (blocks_of kind) || binds_known known (bound_behind kind)

abbrev pub is_mistyped : List Known → StmtKind → Bool
is_mistyped known kind = not (is_well_typed known kind)

abbrev pub begins_with_recv : List Stmt → Bool
begins_with_recv [] = false
begins_with_recv (stmt ∷ stmts) = is_recv (kind_of stmt)

-- the place of the first statement of a block, or the block's where it is empty
abbrev pub first_place : ℕ → List Stmt → ℕ
first_place at [] = at
first_place at (stmt ∷ stmts) = stmt.at

-- a `recv` stands in `start`
pub record TakesInStart (spec : Spec) (at : ℕ) : Type 0 where
  pub place : Place
  pub stands : StandsInStart spec place
  pub takes : is_recv (kind_of place.stmt) ≡ true
  pub here : place.stmt.at ≡ at

abbrev pub has_bad_length : List Known → StmtKind → Bool
has_bad_length known (Pick name len alphabet) = not (is_within 6 32 len)
has_bad_length known _ = false

-- the most statements that compare between two takes
abbrev pub most_compares : ℕ
most_compares = 15

-- a path through these statements passes too many that compare
pub record PassesTooMany (stmts : List Stmt) : Type 0 where
  pub count : ℕ
  pub too_many : most_compares < count
  pub path : PathPasses stmts count

-- From `start` a path passes too many statements that compare.
pub record StartComparesTooMuch (spec : Spec) (at : ℕ) : Type 0 where
  pub start : Block
  pub is : spec.start ≡ Some start
  pub passes : PassesTooMany (stmts_of start)
  pub here : (out-Block start).at ≡ at

-- From a `recv` a path does, through one of its cases and what is behind it.
pub record RecvComparesTooMuch (spec : Spec) (at : ℕ) : Type 0 where
  pub place : Place
  pub stands : StandsInStart spec place ⊎ StandsInLoop spec place
  pub takes : is_recv (kind_of place.stmt) ≡ true
  pub number : ℕ
  pub case : Inner
  pub is : slice_get (blocks_of (kind_of place.stmt)) number ≡ Some case
  pub passes : PassesTooMany (stmts_of case.block ++ place.behind)
  pub here : place.stmt.at ≡ at

-- whether a written value is a number that is no connection
abbrev pub is_past_conns : ℕ → Expr → Bool
is_past_conns conns (written.Num number) = nat_le conns number
is_past_conns conns _ = false

abbrev pub declares_past_conns : ℕ → List Decl → Decl → Bool
declares_past_conns conns before decl = of_first decl.first
  where
    of_first : First → Bool
    of_first (firsts.Conn conn) = nat_le conns conn
    of_first _ = false

abbrev pub names_past_conns : ℕ → List Known → StmtKind → Bool
names_past_conns conns known kind = list_any (is_past_conns conns) (conns_of known kind)

abbrev pub is_table : First → Bool
is_table firsts.Table = true
is_table _ = false

abbrev pub declares_table : Decl → Bool
declares_table decl = is_table decl.first

abbrev pub declares_register : Decl → Bool
declares_register decl = not (declares_table decl)

-- the declaration of the register, or of the table, behind so many others
abbrev pub is_behind : (Decl → Bool) → ℕ → List Decl → Decl → Bool
is_behind test count before decl = test decl && count_by test before == count

-- the places of a statement's own statements, in the order of the text
abbrev pub places_in_kind : Kind-F (List ℕ) (List ℕ) (List ℕ) (List ℕ) → List ℕ
places_in_kind (Recv chan cases other block) = concat cases ++ block
places_in_kind (If cond holds fails) = holds ++ fails
places_in_kind (Either arms) = concat arms
places_in_kind (Lookup table key name found missing) = found ++ missing
places_in_kind _ = []

-- the places of all statements in a block, in the order of the text
abbrev pub places_in : Block → List ℕ
places_in block =
    fold-Block (List ℕ) (List ℕ) (List ℕ) (List ℕ) places_in_kind (λ block. concat block.stmts) (λ case. case.block) (λ stmt. stmt.at ∷ stmt.kind) block

abbrev pub places_in_start : Option Block → List ℕ
places_in_start None = []
places_in_start (Some start) = places_in start

-- the places of all statements of a specification, in the order of the text
abbrev pub stmt_places : Spec → List ℕ
stmt_places spec = places_in_start spec.start ++ places_in spec.body

abbrev pub has_too_many_cases : List Known → StmtKind → Bool
has_too_many_cases known (Recv chan cases other block) = nat_lt 64 (length cases + 1)
has_too_many_cases known _ = false

abbrev pub has_too_many_items : List Known → StmtKind → Bool
has_too_many_items known (Recv chan cases other block) = list_any (λ case. nat_lt 16 (length (out-Case case).items)) cases
has_too_many_items known _ = false

abbrev pub has_too_many_parts : List Known → StmtKind → Bool
has_too_many_parts known (Send conn parts) = nat_lt 16 (length parts)
has_too_many_parts known _ = false

abbrev pub has_too_many_arms : List Known → StmtKind → Bool
has_too_many_arms known (Either arms) = nat_lt 16 (length arms)
has_too_many_arms known _ = false

abbrev pub text_of_item : Item → Option (List ℕ)
text_of_item (Lit text) = Some text
text_of_item (Hole name kind) = None

abbrev pub text_in : Expr → Option (List ℕ)
text_in (written.Text text) = Some text
text_in _ = None

abbrev pub texts_of_patterns : StmtKind → List (List ℕ)
texts_of_patterns (Recv chan cases other block) = flat_map (λ case. filter_map text_of_item (out-Case case).items) cases
texts_of_patterns _ = []

-- the written texts of a statement
abbrev pub texts_of : StmtKind → List (List ℕ)
texts_of kind = filter_map text_in (values_of kind) ++ texts_of_patterns kind

abbrev pub is_long : List ℕ → Bool
is_long text = nat_lt 4096 (length text)

abbrev pub has_long_text : List Known → StmtKind → Bool
has_long_text known kind = list_any is_long (texts_of kind)

abbrev pub declares_long_text : List Decl → Decl → Bool
declares_long_text before decl = of_first decl.first
  where
    of_first : First → Bool
    of_first (firsts.Text text) = is_long text
    of_first _ = false

-- A limit is passed at this place.
abbrev pub IsPast : Spec → Limit → ℕ → Type 0
IsPast spec limits.Message at = (is_within 1 4096 spec.shape.limit ≡ false) × (spec.frame_at ≡ at)
IsPast spec limits.Conns at = (is_within 1 16 spec.shape.conns ≡ false) × (spec.conns_at ≡ at)
IsPast spec limits.WrittenConn at = HasDecl spec (declares_past_conns spec.shape.conns) at ⊎ HasStmt spec (names_past_conns spec.shape.conns) at
IsPast spec limits.Registers at = HasDecl spec (is_behind declares_register 64) at
IsPast spec limits.Tables at = HasDecl spec (is_behind declares_table 8) at
IsPast spec limits.Stmts at = slice_get (stmt_places spec) 1024 ≡ Some at
IsPast spec limits.Cases at = HasStmt spec has_too_many_cases at
IsPast spec limits.Items at = HasStmt spec has_too_many_items at
IsPast spec limits.Parts at = HasStmt spec has_too_many_parts at
IsPast spec limits.Arms at = HasStmt spec has_too_many_arms at
IsPast spec limits.Text at = HasDecl spec declares_long_text at ⊎ HasStmt spec has_long_text at

-- This is bad in a specification, at this place.
abbrev pub IsBad : Spec → Fault → ℕ → Type 0
IsBad spec faults.UnknownName at = HasStmt spec uses_unknown at
IsBad spec faults.DoubleName at = HasDecl spec is_declared_again at ⊎ HasStmt spec binds_again at
IsBad spec faults.WrongType at = HasStmt spec is_mistyped at
IsBad spec faults.NoTake at = (begins_with_recv (stmts_of spec.body) ≡ false) × (first_place (out-Block spec.body).at (stmts_of spec.body) ≡ at)
IsBad spec faults.TakeInStart at = TakesInStart spec at
IsBad spec faults.PickLength at = HasStmt spec has_bad_length at
IsBad spec faults.TooManyCompares at =
    (begins_with_recv (stmts_of spec.body) ≡ true) × (StartComparesTooMuch spec at ⊎ RecvComparesTooMuch spec at)
IsBad spec (faults.Limit limit) at = IsPast spec limit at
