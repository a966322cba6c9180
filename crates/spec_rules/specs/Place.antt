-- Where statements stand: which names are known there, and what is done behind them.
use Rattle.std.specs.Prelude.{◌≡◌, ℕ, List, [], ◌∷◌, ◌++◌, map, slice_get, Some}
use Rattle.spec_model.specs.declared.tree.Block.{Block}
use Rattle.spec_model.specs.declared.tree.Case.{out-Case}
use Rattle.spec_model.specs.declared.tree.Kind.TheOpen.{Recv, Pick, If, Either, Lookup}
use Rattle.spec_model.specs.declared.tree.Spec.{Spec}
use Rattle.spec_model.specs.declared.tree.Stmt.{Stmt}
use Rattle.spec_model.specs.Config.{StmtKind, kind_of, stmts_of}
use Rattle.spec_rules.specs.declared.names.Known.{Known}
use Rattle.spec_rules.specs.declared.names.ValueType.TheVariants.{Text}
use Rattle.spec_rules.specs.Names.{local, names_declared, names_of_chan, names_of_pattern}

-- a block of a statement, and the names that the statement makes known in it
pub record Inner : Type 0 where
  pub bound : List Known
  pub block : Block

abbrev pub without_names : Block → Inner
without_names block = record { bound = []; block = block }

-- the blocks of a statement: one behind the other, as they stand
abbrev pub blocks_of : StmtKind → List Inner
blocks_of (Recv chan cases other block) =
    map (λ case. record { bound = names_of_chan chan ++ names_of_pattern (out-Case case).items; block = (out-Case case).block }) cases
    ++ record { bound = names_of_chan chan ++ local other Text ∷ []; block = block } ∷ []
blocks_of (If cond holds fails) = without_names holds ∷ without_names fails ∷ []
blocks_of (Either arms) = map without_names arms
blocks_of (Lookup table key name found missing) = record { bound = local name Text ∷ []; block = found } ∷ without_names missing ∷ []
blocks_of _ = []

-- the names that a statement makes known behind it, up to the end of its block
abbrev pub bound_behind : StmtKind → List Known
bound_behind (Pick name len alphabet) = local name Text ∷ []
bound_behind _ = []

-- A statement, the names that are known there, and the statements that are done behind it: those behind it in its block, and
-- then those behind each block around it.
pub record Place : Type 0 where
  pub known : List Known
  pub stmt : Stmt
  pub behind : List Stmt

-- A statement stands so among statements before which these names are known and behind which others are done: as the first
-- one, or behind the first one, or in a block of the first one.
pub data StandsIn : List Known → List Stmt → List Stmt → Place → Type 0 where
  first : (known : List Known) (stmt : Stmt) (stmts behind : List Stmt)
      → StandsIn known (stmt ∷ stmts) behind (record { known = known; stmt = stmt; behind = stmts ++ behind })
  later : {known : List Known} {stmt : Stmt} {stmts behind : List Stmt} {place : Place}
      → StandsIn (known ++ bound_behind (kind_of stmt)) stmts behind place → StandsIn known (stmt ∷ stmts) behind place
  inside : {known : List Known} {stmt : Stmt} {stmts behind : List Stmt} {place : Place} (number : ℕ) (inner : Inner)
      → slice_get (blocks_of (kind_of stmt)) number ≡ Some inner
      → StandsIn (known ++ inner.bound) (stmts_of inner.block) (stmts ++ behind) place → StandsIn known (stmt ∷ stmts) behind place

-- a statement of `start`
pub record StandsInStart (spec : Spec) (place : Place) : Type 0 where
  pub start : Block
  pub is : spec.start ≡ Some start
  pub stands : StandsIn (names_declared spec.decls) (stmts_of start) [] place

-- a statement of the loop
abbrev pub StandsInLoop : Spec → Place → Type 0
StandsInLoop spec place = StandsIn (names_declared spec.decls) (stmts_of spec.body) [] place
