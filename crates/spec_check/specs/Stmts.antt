-- What is bad in statements, and in the statements in them.
use Rattle.std.specs.Prelude.{◌≡◌, ℕ, ◌++◌, Bool, ◌&&◌, ◌⊎◌, List, [], ◌∷◌, map}
use Rattle.spec_model.specs.declared.tree.Stmt.{Stmt}
use Rattle.spec_model.specs.declared.tree.Case.{Case, out-Case}
use Rattle.spec_model.specs.declared.tree.Chan.{Chan}
use Rattle.spec_model.specs.Config.{StmtKind, kind_of, stmts_of}
use Rattle.spec_rules.specs.declared.fault.Fault.{Fault}
use Rattle.spec_rules.specs.declared.fault.Fault.TheVariants as faults
use Rattle.spec_rules.specs.declared.fault.Limit.TheVariants as limits
use Rattle.spec_rules.specs.declared.names.Known.{Known}
use Rattle.spec_rules.specs.Bad.{binds_again, has_bad_length, has_long_text, has_too_many_arms, has_too_many_cases, has_too_many_items, has_too_many_parts, is_mistyped, names_past_conns}
use Rattle.spec_rules.specs.Names.{names_of_chan, names_of_pattern, uses_unknown}
use Rattle.spec_rules.specs.Path.{is_recv}
use Rattle.spec_rules.specs.Place.{Inner, Place, StandsIn, blocks_of}
use Rattle.spec_check.specs.declared.found.Tested.{Tested}
use Rattle.spec_check.specs.declared.statement.Rules.{Rules}
use Rattle.spec_check.specs.Least.{IsListed}

abbrev pub tested : Fault → Bool → Tested
tested fault stands = record { fault = fault; stands = stands }

-- the faults that may stand at a statement, each with its test
abbrev pub stmt_tests : Rules → List Known → StmtKind → List Tested
stmt_tests rules known kind =
    tested faults.UnknownName (uses_unknown known kind)
    ∷ tested faults.DoubleName (binds_again known kind)
    ∷ tested faults.WrongType (is_mistyped known kind)
    ∷ tested faults.TakeInStart (rules.in_start && is_recv kind)
    ∷ tested faults.PickLength (has_bad_length known kind)
    ∷ tested (faults.Limit limits.WrittenConn) (names_past_conns rules.conns known kind)
    ∷ tested (faults.Limit limits.Cases) (has_too_many_cases known kind)
    ∷ tested (faults.Limit limits.Items) (has_too_many_items known kind)
    ∷ tested (faults.Limit limits.Parts) (has_too_many_parts known kind)
    ∷ tested (faults.Limit limits.Arms) (has_too_many_arms known kind)
    ∷ tested (faults.Limit limits.Text) (has_long_text known kind)
    ∷ []

-- A fault stands at a place.
pub record IsBadThere (rules : Rules) (place : Place) (fault : Fault) (at : ℕ) : Type 0 where
  pub stands : IsListed (stmt_tests rules place.known (kind_of place.stmt)) fault
  pub here : place.stmt.at ≡ at

-- A fault stands in statements before which these names are known and behind which others are done.
pub record IsBadIn (rules : Rules) (known : List Known) (stmts behind : List Stmt) (fault : Fault) (at : ℕ) : Type 0 where
  pub place : Place
  pub is_place : StandsIn known stmts behind place
  pub bad : IsBadThere rules place fault at

-- A fault stands in one of these blocks.
abbrev pub IsBadInBlocks : Rules → List Known → List Inner → List Stmt → Fault → ℕ → Type 0
IsBadInBlocks rules known [] behind fault at = ⊥
IsBadInBlocks rules known (inner ∷ inners) behind fault at =
    IsBadIn rules (known ++ inner.bound) (stmts_of inner.block) behind fault at ⊎ IsBadInBlocks rules known inners behind fault at

-- A fault stands at a statement itself, or in one of its blocks.
abbrev pub IsBadAt : Rules → List Known → Stmt → List Stmt → Fault → ℕ → Type 0
IsBadAt rules known stmt behind fault at =
    (IsListed (stmt_tests rules known (kind_of stmt)) fault × (stmt.at ≡ at))
    ⊎ IsBadInBlocks rules known (blocks_of (kind_of stmt)) behind fault at

-- the blocks of the cases of a `recv`
abbrev pub blocks_of_cases : Chan → List Case → List Inner
blocks_of_cases chan cases = map (λ case. record { bound = names_of_chan chan ++ names_of_pattern (out-Case case).items; block = (out-Case case).block }) cases
