-- What is bad in a specification, by its parts.
use Rattle.std.specs.Prelude.{◌≡◌, ℕ, Bool, true, false, not, ◌⊎◌, List, [], slice_get, Some, Option}
use Rattle.spec_model.specs.declared.tree.Block.{Block, out-Block}
use Rattle.spec_model.specs.declared.tree.Spec.{Spec}
use Rattle.spec_model.specs.Config.{stmts_of}
use Rattle.spec_rules.specs.declared.fault.Fault.{Fault}
use Rattle.spec_rules.specs.declared.fault.Fault.TheVariants as faults
use Rattle.spec_rules.specs.declared.fault.Limit.TheVariants as limits
use Rattle.spec_rules.specs.declared.names.Known.{Known}
use Rattle.spec_rules.specs.Bad.{IsBad, begins_with_recv, first_place, is_within, stmt_places}
use Rattle.spec_rules.specs.Names.{names_declared}
use Rattle.spec_check.specs.declared.statement.Rules.{Rules}
use Rattle.spec_check.specs.Least.{IsToldAt}
use Rattle.spec_check.specs.Stmts.{IsBadIn, tested}

-- A fault stands in the clauses `frame` and `conns`.
abbrev pub IsBadHeader : Spec → Fault → ℕ → Type 0
IsBadHeader spec fault at =
    IsToldAt (tested (faults.Limit limits.Message) (not (is_within 1 4096 spec.shape.limit))) spec.frame_at fault at
    ⊎ IsToldAt (tested (faults.Limit limits.Conns) (not (is_within 1 16 spec.shape.conns))) spec.conns_at fault at

-- The loop does not begin with a `recv`.
abbrev pub IsNoTake : Block → Fault → ℕ → Type 0
IsNoTake body fault at =
    IsToldAt (tested faults.NoTake (not (begins_with_recv (stmts_of body)))) (first_place (out-Block body).at (stmts_of body)) fault at

-- A fault stands in `start`.
pub record IsBadInStart (rules : Rules) (known : List Known) (start : Option Block) (fault : Fault) (at : ℕ) : Type 0 where
  pub block : Block
  pub is_start : start ≡ Some block
  pub bad : IsBadIn rules known (stmts_of block) [] fault at

abbrev pub rules_of : Spec → Bool → Rules
rules_of spec in_start = record { conns = spec.shape.conns; in_start = in_start }

-- A fault stands at a statement.
abbrev pub IsBadStmt : Spec → Fault → ℕ → Type 0
IsBadStmt spec fault at =
    IsBadInStart (rules_of spec true) (names_declared spec.decls) spec.start fault at
    ⊎ IsBadIn (rules_of spec false) (names_declared spec.decls) (stmts_of spec.body) [] fault at

-- There are too many statements.
abbrev pub IsTooLong : Spec → Fault → ℕ → Type 0
IsTooLong spec fault at = (faults.Limit limits.Stmts ≡ fault) × (slice_get (stmt_places spec) 1024 ≡ Some at)

-- A path passes too many statements that compare.
abbrev pub IsCrowded : Spec → Fault → ℕ → Type 0
IsCrowded spec fault at = (faults.TooManyCompares ≡ fault) × IsBad spec faults.TooManyCompares at
