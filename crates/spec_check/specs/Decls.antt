-- What is bad in declarations.
use Rattle.std.specs.Prelude.{◌≡◌, ℕ, ◌≤◌, List, [], ◌∷◌, slice_get, take, Some}
use Rattle.spec_model.specs.declared.tree.Decl.{Decl}
use Rattle.spec_rules.specs.declared.fault.Fault.{Fault}
use Rattle.spec_rules.specs.declared.fault.Fault.TheVariants as faults
use Rattle.spec_rules.specs.declared.fault.Limit.TheVariants as limits
use Rattle.spec_rules.specs.Bad.{declares_long_text, declares_past_conns, declares_register, declares_table, is_behind, is_declared_again}
use Rattle.spec_check.specs.declared.found.Tested.{Tested}
use Rattle.spec_check.specs.Least.{IsListed}
use Rattle.spec_check.specs.Stmts.{tested}

-- the faults that may stand at a declaration behind others, each with its test
abbrev pub decl_tests : ℕ → List Decl → Decl → List Tested
decl_tests conns before decl =
    tested faults.DoubleName (is_declared_again before decl)
    ∷ tested (faults.Limit limits.WrittenConn) (declares_past_conns conns before decl)
    ∷ tested (faults.Limit limits.Registers) (is_behind declares_register 64 before decl)
    ∷ tested (faults.Limit limits.Tables) (is_behind declares_table 8 before decl)
    ∷ tested (faults.Limit limits.Text) (declares_long_text before decl)
    ∷ []

-- A fault stands at a declaration from this number on.
pub record IsBadDecl (conns : ℕ) (decls : List Decl) (from : ℕ) (fault : Fault) (at : ℕ) : Type 0 where
  pub number : ℕ
  pub behind : from ≤ number
  pub decl : Decl
  pub is_decl : slice_get decls number ≡ Some decl
  pub bad : IsListed (decl_tests conns (take number decls) decl) fault
  pub here : decl.at ≡ at
