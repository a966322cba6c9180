-- Paths through a specification, from one `recv` to the next.
use Rattle.std.specs.Prelude.{◌≡◌, ℕ, ◌+◌, Bool, true, false, List, [], ◌∷◌, ◌++◌, map, slice_get, if◌then◌else◌, Some}
use Rattle.spec_model.specs.declared.tree.Kind.TheOpen.{Recv, If, Either, Assume, Put, Lookup, Delete}
use Rattle.spec_model.specs.declared.tree.Stmt.{Stmt}
use Rattle.spec_model.specs.Config.{StmtKind, kind_of, stmts_of}

-- whether a statement compares: a condition, or a key with those of a table
abbrev pub compares : StmtKind → Bool
compares (If cond holds fails) = true
compares (Assume cond) = true
compares (Put table key value) = true
compares (Lookup table key name found missing) = true
compares (Delete table key) = true
compares _ = false

abbrev pub is_recv : StmtKind → Bool
is_recv (Recv chan cases other block) = true
is_recv _ = false

-- the ways on from a statement: through one of its blocks, or straight on where it has none
abbrev pub ways_on : StmtKind → List (List Stmt)
ways_on (If cond holds fails) = stmts_of holds ∷ stmts_of fails ∷ []
ways_on (Either arms) = map stmts_of arms
ways_on (Lookup table key name found missing) = stmts_of found ∷ stmts_of missing ∷ []
ways_on _ = [] ∷ []

-- Through the statements to do, a path to the next `recv` passes so many statements that compare. Where nothing is left to do,
-- the loop returns to the `recv` with which it begins. Whether conditions can hold is not asked.
pub data PathPasses : List Stmt → ℕ → Type 0 where
  returns : PathPasses [] 0
  reaches : {stmt : Stmt} {stmts : List Stmt} → is_recv (kind_of stmt) ≡ true → PathPasses (stmt ∷ stmts) 0
  passes : {stmt : Stmt} {stmts : List Stmt} {count : ℕ} (number : ℕ) (way : List Stmt) → is_recv (kind_of stmt) ≡ false
      → slice_get (ways_on (kind_of stmt)) number ≡ Some way → PathPasses (way ++ stmts) count
      → PathPasses (stmt ∷ stmts) ((if compares (kind_of stmt) then 1 else 0) + count)
