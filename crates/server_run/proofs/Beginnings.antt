-- Where a loop begins with a `recv`.
use Rattle.std.proofs.Common.{◌≡◌, ℕ, ◌≤◌, List, [], ◌∷◌, length, get_or, sym, ◌∙◌, ap, arith}
use Rattle.spec_model.specs.declared.tree.Block.{Block}
use Rattle.spec_model.specs.declared.tree.Case.{Case}
use Rattle.spec_model.specs.declared.tree.Chan.{Chan}
use Rattle.spec_model.specs.declared.tree.Kind.TheOpen.{Recv}
use Rattle.spec_model.specs.declared.tree.Spec.{Spec}
use Rattle.spec_model.specs.declared.tree.Stmt.{Stmt}
use Rattle.spec_model.specs.Config.{kind_of, stmts_of}
use Rattle.spec_model.specs.Run.{BeginsWithRecv}

-- a first statement that is a `recv`
pub stmts_begin : (spec : Spec) (stmts : List Stmt) (first : Stmt) (chan : Chan) (cases : List Case) (other : List ℕ) (rest : Block) → stmts ≡ stmts_of spec.body
    → 1 ≤ length stmts → first ≡ get_or stmts 0 first → kind_of first ≡ Recv chan cases other rest → BeginsWithRecv spec
stmts_begin spec [] first chan cases other rest are some is takes = absurd (omega arith)
stmts_begin spec (stmt ∷ more) first chan cases other rest are some is takes = record {
  recv = stmt;
  more = more;
  chan = chan;
  cases = cases;
  other = other;
  rest = rest;
  body = sym are;
  takes = ap kind_of (sym is) ∙ takes;
}
