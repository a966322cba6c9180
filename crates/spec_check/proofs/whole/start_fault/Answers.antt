use Rattle.std.proofs.Common.{true, List, [], ◌++◌, refl}
use Rattle.std.proofs.lemmas.Result.{IfOk-weaker}
use Rattle.spec_model.specs.declared.tree.Stmt.{Stmt}
use Rattle.spec_model.specs.Config.{stmts_of}
use Rattle.spec_check.specs.declared.statement.Rules.{Rules}
use Rattle.spec_check.specs.Least.{IsFirst}
use Rattle.spec_check.specs.Stmts.{IsBadIn}
use Rattle.spec_check.specs.Whole.{IsBadInStart}
use Rattle.spec_check.proofs.Walks.{among}
use Rattle.spec_check.proofs.WholeSpec.{in_start}
use Rattle.spec_check.proofs.whole.start_fault.Goals as goal

pub returns-in-Some-clause-first : goal.returns-in-Some-clause-first
returns-in-Some-clause-first c =
    let rules : Rules = record { conns = c.args.conns; in_start = true } in
    let known = c.args.known.now.items in
    let block = c.in-Some.block in
    IfOk-weaker c.block_fault.result (λ found. (behind : List Stmt) → IsFirst (IsBadIn rules (known ++ c.new.result.items) (stmts_of block) behind) found)
    (λ found. IsFirst (IsBadInStart rules known c.args.start.now) found)
    (λ found first. in_start rules known c.args.start.now block found c.in-Some.is
    (among rules known known c.new.result.items [] (stmts_of block) [] found refl c.new.ensures.items (first [])))
    c.block_fault.ensures.first
