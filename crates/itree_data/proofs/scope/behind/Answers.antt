use Rattle.std.proofs.Common.{◌++◌, ap, ◌∙◌}
use Rattle.itree_data.proofs.Scopes.{bound_next_stmt}
use Rattle.itree_data.proofs.scope.behind.Goals as goal

pub loop-stmt-preserved : goal.loop-stmt-preserved
loop-stmt-preserved c =
    let grown = c.in_ok-append.ensures.items ∙ ap (λ bound. c.loop-stmt.after.items ++ bound) c.in_ok-bound.ensures in
    bound_next_stmt c.args.scope.now c.loop-stmt.after.items c.append.new.self.items c.args.stmts.now c.loop-stmt.stmt-index c.stmt-item.result
    c.loop-stmt-test.true c.stmt-item.is c.loop-stmt.invariant grown
