use Rattle.std.proofs.Common.{◌≡◌, ◌++◌, take}
use Rattle.itree_data.specs.Scope.{bound_by}
use Rattle.itree_data.proofs.scope.behind.Given as goal

-- the names so far
abbrev pub invariant-loop-stmt : goal.invariant-loop-stmt
invariant-loop-stmt l = l.after.items ≡ l.scope ++ bound_by (take l.stmt-index l.stmts)
