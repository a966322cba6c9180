use Rattle.std.proofs.Common.{◌≤◌, ◌++◌, length, take, drop}
use Rattle.std.specs.Prelude.{reverse}
use Rattle.itree_data.specs.Making.{MakesArms, MakesCases, MakesStmts}
use Rattle.itree_data.specs.Scope.{bound_by}
use Rattle.itree_data.proofs.compile.+compile.Given as goal

abbrev pub decreases-statements-loop-left : goal.decreases-statements-loop-left
decreases-statements-loop-left l = l.left

-- the nodes of the statements from this one on
abbrev pub invariant-statements-loop-left : goal.invariant-statements-loop-left
invariant-statements-loop-left l = record {
  within : l.left ≤ length l.stmts;
  made : MakesStmts l.decls (l.scope ++ bound_by (take l.left l.stmts)) (drop l.left l.stmts) l.next l.initial.nodes l.nodes l.first;
}

abbrev pub decreases-arms-loop-left : goal.decreases-arms-loop-left
decreases-arms-loop-left l = l.left

-- the nodes of the arms from this one on
abbrev pub invariant-arms-loop-left : goal.invariant-arms-loop-left
invariant-arms-loop-left l = record {
  within : l.left ≤ length l.arms;
  made : MakesArms l.decls l.scope (drop l.left l.arms) l.next l.initial.nodes l.nodes (reverse l.targets.items);
}

abbrev pub decreases-cases-loop-left : goal.decreases-cases-loop-left
decreases-cases-loop-left l = l.left

-- the nodes of the cases from this one on
abbrev pub invariant-cases-loop-left : goal.invariant-cases-loop-left
invariant-cases-loop-left l = record {
  within : l.left ≤ length l.cases;
  made : MakesCases l.decls l.scope l.named (drop l.left l.cases) l.next l.initial.nodes l.nodes (reverse l.taken.items);
}
