use Rattle.std.proofs.Common.{◌≡◌, ◌++◌, drop, option_map}
use Rattle.itree_data.specs.Resolve.{all_resolved}
use Rattle.itree_data.proofs.resolve.values.Given as goal

-- the values so far, and those still to come
abbrev pub invariant-loop-expr : goal.invariant-loop-expr
invariant-loop-expr l = option_map (λ later. l.values ++ later) (all_resolved l.decls l.scope (drop l.expr-index l.exprs)) ≡ all_resolved l.decls l.scope l.exprs
