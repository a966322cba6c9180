use Rattle.itree_data.proofs.Named.{assign_left, assign_register, assign_tail, some_not_empty}
use Rattle.itree_data.proofs.leaves.assign.Goals as goal

pub unreachable-requires : goal.unreachable-requires
unreachable-requires c =
    some_not_empty _ _ (assign_register c.args.decls.now c.args.scope.now c.args.name.now c.args.left.now c.args.tail.now c.requires)
    (rw c.as_slice.ensures at c.in_ok-register.ensures) c.in_default.is

pub unreachable-requires-in_default-2 : goal.unreachable-requires-in_default-2
unreachable-requires-in_default-2 c =
    some_not_empty _ _ (assign_left c.args.decls.now c.args.scope.now c.args.name.now c.args.left.now c.args.tail.now c.requires) c.in_ok-left.ensures c.in_default-2.is

pub unreachable-requires-in_default-3 : goal.unreachable-requires-in_default-3
unreachable-requires-in_default-3 c =
    some_not_empty _ _ (assign_tail c.args.decls.now c.args.scope.now c.args.name.now c.args.left.now c.args.tail.now c.requires) c.in_ok-tail.ensures c.in_default-3.is
