use Rattle.itree_data.proofs.Named.{send_conn, send_parts, some_not_empty}
use Rattle.itree_data.proofs.leaves.send.Goals as goal

pub unreachable-requires : goal.unreachable-requires
unreachable-requires c =
    some_not_empty _ _ (send_conn c.args.decls.now c.args.scope.now c.args.named.now c.args.parts.now c.requires) c.in_ok-conn.ensures c.in_default.is

pub unreachable-requires-in_default-2 : goal.unreachable-requires-in_default-2
unreachable-requires-in_default-2 c =
    some_not_empty _ _ (send_parts c.args.decls.now c.args.scope.now c.args.named.now c.args.parts.now c.requires) c.in_ok-parts.ensures c.in_default-2.is
