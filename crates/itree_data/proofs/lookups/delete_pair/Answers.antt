use Rattle.std.proofs.Common.{sym, ◌∙◌}
use Rattle.itree_data.proofs.Named.{delete_key, delete_table, some_not_empty}
use Rattle.itree_data.proofs.lookups.delete_pair.Goals as goal

pub unreachable-requires : goal.unreachable-requires
unreachable-requires c =
    some_not_empty _ _ (delete_table c.args.decls.now c.args.scope.now c.args.name.now c.args.key.now c.requires) (rw c.as_slice.ensures at c.in_ok-table.ensures) c.in_default.is

pub unreachable-requires-in_default-2 : goal.unreachable-requires-in_default-2
unreachable-requires-in_default-2 c =
    some_not_empty _ _ (delete_key c.args.decls.now c.args.scope.now c.args.name.now c.args.key.now c.requires) c.in_ok-key.ensures c.in_default-2.is

pub returns : goal.returns
returns c = record {
  table = c.in-Some.table;
  key_val = c.in-Some-2.key;
  holds = c.in_ok-yes.yes;
  last = c.put.new.nodes;
  table_is = sym (rw c.as_slice.ensures at c.in_ok-table.ensures) ∙ c.in-Some.is;
  key_is = sym c.in_ok-key.ensures ∙ c.in-Some-2.is;
  put_remove = c.in_ok-yes.ensures;
  put = c.in_ok-first.ensures;
}
