use Rattle.std.proofs.Common.{sym, ◌∙◌}
use Rattle.itree_data.proofs.Named.{put_key, put_table, put_value, same_value, some_not_empty}
use Rattle.itree_data.proofs.lookups.put_pair.Goals as goal

pub unreachable-requires : goal.unreachable-requires
unreachable-requires c =
    some_not_empty _ _ (put_table c.args.decls.now c.args.scope.now c.args.name.now c.args.key.now c.args.new.now c.requires) (rw c.as_slice.ensures at c.in_ok-table.ensures) c.in_default.is

pub unreachable-requires-in_default-2 : goal.unreachable-requires-in_default-2
unreachable-requires-in_default-2 c =
    some_not_empty _ _ (put_key c.args.decls.now c.args.scope.now c.args.name.now c.args.key.now c.args.new.now c.requires) c.in_ok-add_key.ensures c.in_default-2.is

pub unreachable-requires-in_default-3 : goal.unreachable-requires-in_default-3
unreachable-requires-in_default-3 c =
    some_not_empty _ _ (put_value c.args.decls.now c.args.scope.now c.args.name.now c.args.key.now c.args.new.now c.requires) c.in_ok-added.ensures c.in_default-3.is

pub returns : goal.returns
returns c =
    let val = same_value c.in-Some-4.renewed c.in-Some-3.added _ _ _ c.in_ok-renewed.ensures c.in-Some-4.is c.in_ok-added.ensures c.in-Some-3.is in
    let key = same_value c.in-Some-5.key c.in-Some-2.add_key _ _ _ c.in_ok-key.ensures c.in-Some-5.is c.in_ok-add_key.ensures c.in-Some-2.is in
    record {
      table = c.in-Some.table;
      key_val = c.in-Some-2.add_key;
      val = c.in-Some-3.added;
      missing = c.in_ok-missing.missing;
      holds = c.in_ok-yes.yes;
      middle = c.put.new.nodes;
      last = c.put-2.new.nodes;
      table_is = sym (rw c.as_slice.ensures at c.in_ok-table.ensures) ∙ c.in-Some.is;
      key_is = sym c.in_ok-add_key.ensures ∙ c.in-Some-2.is;
      val_is = sym c.in_ok-added.ensures ∙ c.in-Some-3.is;
      put_add = c.in_ok-missing.ensures;
      put_renew = rw val at c.in_ok-yes.ensures;
      put = rw key at c.in_ok-first.ensures;
    }
