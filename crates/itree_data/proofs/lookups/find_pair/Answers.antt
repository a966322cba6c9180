use Rattle.std.proofs.Common.{sym, ◌∙◌}
use Rattle.itree_data.proofs.lookups.find_pair.Goals as goal

pub returns : goal.returns
returns c = record {
  table = c.in-Some.table;
  key_val = c.in-Some-2.key;
  holds = c.in_ok-yes.yes;
  last = c.put.new.nodes;
  table_is = sym (rw c.as_slice.ensures at c.in_ok-table.ensures) ∙ c.in-Some.is;
  key_is = sym c.in_ok-key.ensures ∙ c.in-Some-2.is;
  put_bind = rw c.in_ok-slot.ensures at c.in_ok-yes.ensures;
  put = c.in_ok-first.ensures;
}
