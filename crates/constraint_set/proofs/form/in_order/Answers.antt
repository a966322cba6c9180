use Rattle.constraint_set.proofs.SortedKeys.{in_order}
use Rattle.constraint_set.proofs.form.in_order.Goals as goal

pub returns-clause-sorted : goal.returns-clause-sorted
returns-clause-sorted c = (in_order c.args.keys.items _ c.dedup.new.self.items c.in_ok-sort.ensures.permutation c.in_ok-sort.ensures.sorted c.dedup.ensures.filtered).strictly

pub returns-clause-all : goal.returns-clause-all
returns-clause-all c = (in_order c.args.keys.items _ c.dedup.new.self.items c.in_ok-sort.ensures.permutation c.in_ok-sort.ensures.sorted c.dedup.ensures.filtered).all

pub returns-clause-only : goal.returns-clause-only
returns-clause-only c = (in_order c.args.keys.items _ c.dedup.new.self.items c.in_ok-sort.ensures.permutation c.in_ok-sort.ensures.sorted c.dedup.ensures.filtered).only
