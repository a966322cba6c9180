use Rattle.std.proofs.Common.{reverse}
use Rattle.spec_model.specs.World.{IsPrefixOf}
use Rattle.hypothesis_pool.specs.Search.{IsUnderWay}
use Rattle.hypothesis_pool.proofs.Stack.{all_weight}
use Rattle.hypothesis_pool.proofs.search.explain_receipt.Given as goal

-- the search, and the trail that got longer
abbrev pub invariant-loop-next : goal.invariant-loop-next
invariant-loop-next l = record {
  under_way : IsUnderWay l.dual l.seen.events.items l.receipt.conn l.receipt.message l.trail l.search.met.items l.search.found.items (reverse l.search.ahead.items);
  longer : IsPrefixOf l.initial.trail l.trail;
}

-- what those ahead may still do
abbrev pub decreases-loop-next : goal.decreases-loop-next
decreases-loop-next l = all_weight l.dual l.seen.events.items l.search.ahead.items
