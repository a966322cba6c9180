use Rattle.std.proofs.Common.{◌≡◌, length, refl, rules}
use Rattle.hypothesis_pool.proofs.Pools.{counts, counts_none, rejected_unexplained}
use Rattle.hypothesis_pool.proofs.pool.Pool.live.Goals as goal

pub returns-in-None : goal.returns-in-None
returns-in-None c =
    let pool = c.self.inside in
    let opens = rw c.in-None.is at c.self.invariant in
    let as_many : c.len.result ≡ length pool.hypotheses.items = search rules in
    rw (← c.self.view_is, as_many) (counts pool.dual pool.seen.events.items pool.seen.inbox pool.trail pool.hypotheses.items opens.is_dual opens.verdict.0)

pub returns-in-Some : goal.returns-in-Some
returns-in-Some c =
    let pool = c.self.inside in
    let rejected = rw c.in-Some.is at c.self.invariant in
    rw (← c.self.view_is)
    (counts_none pool.dual.spec pool.seen.events.items
    (rejected_unexplained pool.dual pool.seen.events.items pool.seen.inbox pool.trail pool.hypotheses.items _ refl rejected))
