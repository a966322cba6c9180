use Rattle.hypothesis_pool.proofs.Pools.{open_explains}
use Rattle.hypothesis_pool.proofs.pool.Pool.verdict.Goals as goal

pub returns-in-None : goal.returns-in-None
returns-in-None c =
    let pool = c.self.inside in
    let opens = rw c.in-None.is at c.self.invariant in
    rw (← c.self.view_is) (open_explains pool.dual pool.seen.events.items pool.seen.inbox pool.trail pool.hypotheses.items opens)
