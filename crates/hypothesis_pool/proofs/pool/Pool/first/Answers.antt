use Rattle.std.proofs.Common.{sym, ◌∙◌}
use Rattle.hypothesis_pool.proofs.Pools.{first_is_least, open_stands, rejected_unexplained}
use Rattle.hypothesis_pool.proofs.pool.Pool.first.Goals as goal

pub returns-then-is_some : goal.returns-then-is_some
returns-then-is_some c =
    let pool = c.self.inside in
    let rejected = sym c.is_some.ensures ∙ c.if-is_some.true in
    rw (← c.self.view_is)
    (rejected_unexplained pool.dual pool.seen.events.items pool.seen.inbox pool.trail pool.hypotheses.items pool.rejected_at rejected c.self.invariant)

pub returns : goal.returns
returns c =
    let pool = c.self.inside in
    let opens = sym c.is_some.ensures ∙ c.if-is_some.false in
    let stands = open_stands pool.dual pool.seen.events.items pool.seen.inbox pool.trail pool.hypotheses.items pool.rejected_at opens c.self.invariant in
    let least = first_is_least pool.dual pool.seen.events.items pool.trail pool.hypotheses.items c.index.result.now stands.0 stands.1 c.index.ensures in
    rw (← c.self.view_is) (rw (c.in_ok-skeleton.ensures, c.step.ensures) least)
