use Rattle.std.proofs.Common.{◌≡◌, take}
use Rattle.dualtest_main.proofs.judge.fed_pool.Given as goal

-- the events so far were fed to a pool of the specification
abbrev pub invariant-loop-event : goal.invariant-loop-event
invariant-loop-event l =
    (l.pool.dual.spec ≡ l.fn.spec) × (l.pool.dual.shape ≡ l.fn.spec.shape) × (l.pool.events ≡ take l.event-index l.exchange)
