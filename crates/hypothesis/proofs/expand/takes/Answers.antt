use Rattle.std.proofs.Common.{◌≡◌, None, subst, arith}
use Rattle.dual_step.specs.declared.next.Next.TheVariants.{Offer}
use Rattle.hypothesis.specs.Possible.{AreAllowed}
use Rattle.hypothesis.proofs.Allowed.{takes_more}
use Rattle.hypothesis.proofs.expand.takes.Goals as goal

pub loop-conn-preserved : goal.loop-conn-preserved
loop-conn-preserved c =
    rw (c.in_ok-push_some.ensures.ok, c.in_ok-take.ensures)
    (takes_more c.args.inbox.now c.args.taken.now c.loop-conn.conn c.loop-conn.events c.loop-conn.invariant)

pub returns : goal.returns
returns c =
    let all : c.loop-conn.conn ≡ c.args.conns = omega arith in
    rw c.into_vec.ensures (subst (λ conns. AreAllowed (Offer None) conns c.args.inbox.now c.args.taken.now c.loop-conn.events) all c.loop-conn.invariant.allowed)
