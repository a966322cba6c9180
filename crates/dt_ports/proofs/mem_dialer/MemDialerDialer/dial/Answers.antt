use Rattle.std.proofs.Common.{arith}
use Rattle.std.proofs.lemmas.Grind.{common_steps}
use Rattle.dt_ports.proofs.FreshLinks.{all_behind}
use Rattle.dt_ports.specs.Link.{IsFresh}
use Rattle.dt_ports.proofs.mem_dialer.MemDialerDialer.dial.Goals as goal

pub invariant_of-self-3 : goal.invariant_of-self-3
invariant_of-self-3 g c =
    (grind (arith, common_steps), grind (arith, common_steps), all_behind (λ link. IsFresh (g.L.Link.counts link) (g.L.Link.sent link) (g.L.Link.got link)) _ _ c.in-Some-pop_front.ensures.items c.self.invariant.2)
