use Rattle.std.proofs.Common.{arith}
use Rattle.dt_ports.proofs.FreshLinks.{all_behind}
use Rattle.dt_ports.specs.Link.{IsFresh}
use Rattle.dt_ports.proofs.mem_dialer.MemDialerDialer.accept.Goals as goal

pub invariant_of-self-in-Some : goal.invariant_of-self-in-Some
invariant_of-self-in-Some g c =
    (omega arith, omega arith, all_behind (λ link. IsFresh (g.L.Link.counts link) (g.L.Link.sent link) (g.L.Link.got link)) _ _ c.in-Some.ensures.items c.self-2.invariant.2)
