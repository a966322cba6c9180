use Rattle.std.proofs.Common.{All, Some}
use Rattle.dt_ports.specs.Link.{IsFresh}
use Rattle.port_rows.proofs.dialer.supplies_of.Given as goal

-- each link so far is fresh
abbrev pub invariant-loop-word : goal.invariant-loop-word
invariant-loop-word l = All (λ link. IsFresh link.counts (Some link.sent) (Some link.got)) l.links.items
