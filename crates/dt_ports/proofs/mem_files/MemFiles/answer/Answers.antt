use Rattle.std.proofs.Common.{inl, refl}
use Rattle.dt_ports.proofs.mem_files.MemFiles.answer.Goals as goal

pub returns-then-next_fails-clause-failed : goal.returns-then-next_fails-clause-failed
returns-then-next_fails-clause-failed c = rw (← c.self.view_is) (λ _. inl (c.if-next_fails.ensures.fails.0 refl), λ _. refl)
