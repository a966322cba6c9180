use Rattle.std.proofs.Common.{◌≡◌, ◌≤◌, ◌-◌, length, take}
use Rattle.dt_ports.specs.Told.{told_with}
use Rattle.dt_ports.proofs.sink.write_all.Given as goal

-- the bytes so far were taken, and no write failed
abbrev pub invariant-loop-taken : goal.invariant-loop-taken
invariant-loop-taken g l = record {
  within : l.taken ≤ length l.bytes;
  told : g.S.Sink.taken l.sink ≡ told_with (take l.taken l.bytes) (g.S.Sink.taken l.fn.sink);
  faults : g.S.Sink.faults l.sink ≡ g.S.Sink.faults l.fn.sink;
}

-- the bytes left
abbrev pub decreases-loop-taken : goal.decreases-loop-taken
decreases-loop-taken g l = length l.bytes - l.taken
