use Rattle.std.proofs.Common.{arith, rules, length-drop, ℕ}
use Rattle.dt_ports.proofs.Telling.{told_with-next}
use Rattle.dt_ports.proofs.sink.write_all.Goals as goal

pub loop-taken-preserved : goal.loop-taken-preserved
loop-taken-preserved g c =
    let taken = c.in_ok-taken.ensures in
    let before = c.loop-taken.invariant in
    record {
      within = omega (arith, length-drop {A = ℕ}, taken.within);
      told = told_with-next c.loop-taken.taken c.in_ok-taken.field-0 c.args.bytes.now (g.S.Sink.taken c.args.sink.now) before.told taken.grows;
      faults = search rules;
    }
