use Rattle.std.proofs.Common.{◌<◌, length}
use Rattle.dt_ports.proofs.PartTaken.{part_taken-at}
use Rattle.dt_ports.proofs.steps.Arrivals.receive.Goals as goal

pub returns-then-count-left-clause-after : goal.returns-then-count-left-clause-after
returns-then-count-left-clause-after c =
    let at = c.in-Some-Piece.ensures.lookup in
    let count = rw c.as_slice.ensures at c.put_front-count.ensures.count in
    let short = rw c.as_slice.ensures at c.if-count-left.true in
    rw (← c.self.view_is, ← c.deref.ensures.value) (part_taken-at c.deref.result.now c.self.inside.passed c.self.inside.taken (length c.args.room.now) c.put_front-count.result
    c.in-Some-Piece.piece c.in-Some-Piece.field-0.now at.3.0 at.1 c.in-Some-Piece.field-0-is count short)
