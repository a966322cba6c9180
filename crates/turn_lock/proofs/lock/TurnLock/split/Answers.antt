use Rattle.std.proofs.Common.{arith}
use Rattle.turn_lock.proofs.Known.{same_table, is_first_seat}
use Rattle.turn_lock.proofs.Seating.{splits}
use Rattle.turn_lock.proofs.lock.TurnLock.split.Goals as goal

pub split_seat-requires : goal.split_seat-requires
split_seat-requires g c =
    let at = c.seat.inside.at in (
      same_table at c.args.seat.now c.args.self.now _ c.seat.view_is c.requires.seat.0 c.self.view_is,
      omega (arith, c.self.invariant.0),
      splits g.V.Listed.entries g.V.Listed.fixed _ at.id at.me.0 (is_first_seat at c.args.seat.now c.seat.view_is c.requires.first),
    )
