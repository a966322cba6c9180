use Rattle.std.proofs.Common.{arith}
use Rattle.turn_lock.proofs.Known.{same_table, still_there, is_first_seat, found_is, no_slot, took_over}
use Rattle.turn_lock.proofs.Turns.{compares}
use Rattle.turn_lock.proofs.Seating.{joins}
use Rattle.turn_lock.proofs.lock.TurnLock.join.Goals as goal

pub join_seat-requires : goal.join_seat-requires
join_seat-requires g c =
    let at = c.seat.inside.at in
    let other = c.other.inside.at in
    let idle = found_is other c.args.other _ c.other.view_is c.requires.other.1 in (
      same_table at c.args.seat.now c.args.self.now _ c.seat.view_is c.requires.seat.0 c.self.view_is,
      same_table other c.args.other c.args.self.now _ c.other.view_is c.requires.other.0 c.self.view_is,
      no_slot other c.other.invariant idle,
      omega (arith, c.self.invariant.0),
      joins g.V.Listed.entries g.V.Listed.fixed _ at.id at.me.0 other.id other.me.0 (is_first_seat at c.args.seat.now c.seat.view_is c.requires.first) c.other.invariant.alive idle,
    )

pub load-requires : goal.load-requires
load-requires g c =
    let at = c.join_seat.new.seat in (
      still_there c.seat.inside.at at c.args.seat.now c.args.self.now _ c.join_seat.ensures.0 c.seat.view_is c.requires.seat.0 c.self.view_is,
      omega (arith, c.self.invariant.0),
      compares g.V.Listed.entries g.V.Listed.fixed _ _ at.id at.me (took_over c.seat.inside.at at c.other.inside.at.me.0 c.join_seat.ensures.2 c.seat.invariant.alive),
    )
