use Rattle.std.proofs.Common.{arith}
use Rattle.turn_lock.proofs.Known.{still_there, may_add, has_added}
use Rattle.turn_lock.proofs.lock.TurnLock.leave_with.Goals as goal

pub store-requires : goal.store-requires
store-requires g c =
    let at = c.seat.inside.at in
    let put = c.put_back.new.at in
    let more = c.requires.one_more c.requires.holds.0 c.requires.holds.1 in (
      still_there at put c.args.seat.now c.args.self.now _ c.put_back.ensures.same.0 c.seat.view_is c.requires.of c.self.view_is,
      omega (arith, c.self.invariant.0),
      may_add g.V.Listed.entries g.V.Listed.fixed at c.args.seat.now c.args.self.now _ c.args.turn _ put.me
          c.seat.view_is c.seat.invariant c.self.view_is c.turn.view_is c.put_back.ensures.full c.requires.holds
          _ _ c.self.invariant.1 c.requires.fixed more.0 more.1,
    )

pub invariant_of-seat : goal.invariant_of-seat
invariant_of-seat g c =
    let more = c.requires.one_more c.requires.holds.0 c.requires.holds.1 in
    has_added g.V.Listed.entries g.V.Listed.fixed c.seat.inside.at c.args.seat.now c.args.self.now _ c.args.turn _ c.put_back.new.at.me
    c.seat.view_is c.seat.invariant c.self.view_is c.turn.view_is c.put_back.ensures.full c.requires.holds
    c.store.new.seat more.0 more.1 c.store.ensures.2
