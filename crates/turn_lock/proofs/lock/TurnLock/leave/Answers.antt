use Rattle.std.proofs.Common.{arith}
use Rattle.turn_lock.proofs.Known.{still_there, may_leave}
use Rattle.turn_lock.proofs.lock.TurnLock.leave.Goals as goal

pub store-requires : goal.store-requires
store-requires g c =
    let at = c.seat.inside.at in
    let put = c.put_back.new.at in (
      still_there at put c.args.seat.now c.args.self.now _ c.put_back.ensures.same.0 c.seat.view_is c.requires.of c.self.view_is,
      omega (arith, c.self.invariant.0),
      may_leave g.V.Listed.entries g.V.Listed.fixed at c.args.seat.now c.args.self.now _ c.args.turn _ put.me
          c.seat.view_is c.seat.invariant c.self.view_is c.turn.view_is c.put_back.ensures.full c.requires.holds
          _ _ c.self.invariant.1 c.requires.fixed c.requires.same,
    )
