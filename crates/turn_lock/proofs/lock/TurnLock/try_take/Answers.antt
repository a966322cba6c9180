use Rattle.std.proofs.Common.{Some, arith, refl}
use mathlib.Core.Option.{none}
use Rattle.turn_lock.proofs.Known.{same_table, still_there, found_is, took_slot}
use Rattle.turn_lock.proofs.Turns.{takes_turn}
use Rattle.turn_lock.proofs.lock.TurnLock.try_take.Goals as goal

pub compare_exchange-found-requires : goal.compare_exchange-found-requires
compare_exchange-found-requires g c =
    let at = c.seat.inside.at in (
      same_table at c.args.seat.now c.args.self.now _ c.seat.view_is c.requires.seat.0 c.self.view_is,
      omega (arith, c.self.invariant.0),
      takes_turn g.V.Listed.entries g.V.Listed.fixed _ _ at.id at.me c.args.seen _ none c.seat.invariant.alive (found_is at c.args.seat.now _ c.seat.view_is c.requires.seat.1) c.requires.free refl,
    )

pub exchange-requires : goal.exchange-requires
exchange-requires g c =
    let after = c.compare_exchange-found.new.seat in
    let told = c.compare_exchange-found.ensures.2.0 c.if-found-seen.false in (
      still_there c.seat.inside.at after c.args.seat.now c.args.self.now _ c.compare_exchange-found.ensures.0 c.seat.view_is c.requires.seat.0 c.self.view_is,
      took_slot after _ (Some told.1) _ told.2,
    )
