use Rattle.std.proofs.Common.{◌≡◌, Some, ap, sym, ◌∙◌, subst}
use Rattle.std.specs.Prelude.{is_some}
use Rattle.std.specs.Slots.{slots_items}
use Rattle.std.proofs.lemmas.Option.{same_Some}
use Rattle.turn_lock.proofs.Known.{IsClosedWith, closed_value}
use Rattle.turn_lock.proofs.lock.TurnLock.close.Goals as goal
use Rattle.turn_lock.proofs.lock.TurnLock.close.Given.{Over}
use Rattle.turn_lock.proofs.lock.TurnLock.close.Goals.{After-take, After-unwrap-value}

-- what lay in the slot
taken : (g : Over) (c : After-take g)
    → (value : g.row.V.Denot) × (c.take.result ≡ Some value) × IsClosedWith g.V.Listed.entries g.V.Listed.fixed c.args.self c.args.seat value
taken g c =
    closed_value g.V.Listed.entries g.V.Listed.fixed c.seat.inside.at c.args.seat c.args.self _ c.seat.view_is c.self.view_is
    c.requires.first c.requires.seat.1 c.requires.whole _ (slots_items c.close_with-closed.result.slots) c.close_with-closed.ensures.values.2
    c.take.result c.take.ensures.value

pub unwrap-value-requires : goal.unwrap-value-requires
unwrap-value-requires g c = ap is_some (taken g c).1

-- it is the value that is returned
returned : (g : Over) (c : After-unwrap-value g) → IsClosedWith g.V.Listed.entries g.V.Listed.fixed c.args.self c.args.seat c.unwrap-value.result
returned g c =
    let last = taken g c.before in
    let same : last.0 ≡ c.unwrap-value.result = same_Some last.0 c.unwrap-value.result (sym last.1 ∙ c.unwrap-value.ensures) in
    subst (IsClosedWith g.V.Listed.entries g.V.Listed.fixed c.args.self c.args.seat) same last.2

pub returns-clause-fixed : goal.returns-clause-fixed
returns-clause-fixed g c = (returned g (goal.at.returns-clause-fixed g c).After-unwrap-value).0

pub returns-clause-front : goal.returns-clause-front
returns-clause-front g c = (returned g (goal.at.returns-clause-front g c).After-unwrap-value).1

pub returns-clause-entries : goal.returns-clause-entries
returns-clause-entries g c = (returned g (goal.at.returns-clause-entries g c).After-unwrap-value).2
