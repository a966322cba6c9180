use Rattle.std.proofs.Common.{◌+◌, ◌-◌, ◌*◌, get_or, drop, arith}
use Rattle.std.proofs.lemmas.List.{drop_all}
use Rattle.spec_model.proofs.WrittenNumbers.{number_behind-at_least, number_behind-drop}
use Rattle.spec_model.proofs.cut.number_written.Goals as goal

-- a number that is too great does not become smaller by more digits
pub returns-in_err-number : goal.returns-in_err-number
returns-in_err-number c =
    let digits = c.args.digits.now in
    let place = c.loop-digit.digit-index in
    let next = 10 * c.loop-digit.number + (get_or digits place 0 - 48) in
    let whole = number_behind-drop c.loop-digit.number digits place c.loop-digit-test.true in
    let grows = number_behind-at_least next (drop (place + 1) digits) in
    rw c.from_residual.ensures (λ small. c.in_err-number.ensures (omega (arith, c.loop-digit.invariant.whole)))

pub returns : goal.returns
returns c =
    let read = drop_all c.loop-digit.digit-index c.args.digits.now c.loop-digit-test.false in
    let whole = rw read at c.loop-digit.invariant.whole in
    (omega (arith, c.loop-digit.invariant.fits), whole)
