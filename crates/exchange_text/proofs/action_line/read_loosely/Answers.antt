use Rattle.std.proofs.Common.{sym}
use Rattle.exchange_text.proofs.ActionLines.{await_back, neither_back, send_back, unsplit_back}
use Rattle.exchange_text.proofs.action_line.read_loosely.Goals as goal

pub returns-in_default : goal.returns-in_default
returns-in_default c = unsplit_back c.args.line.now (sym c.in_default.ensures)

pub returns-in-Some-behind_prefix : goal.returns-in-Some-behind_prefix
returns-in-Some-behind_prefix c =
    rw (c.number_of-conn.ensures, c.from.ensures, c.number_of.ensures)
    (await_back c.args.line.now c.in-Some.digits.now c.in-Some.behind.now c.in-Some-behind_prefix.digits.now (sym c.in-Some.ensures) c.in-Some-behind_prefix.ensures.some)

pub returns-in-None : goal.returns-in-None
returns-in-None c =
    neither_back c.args.line.now c.in-Some.digits.now c.in-Some.behind.now (sym c.in-Some.ensures) c.in_default-behind_prefix.ensures.none c.in-None.ensures.none

pub returns-in_ok-parts_of-in-Some-behind_prefix-2 : goal.returns-in_ok-parts_of-in-Some-behind_prefix-2
returns-in_ok-parts_of-in-Some-behind_prefix-2 c =
    rw c.number_of-conn.ensures
    (send_back c.args.line.now c.in-Some.digits.now c.in-Some.behind.now c.in-Some-behind_prefix-2.parts.now _ (sym c.in-Some.ensures) c.in-Some-behind_prefix-2.ensures.some
    c.in_ok-parts_of-in-Some-behind_prefix-2.ensures)
