use Rattle.std.proofs.Common.{arith}
use Rattle.exchange_text.proofs.ScriptReading.{bad_second_line, no_second_line}
use Rattle.exchange_text.proofs.script.read_first_lines.Goals as goal

pub returns-in_default-clause-refused : goal.returns-in_default-clause-refused
returns-in_default-clause-refused c =
    no_second_line c.args.shape (omega arith) c.args.text.now c.in_ok-rest.rest.now c.in_ok-rest.ensures.behind c.in_default.ensures.none

pub returns-in-None-clause-refused : goal.returns-in-None-clause-refused
returns-in-None-clause-refused c =
    bad_second_line c.args.shape (omega arith) c.args.text.now c.in_ok-rest.rest.now c.in-Some.line.now c.in-Some.behind.now c.in_ok-rest.ensures.behind
    c.in-Some.ensures.some c.in-None.ensures.none
