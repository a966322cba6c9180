use Rattle.std.proofs.Common.{◌≤◌, arith}
use Rattle.dualtest_main.proofs.OneEnd.{at_least_1}
use Rattle.dualtest_main.proofs.script.script_text.Goals as goal

pub script-requires-clause-one_conn : goal.script-requires-clause-one_conn
script-requires-clause-one_conn c =
    let some : 1 ≤ c.spec.result.now.shape.conns = rw c.spec.ensures.same (at_least_1 c.args.spec.now c.spec.ensures.accepted) in
    omega (arith, some)
