use Rattle.std.proofs.Common.{rules, arith}
use Rattle.std.proofs.lemmas.Grind.{common_steps}
use Rattle.spec_print.proofs.Lines.{one_deeper}
use Rattle.spec_print.proofs.page.put_new_line.Goals as goal

pub loop-brace-preserved : goal.loop-brace-preserved
loop-brace-preserved c =
    let e = one_deeper _ _ c.loop-brace._brace c.loop-brace.invariant in
    first_of (search rules, grind (arith, common_steps))
