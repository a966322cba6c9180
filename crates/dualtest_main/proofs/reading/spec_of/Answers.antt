use Rattle.std.proofs.Common.{subst}
use Rattle.spec_rules.specs.Accepted.{IsFirstBad}
use Rattle.spec_check.specs.Answer.{IfBad}
use Rattle.dualtest_main.proofs.reading.spec_of.Goals as goal

pub returns-in-Err-Bad-clause-stops : goal.returns-in-Err-Bad-clause-stops
returns-in-Err-Bad-clause-stops c =
    (c.in-Ok.spec, c.in-Ok.ensures.spelled, subst (λ refusal. IfBad refusal (IsFirstBad c.in-Ok.spec)) c.in-Err-Bad.field-0-is c.in-Err-Bad.ensures.refused)
