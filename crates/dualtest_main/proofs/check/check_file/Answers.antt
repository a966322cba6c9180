use Rattle.dualtest_main.specs.Outcome.{printed, spec_stops}
use Rattle.dualtest_main.specs.Words.{check}
use Rattle.dualtest_main.proofs.Answered.{if_answered}
use Rattle.dualtest_main.proofs.check.check_file.Goals as goal

pub returns-in-Err-clause-due : goal.returns-in-Err-clause-due
returns-in-Err-clause-due g c =
    if_answered c.stopped.result _ _
    (λ answer says. λ words asks. rw (says.0, says.1) (spec_stops (check c.args.spec.now) c.in-Err.stop asks c.in-Err.ensures.stops)) c.stopped.ensures

pub returns-in_ok-print-in-Ok-clause-due : goal.returns-in_ok-print-in-Ok-clause-due
returns-in_ok-print-in-Ok-clause-due g c = λ words asks.
    rw (c.in-Ok.ensures.counts, c.in_ok-print-in-Ok.ensures, c.spec-in-Ok.ensures.same)
    (printed c.in-Ok.spec (record { spec_name = c.args.spec.now; asks = asks; holds_spec = c.in-Ok.ensures.spec }))
