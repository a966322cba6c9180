use Rattle.dualtest_main.specs.Outcome.{scripted, spec_stops}
use Rattle.dualtest_main.specs.Words.{script}
use Rattle.dualtest_main.proofs.Answered.{if_answered}
use Rattle.dualtest_main.proofs.script.script_file.Goals as goal

pub returns-in-Err-clause-due : goal.returns-in-Err-clause-due
returns-in-Err-clause-due g c =
    if_answered c.stopped.result _ _
    (λ answer says. λ words asks. rw (says.0, says.1) (spec_stops (script c.args.spec.now c.args.recipe) c.in-Err.stop asks c.in-Err.ensures.stops)) c.stopped.ensures

pub returns-in_ok-script_text-in-Ok-clause-due : goal.returns-in_ok-script_text-in-Ok-clause-due
returns-in_ok-script_text-in-Ok-clause-due g c = λ words asks.
    rw (c.in-Ok.ensures.counts, c.in_ok-script_text-in-Ok.ensures)
    (scripted c.in-Ok.spec c.args.recipe (record { spec_name = c.args.spec.now; asks = asks; holds_spec = c.in-Ok.ensures.spec }))
