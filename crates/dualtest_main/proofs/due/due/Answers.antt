use Rattle.dualtest_main.specs.Outcome.{usage}
use Rattle.dualtest_main.proofs.due.due.Goals as goal

pub returns-in_ok-usage-in-None-clause-due : goal.returns-in_ok-usage-in-None-clause-due
returns-in_ok-usage-in-None-clause-due g c = rw c.in_ok-usage-in-None.ensures (usage c.in-None.ensures.none)
