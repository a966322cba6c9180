use Rattle.std.proofs.Common.{refl, ◌∙◌}
use Rattle.explain_replay.proofs.Following.{finds_arm, finds_forced, finds_pick, finds_take, finds_test}
use Rattle.explain_replay.proofs.follower.Follower.next_event.Goals as goal

pub returns-in-Take-clause-next : goal.returns-in-Take-clause-next
returns-in-Take-clause-next c event events is step supplied =
    finds_take c.args.self.now c.in-Take.conn (record c.args.self.now { net = c.next_take.new.net }) c.next_take.result c.next_take.ensures.oldest c.next_take.ensures.left refl
    event events (is ∙ c.in-Take.is) step supplied

pub returns-in-Arm-clause-next : goal.returns-in-Arm-clause-next
returns-in-Arm-clause-next c event events is step supplied = finds_arm c.args.self.now c.in-Arm.arm event events (is ∙ c.in-Arm.is) step supplied

pub returns-in-Test-clause-next : goal.returns-in-Test-clause-next
returns-in-Test-clause-next c event events is step supplied = finds_test c.args.self.now c.in-Test.outcome event events (is ∙ c.in-Test.is) step supplied

pub returns-in-Pick-clause-next : goal.returns-in-Pick-clause-next
returns-in-Pick-clause-next c event events is step supplied =
    finds_pick c.args.self.now (record c.args.self.now { texts = c.next_pick.new.texts }) c.next_pick.result c.next_pick.ensures.first c.next_pick.ensures.left refl
    event events (is ∙ c.in-Pick.is) step supplied

pub returns-in-Send-clause-next : goal.returns-in-Send-clause-next
returns-in-Send-clause-next c = finds_forced c.args.self.now c.args.mark c.in-Send.field-0 c.in-Send.is c.forced.result c.forced.ensures.value
