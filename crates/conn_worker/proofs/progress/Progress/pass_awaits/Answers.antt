use Rattle.std.proofs.Common.{sym}
use Rattle.conn_worker.proofs.AwaitsPassed.{one_more}
use Rattle.conn_worker.proofs.progress.Progress.pass_awaits.Goals as goal

pub loop-self-preserved : goal.loop-self-preserved
loop-self-preserved c = one_more c.args.self.now c.loop-self.self _ c.self.view_is c.loop-self.invariant (sym c.loop-self-test.ensures)
