use Rattle.server_run.proofs.StatementKinds.{tested}
use Rattle.server_run.proofs.statement.after_stmt.Goals as goal

pub returns-in-Test : goal.returns-in-Test
returns-in-Test c = rw (c.in-Test.is, tested) c.after_test.ensures
