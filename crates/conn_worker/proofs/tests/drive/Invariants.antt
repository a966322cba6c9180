use Rattle.std.proofs.Common.{◌≡◌, false}
use Rattle.conn_worker.specs.Driving.{Fits}
use Rattle.conn_worker.proofs.tests.drive.Given as goal

-- the driver fits its book, and is not over
abbrev pub invariant-turns : goal.invariant-turns
invariant-turns g l = record {
  shape : g.B.Book.shape l.book ≡ l.driver.course.shape;
  fits : Fits l.driver (g.B.Book.events l.book);
  goes_on : l.driver.course.is_over ≡ false;
}
