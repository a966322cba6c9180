-- What contracts see of the program's bookkeeping.
use Rattle.conn_worker.specs.declared.progress.Progress.TheInside.{Inside}
use Rattle.conn_worker.specs.Driving.{Course}

abbrev pub course_of : Inside → Course
course_of progress = record {
  shape = progress.shape;
  conn = progress.conn;
  actions = progress.actions.items;
  passed = progress.passed;
  given_up = progress.given_up;
  receipts = progress.receipts.items;
  output = progress.output;
  at_hand = progress.at_hand;
  idle = progress.idle;
  is_over = progress.is_over;
}
