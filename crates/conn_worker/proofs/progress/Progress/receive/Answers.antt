use Rattle.conn_worker.proofs.SeenAt.{received_at}
use Rattle.conn_worker.proofs.progress.Progress.receive.Goals as goal

pub returns-clause-saw : goal.returns-clause-saw
returns-clause-saw g c = λ events book.
    let got = c.in_ok-step.ensures in
    received_at _ _ _ _ _ _ _ c.receive.new.room c.in_ok-step.step _ events book c.self.view_is got.came got.link (rw c.receive.auto.room got.step) c.received.ensures
