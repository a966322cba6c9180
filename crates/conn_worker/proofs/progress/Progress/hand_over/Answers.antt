use Rattle.conn_worker.proofs.SeenAt.{handed_at}
use Rattle.conn_worker.proofs.progress.Progress.hand_over.Goals as goal

pub returns-in-Took-clause-saw : goal.returns-in-Took-clause-saw
returns-in-Took-clause-saw g c = λ events book.
    let sent = c.in-Took.ensures in
    handed_at _ _ _ _ _ _ _ _ _ _ c.in-Took.count _ events book c.self.view_is c.as_slice.ensures c.pass.ensures sent.grows sent.kept sent.counted sent.within c.moved.ensures
