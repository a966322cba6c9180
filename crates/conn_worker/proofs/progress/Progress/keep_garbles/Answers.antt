use Rattle.conn_worker.proofs.SeenAt.{garbled_at}
use Rattle.conn_worker.proofs.progress.Progress.keep_garbles.Goals as goal

pub returns-in-Kept-clause-saw : goal.returns-in-Kept-clause-saw
returns-in-Kept-clause-saw g c = λ link.
    garbled_at link _ _ _ _ _ _ c.in-Kept.verdict _ c.self.view_is c.requires.garbled c.in-Kept.ensures.grows c.in-Kept.ensures.counted c.garbled.ensures
