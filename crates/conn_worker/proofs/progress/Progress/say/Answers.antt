use Rattle.std.proofs.Common.{◌∙◌}
use Rattle.conn_worker.proofs.SeenAt.{said_at}
use Rattle.conn_worker.proofs.progress.Progress.say.Goals as goal

pub returns-in-Kept-clause-saw : goal.returns-in-Kept-clause-saw
returns-in-Kept-clause-saw g c = λ link.
    said_at link _ _ _ c.in-Some.message _ _ _ _ _ c.in-Kept.verdict _ c.self.view_is c.in_ok-message.ensures.value c.in-Some.is (c.of.ensures ∙ c.in_ok-frame.ensures)
    c.in-Kept.ensures.grows c.in-Kept.ensures.counted c.kept.ensures
