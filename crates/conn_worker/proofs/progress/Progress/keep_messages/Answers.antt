use Rattle.conn_worker.proofs.progress.Progress.keep_messages.Goals as goal

pub returns-clause-saw : goal.returns-clause-saw
returns-clause-saw g c = λ link. rw (c.let_go.ensures, c.self.view_is) (c.in_ok-seen.ensures.saw link)
