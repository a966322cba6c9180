use Rattle.conn_worker.proofs.FirstFit.{fits_new}
use Rattle.conn_worker.specs.Seen.{shows}
use Rattle.conn_worker.proofs.driver.Driver.new.Goals as goal

pub returns-clause-fits : goal.returns-clause-fits
returns-clause-fits g c = λ events none.
    rw c.in_ok-new.ensures
    (fits_new (shows (g.L.Link.sent c.args.link) (g.L.Link.got c.args.link) (g.L.Link.counts c.args.link)) c.args.shape c.args.conn c.args.actions.items events c.requires.fresh none)
