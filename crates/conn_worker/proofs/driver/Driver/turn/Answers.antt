use Rattle.std.proofs.Common.{Ok, sym, ap, ◌∙◌}
use Rattle.conn_worker.proofs.Fitting.{driving}
use Rattle.conn_worker.proofs.Seeing.{keeps_both, saw_nothing}
use Rattle.conn_worker.proofs.TurnsMade.{Leaves, cut_short, made}
use Rattle.conn_worker.specs.Driving.{Driving}
use Rattle.conn_worker.specs.Seen.{at, both_seen, shows}
use Rattle.conn_worker.specs.Turn.{HasCause, moment}
use Rattle.std.specs.declared.alloc.AllocError.{AllocError}
use Rattle.conn_worker.proofs.driver.Driver.turn.Given as given
use Rattle.conn_worker.proofs.driver.Driver.turn.Goals as goal

-- no memory for what is sent: nothing was kept
said_short : (g : given.Over) (c : goal.After-from_residual g)
    → Leaves {E = AllocError} c.args.self.now (driving (shows (g.L.Link.sent c.self.inside.link) (g.L.Link.got c.self.inside.link) (g.L.Link.counts c.self.inside.link)) c.say.new.self)
    (g.B.Book.events c.args.book.now) (g.B.Book.events c.say.new.book) (g.B.Book.counts c.say.new.book) c.from_residual.result
said_short g c =
    let said = c.in_err-said.ensures in
    let link = shows (g.L.Link.sent c.self.inside.link) (g.L.Link.got c.self.inside.link) (g.L.Link.counts c.self.inside.link) in
    let now = at link c.pass_awaits.new.self (g.B.Book.events c.args.book.now) (g.B.Book.counts c.args.book.now) in
    cut_short _ link _ _ c.say.new.self _ _ (g.B.Book.events c.say.new.book) (g.B.Book.counts c.args.book.now) (g.B.Book.counts c.say.new.book) c.from_residual.result
    c.self.view_is c.requires.fits c.pass_awaits.ensures (rw (said.err, said.err_book) (saw_nothing now).keeps) c.from_residual.ensures.0

pub returns-in_err-said-clause-flow : goal.returns-in_err-said-clause-flow
returns-in_err-said-clause-flow g c = (said_short g c).flow

pub returns-in_err-said-clause-rest : goal.returns-in_err-said-clause-rest
returns-in_err-said-clause-rest g c = (said_short g c).rest

-- no memory for what may come
came_short : (g : given.Over) (c : goal.After-from_residual-in_err-came g)
    → Leaves {E = AllocError} c.args.self.now (driving (shows (g.L.Link.sent c.receive.new.link) (g.L.Link.got c.receive.new.link) (g.L.Link.counts c.receive.new.link)) c.receive.new.self)
    (g.B.Book.events c.args.book.now) (g.B.Book.events c.say.new.book) (g.B.Book.counts c.say.new.book) c.from_residual-in_err-came.result
came_short g c =
    let events = g.B.Book.events c.say.new.book in
    let book = g.B.Book.counts c.say.new.book in
    let link = shows (g.L.Link.sent c.self.inside.link) (g.L.Link.got c.self.inside.link) (g.L.Link.counts c.self.inside.link) in
    let said = (c.in_ok-said.ensures.saw link).keeps in
    let handed = (c.hand_over-handed.ensures.saw events book).keeps in
    let came = c.in_err-came.ensures in
    rw (came.err, came.err_link)
    (cut_short link _ _ _ _ _ _ _ _ _ _ c.self.view_is c.requires.fits c.pass_awaits.ensures (keeps_both _ _ _ said handed) c.from_residual-in_err-came.ensures.0)

pub returns-in_err-came-clause-fits : goal.returns-in_err-came-clause-fits
returns-in_err-came-clause-fits g c = (came_short g c).fits

pub returns-in_err-came-clause-task : goal.returns-in_err-came-clause-task
returns-in_err-came-clause-task g c = (came_short g c).task

pub returns-in_err-came-clause-flow : goal.returns-in_err-came-clause-flow
returns-in_err-came-clause-flow g c = (came_short g c).flow

pub returns-in_err-came-clause-rest : goal.returns-in_err-came-clause-rest
returns-in_err-came-clause-rest g c = (came_short g c).rest

pub keep_messages-requires-after_bounds : goal.keep_messages-requires-after_bounds
keep_messages-requires-after_bounds g c = λ lifetimes bounds.
    let events = g.B.Book.events c.say.new.book in
    let book = g.B.Book.counts c.say.new.book in
    let link = shows (g.L.Link.sent c.self.inside.link) (g.L.Link.got c.self.inside.link) (g.L.Link.counts c.self.inside.link) in
    let first = ap (λ course. course.shape) c.pass_awaits.ensures.some.only in
    let said = (c.in_ok-said.ensures.saw link).keeps.task.shape in
    let handed = (c.hand_over-handed.ensures.saw events book).keeps.task.shape in
    let came = (c.in_ok-came.ensures.saw events book).keeps.task.shape in
    let shape_of : Driving → _ = λ old. old.course.shape in
    c.in_ok-said.ensures.shape ∙ c.requires.shape ∙ ap shape_of (sym c.self.view_is) ∙ sym first ∙ sym said ∙ sym handed ∙ sym came

-- no memory for a message that came
kept_short : (g : given.Over) (c : goal.After-from_residual-in_err-kept g)
    → Leaves {E = AllocError} c.args.self.now (driving (shows (g.L.Link.sent c.receive.new.link) (g.L.Link.got c.receive.new.link) (g.L.Link.counts c.receive.new.link)) c.keep_messages.new.self)
    (g.B.Book.events c.args.book.now) (g.B.Book.events c.keep_messages.new.book) (g.B.Book.counts c.keep_messages.new.book) c.from_residual-in_err-kept.result
kept_short g c =
    let events = g.B.Book.events c.say.new.book in
    let book = g.B.Book.counts c.say.new.book in
    let link = shows (g.L.Link.sent c.self.inside.link) (g.L.Link.got c.self.inside.link) (g.L.Link.counts c.self.inside.link) in
    let came_link = shows (g.L.Link.sent c.receive.new.link) (g.L.Link.got c.receive.new.link) (g.L.Link.counts c.receive.new.link) in
    let said = (c.in_ok-said.ensures.saw link).keeps in
    let handed = (c.hand_over-handed.ensures.saw events book).keeps in
    let came = (c.in_ok-came.ensures.saw events book).keeps in
    let kept = c.in_err-kept.ensures.err came_link in
    cut_short link _ _ _ _ _ _ _ _ _ _ c.self.view_is c.requires.fits c.pass_awaits.ensures (keeps_both _ _ _ (keeps_both _ _ _ (keeps_both _ _ _ said handed) came) kept)
    c.from_residual-in_err-kept.ensures.0

pub returns-in_err-kept-clause-fits : goal.returns-in_err-kept-clause-fits
returns-in_err-kept-clause-fits g c = (kept_short g c).fits

pub returns-in_err-kept-clause-task : goal.returns-in_err-kept-clause-task
returns-in_err-kept-clause-task g c = (kept_short g c).task

pub returns-in_err-kept-clause-adds : goal.returns-in_err-kept-clause-adds
returns-in_err-kept-clause-adds g c = (kept_short g c).adds

pub returns-in_err-kept-clause-flow : goal.returns-in_err-kept-clause-flow
returns-in_err-kept-clause-flow g c = (kept_short g c).flow

pub returns-in_err-kept-clause-rest : goal.returns-in_err-kept-clause-rest
returns-in_err-kept-clause-rest g c = (kept_short g c).rest

-- a whole turn
whole : (g : given.Over) (c : goal.After-settle g)
    → Leaves {E = AllocError} c.args.self.now (driving (shows (g.L.Link.sent c.rest.new.link) (g.L.Link.got c.rest.new.link) (g.L.Link.counts c.rest.new.link)) c.settle.new.self)
    (g.B.Book.events c.args.book.now) (g.B.Book.events c.keep_messages.new.book) (g.B.Book.counts c.keep_messages.new.book) (Ok c.settle.result)
    × HasCause (moment c.args.self.now (g.B.Book.events c.args.book.now) (g.B.Book.counts c.args.book.now))
    (moment (driving (shows (g.L.Link.sent c.rest.new.link) (g.L.Link.got c.rest.new.link) (g.L.Link.counts c.rest.new.link)) c.settle.new.self)
    (g.B.Book.events c.keep_messages.new.book) (g.B.Book.counts c.keep_messages.new.book)) c.settle.result
whole g c =
    let events = g.B.Book.events c.say.new.book in
    let book = g.B.Book.counts c.say.new.book in
    let link = shows (g.L.Link.sent c.self.inside.link) (g.L.Link.got c.self.inside.link) (g.L.Link.counts c.self.inside.link) in
    let came_link = shows (g.L.Link.sent c.receive.new.link) (g.L.Link.got c.receive.new.link) (g.L.Link.counts c.receive.new.link) in
    let said = c.in_ok-said.ensures in
    let handed = c.hand_over-handed.ensures in
    let came = c.in_ok-came.ensures in
    let kept = c.in_ok-kept.ensures in
    let seen = c.and-seen.ensures ∙ ap (λ seen. both_seen seen c.in_ok-kept.kept) (c.and-2.ensures ∙ ap (λ seen. both_seen seen c.in_ok-came.came) c.and.ensures) in
    made link _ came_link _ _ _ _ _ _ _ _ _ _ _ _ _ _ _ c.in_ok-said.said c.hand_over-handed.result c.in_ok-came.came c.in_ok-kept.kept _ _ c.self.view_is c.requires.fits c.pass_awaits.ensures
    (said.saw link) (handed.saw events book) (came.saw events book) (kept.saw came_link) said.next handed.waited handed.receives came.waited came.sends
    said.ungarbled handed.ungarbled came.ungarbled kept.garbled kept.rest c.settle.ensures.bounded c.rest.ensures seen c.settle.ensures.settles c.settle.ensures.task

pub returns-clause-fits : goal.returns-clause-fits
returns-clause-fits g c = (whole g c).0.fits

pub returns-clause-task : goal.returns-clause-task
returns-clause-task g c = (whole g c).0.task

pub returns-clause-adds : goal.returns-clause-adds
returns-clause-adds g c = (whole g c).0.adds

pub returns-clause-flow : goal.returns-clause-flow
returns-clause-flow g c = (whole g c).0.flow

pub returns-clause-rest : goal.returns-clause-rest
returns-clause-rest g c = (whole g c).0.rest

pub returns-clause-cause : goal.returns-clause-cause
returns-clause-cause g c = (whole g c).1
