use Rattle.std.proofs.Common.{None, refl, sym, ◌∙◌}
use Rattle.conn_worker.proofs.Lists.{on_err}
use Rattle.conn_worker.proofs.Seeing.{saw_both, saw_nothing}
use Rattle.conn_worker.specs.Seen.{Keeps, at}
use Rattle.dt_ports.specs.Link.{LinkShows, no_answers}
use Rattle.conn_worker.proofs.progress.Progress.keep_each.Goals as goal

-- some link
nowhere : LinkShows
nowhere = record { sent = None; got = None; counts = no_answers }

pub loop-seen-init : goal.loop-seen-init
loop-seen-init g c = rw c.nothing-seen.ensures (record {
  saw = λ link. saw_nothing (at link c.args.self.now (g.B.Book.events c.args.book.now) (g.B.Book.counts c.args.book.now));
  ungarbled = refl;
  room = refl;
  book = c.requires;
  shape = refl;
  name = refl;
  over = refl;
})

pub returns-in-Garbled-clause-saw : goal.returns-in-Garbled-clause-saw
returns-in-Garbled-clause-saw g c = λ link.
    rw c.and.ensures (saw_both _ _ _ _ _ (c.loop-seen.invariant.saw link) (c.keep_garbles.ensures.saw link))

pub returns-in_err-keep_message-in-Whole-clause-err : goal.returns-in_err-keep_message-in-Whole-clause-err
returns-in_err-keep_message-in-Whole-clause-err g c =
    let kept = c.in_err-keep_message-in-Whole.ensures in
    let keeps : (link : LinkShows) → Keeps (at link c.args.self.now (g.B.Book.events c.args.book.now) (g.B.Book.counts c.args.book.now))
    (at link c.keep_message.new.self (g.B.Book.events c.keep_message.new.book) (g.B.Book.counts c.keep_message.new.book)) =
    λ link. rw (kept.err, kept.err_book) ((c.loop-seen.invariant.saw link).keeps) in
    on_err _ _ keeps

pub returns-then-seen-clause-saw : goal.returns-then-seen-clause-saw
returns-then-seen-clause-saw g c = λ link.
    rw c.and-seen.ensures (saw_both _ _ _ _ _ (c.loop-seen.invariant.saw link) (c.in_ok-keep_message-in-Whole.ensures.saw link))

pub loop-seen-preserved : goal.loop-seen-preserved
loop-seen-preserved g c =
    let kept = c.in_ok-keep_message-in-Whole.ensures in
    let before = c.loop-seen.invariant in
    record {
      saw = λ link. rw c.and-seen.ensures (saw_both _ _ _ _ _ (before.saw link) (kept.saw link));
      ungarbled = rw (c.and-seen.ensures, before.ungarbled, kept.ungarbled) refl;
      room = c.if-seen.false;
      book = kept.shape ∙ (before.book ∙ sym (kept.saw nowhere).keeps.task.shape);
      shape = kept.shape ∙ before.shape;
      name = kept.name ∙ before.name;
      over = kept.over ∙ before.over;
    }
