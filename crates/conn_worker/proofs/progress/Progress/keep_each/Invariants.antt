use Rattle.std.proofs.Common.{◌≡◌, false, length}
use Rattle.conn_worker.specs.Seen.{Saw, at}
use Rattle.dt_ports.specs.Link.{LinkShows}
use Rattle.conn_worker.proofs.progress.Progress.keep_each.Given as goal

-- whole messages were kept so far, and the book was not full
abbrev pub invariant-loop-seen : goal.invariant-loop-seen
invariant-loop-seen g l = record {
  saw : (link : LinkShows) → Saw (at link l.initial.self (g.B.Book.events l.initial.book) (g.B.Book.counts l.initial.book))
      (at link l.self (g.B.Book.events l.book) (g.B.Book.counts l.book)) l.seen;
  ungarbled : l.seen.garbled ≡ false;
  room : l.seen.full ≡ false;
  book : g.B.Book.shape l.book ≡ l.self.shape;
  shape : g.B.Book.shape l.book ≡ g.B.Book.shape l.initial.book;
  name : g.B.Book.name l.book ≡ g.B.Book.name l.initial.book;
  over : l.self.is_over ≡ l.initial.self.is_over;
}

-- the bytes at hand
abbrev pub decreases-loop-seen : goal.decreases-loop-seen
decreases-loop-seen g l = length l.self.at_hand
