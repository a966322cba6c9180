-- A book in memory.
use Rattle.std.specs.Prelude.{ℕ, ◌+◌, nat_lt, if◌then◌else◌, List, [], ◌∷◌, ◌++◌, length}
use Rattle.dt_ports.specs.declared.book.Appended.{Appended}
use Rattle.dt_ports.specs.declared.book.Appended.TheVariants.{Kept, Full}
use Rattle.dt_ports.specs.declared.book.BookCounts.{BookCounts}
use Rattle.dt_ports.specs.Book.{counts_after_append, events_after}
use Rattle.spec_model.specs.declared.event.ClientEvent.{ClientEvent}
use Rattle.spec_model.specs.declared.event.Shape.{Shape}
use Rattle.spec_model.specs.declared.event.Verdict.{Verdict}

-- the shape, the events, how many there may ever be, the verdict that each answer shows, and the counts of answers
pub record BookInMemory : Type 0 where
  pub shape : Shape
  pub events : List ClientEvent
  pub limit : ℕ
  pub verdict : Verdict
  pub counts : BookCounts

-- the answer to an event: it is kept where there is room
abbrev pub book_answer : BookInMemory → ClientEvent → Appended
book_answer book event =
    if nat_lt (length book.events) book.limit
    then Kept (length book.events + 1) book.verdict (length book.events + 1)
    else Full event

-- the book after that answer
abbrev pub book_after : BookInMemory → ClientEvent → BookInMemory
book_after book event = record book {
  events = events_after event (book_answer book event) book.events;
  counts = counts_after_append (book_answer book event) book.counts;
}
