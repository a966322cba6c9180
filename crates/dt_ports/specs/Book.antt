-- What a book keeps and counts.
use Rattle.std.specs.Prelude.{◌≡◌, ℕ, ◌≤◌, List, [], ◌∷◌, ◌++◌}
use Rattle.dt_ports.specs.declared.book.Appended.{Appended}
use Rattle.dt_ports.specs.declared.book.Appended.TheVariants.{Kept, Full}
use Rattle.dt_ports.specs.declared.book.BookCounts.{BookCounts}
use Rattle.dt_ports.specs.Count.{next_count}
use Rattle.spec_model.specs.declared.event.ClientEvent.{ClientEvent}
use Rattle.spec_model.specs.declared.event.Verdict.{Verdict}
use Rattle.spec_model.specs.declared.event.Verdict.TheVariants.{Open, Reject, Inconclusive}

-- the events kept after the answer to an append: the event stands at the end, or there was no room for it
abbrev pub events_after : ClientEvent → Appended → List ClientEvent → List ClientEvent
events_after event (Kept place verdict fed) events = events ++ event ∷ []
events_after event (Full back) events = events

-- An event that is not kept is handed back.
abbrev pub HandsBack : ClientEvent → Appended → Type 0
HandsBack event (Kept place verdict fed) = Unit {0}
HandsBack event (Full back) = back ≡ event

-- the counts of a book that gave no answer yet
abbrev pub no_appends : BookCounts
no_appends = record { fulls = 0; stops = 0 }

-- the counts after an answer that shows this verdict, and after any answer
abbrev pub counts_after_verdict : Verdict → BookCounts → BookCounts
counts_after_verdict Open counts = counts
counts_after_verdict (Reject event) counts = record counts { stops = next_count counts.stops }
counts_after_verdict (Inconclusive event) counts = record counts { stops = next_count counts.stops }

abbrev pub counts_after_append : Appended → BookCounts → BookCounts
counts_after_append (Kept place verdict fed) counts = counts_after_verdict verdict counts
counts_after_append (Full back) counts = record counts { fulls = next_count counts.fulls }

-- No count of a book fell.
pub record NoBookCountFell (old new : BookCounts) : Type 0 where
  pub fulls : old.fulls ≤ new.fulls
  pub stops : old.stops ≤ new.stops
