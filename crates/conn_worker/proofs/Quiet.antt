-- Turns in which nothing was seen.
use Rattle.std.proofs.Common.{◌≡◌, ◌≢◌, Bool, true, false, ◌||◌, List, [], refl, sym, ap, subst, ◌∙◌}
use Rattle.std.specs.Prelude.{MatchBool}
use Rattle.std.specs.List.{slice_get}
use Rattle.conn_worker.specs.Driving.{Course}
use Rattle.conn_worker.specs.Parts.{next_action}
use Rattle.conn_worker.specs.Seen.{IsNoSend, IsStill, Saw, Waited, at, both_seen, is_quiet}
use Rattle.conn_worker.specs.Turn.{Moment, Moved}
use Rattle.conn_worker.specs.declared.seen.Seen.{Seen}
use Rattle.dt_ports.specs.Count.{next_count}
use Rattle.dt_ports.specs.Link.{LinkShows}
use Rattle.dt_ports.specs.declared.book.BookCounts.{BookCounts}
use Rattle.spec_model.specs.declared.event.ClientEvent.{ClientEvent}

-- nothing of it
pub record IsNothing (seen : Seen) : Type 0 where
  pub failed : seen.failed ≡ false
  pub full : seen.full ≡ false
  pub garbled : seen.garbled ≡ false
  pub ended : seen.ended ≡ false
  pub stopped : seen.stopped ≡ false
  pub moved : seen.moved ≡ false

abbrev seen_of : Bool → Bool → Bool → Bool → Bool → Bool → Seen
seen_of failed full garbled ended stopped moved =
    record { failed = failed; full = full; garbled = garbled; ended = ended; stopped = stopped; moved = moved }

pub quiet_is : (seen : Seen) → is_quiet seen ≡ true → IsNothing seen
quiet_is seen quiet = go seen.failed seen.full seen.garbled seen.ended seen.stopped seen.moved quiet
  where
    go : (failed full garbled ended stopped moved : Bool) → is_quiet (seen_of failed full garbled ended stopped moved) ≡ true
        → IsNothing (seen_of failed full garbled ended stopped moved)
    go true full garbled ended stopped moved quiet = absurd (cc)
    go false true garbled ended stopped moved quiet = absurd (cc)
    go false false true ended stopped moved quiet = absurd (cc)
    go false false false true stopped moved quiet = absurd (cc)
    go false false false false true moved quiet = absurd (cc)
    go false false false false false true quiet = absurd (cc)
    go false false false false false false quiet =
        record { failed = refl; full = refl; garbled = refl; ended = refl; stopped = refl; moved = refl }

or_none : (one other : Bool) → (one || other) ≡ false → (one ≡ false) × (other ≡ false)
or_none true other none = absurd (cc)
or_none false other none = (refl, none)

pub nothing_parts : (one other : Seen) → IsNothing (both_seen one other) → IsNothing one × IsNothing other
nothing_parts one other none =
    let failed = or_none one.failed other.failed none.failed in
    let full = or_none one.full other.full none.full in
    let garbled = or_none one.garbled other.garbled none.garbled in
    let ended = or_none one.ended other.ended none.ended in
    let stopped = or_none one.stopped other.stopped none.stopped in
    let moved = or_none one.moved other.moved none.moved in (
      record { failed = failed.0; full = full.0; garbled = garbled.0; ended = ended.0; stopped = stopped.0; moved = moved.0 },
      record { failed = failed.1; full = full.1; garbled = garbled.1; ended = ended.1; stopped = stopped.1; moved = moved.1 },
    )

-- where nothing moved, all is still
pub is_still : (old new : Moment) (seen : Seen) → Saw old new seen → seen.moved ≡ false → IsStill old new
is_still old new seen saw none = subst (λ moved. MatchBool moved (Moved old new) (IsStill old new)) none saw.moved

-- The parts of a turn after one another: what is sent, what is handed over, what comes, and what is kept.
module _ (link handed came : LinkShows) (first said after_handing after_coming last : Course) (events events_said events_last : List ClientEvent) (book book_said book_last : BookCounts) (one two three four : Seen)
    (saw_one : Saw (at link first events book) (at link said events_said book_said) one)
    (saw_two : Saw (at link said events_said book_said) (at handed after_handing events_said book_said) two)
    (saw_three : Saw (at handed after_handing events_said book_said) (at came after_coming events_said book_said) three)
    (saw_four : Saw (at came after_coming events_said book_said) (at came last events_last book_last) four)
    (next : one.moved ≡ false → one.full ≡ false → said.output ≡ [] → IsNoSend (next_action said))
    (sends : two.moved ≡ false → two.failed ≡ false → said.output ≢ [] → handed.counts.sends_not_ready ≡ next_count link.counts.sends_not_ready)
    (receives_stay : handed.counts.receives_not_ready ≡ link.counts.receives_not_ready)
    (receives : three.moved ≡ false → three.failed ≡ false → three.ended ≡ false → came.counts.receives_not_ready ≡ next_count handed.counts.receives_not_ready)
    (sends_stay : came.counts.sends_not_ready ≡ handed.counts.sends_not_ready) where
  parts : is_quiet (both_seen (both_seen (both_seen one two) three) four) ≡ true → IsNothing one × IsNothing two × IsNothing three × IsNothing four
  parts quiet =
      let (front, four_none) = nothing_parts (both_seen (both_seen one two) three) four (quiet_is _ quiet) in
      let (first_two, three_none) = nothing_parts (both_seen one two) three front in
      let (one_none, two_none) = nothing_parts one two first_two in
      (one_none, two_none, three_none, four_none)

  pub waited_all : Waited (at link first events book) (at came last events_last book_last) (both_seen (both_seen (both_seen one two) three) four)
  waited_all = record {
    receives = λ quiet. let none = parts quiet in receives none.2.moved none.2.failed none.2.ended ∙ ap next_count receives_stay;
    sends = λ quiet some. let none = parts quiet in
        let output = (is_still _ _ four saw_four none.3.moved).output ∙ (is_still _ _ three saw_three none.2.moved).output ∙ (is_still _ _ two saw_two none.1.moved).output in
        sends_stay ∙ sends none.1.moved none.1.failed (λ empty. some (output ∙ empty));
    next = λ quiet empty. let none = parts quiet in
        let two_still = is_still _ _ two saw_two none.1.moved in
        let three_still = is_still _ _ three saw_three none.2.moved in
        let four_still = is_still _ _ four saw_four none.3.moved in
        let output = four_still.output ∙ three_still.output ∙ two_still.output in
        let actions = saw_four.keeps.task.actions ∙ saw_three.keeps.task.actions ∙ saw_two.keeps.task.actions in
        let passed = four_still.passed ∙ three_still.passed ∙ two_still.passed in
        let action : next_action last ≡ next_action said = ap (λ list. slice_get list last.passed) actions ∙ ap (slice_get said.actions) passed in
        subst IsNoSend (sym action) (next none.0.moved none.0.full (sym output ∙ empty));
  }
