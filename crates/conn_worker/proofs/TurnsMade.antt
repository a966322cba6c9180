-- What whole turns leave, and what turns leave that find no memory.
use Rattle.std.proofs.Common.{◌≡◌, ◌≢◌, ◌≤◌, Bool, true, false, ◌||◌, List, [], Result, Ok, Err, IsErr, refl, sym, ap, subst, ◌∙◌}
use Rattle.conn_worker.proofs.Causes.{rest_settled, settled}
use Rattle.conn_worker.proofs.Fitting.{driving}
use Rattle.conn_worker.proofs.Flowing.{flows, rest_is}
use Rattle.conn_worker.proofs.Quiet.{waited_all}
use Rattle.conn_worker.proofs.Seeing.{adds_none, keeps_both, saw_both}
use Rattle.conn_worker.specs.Driving.{Course, Driving, Fits, is_garbled_on}
use Rattle.conn_worker.specs.Parts.{PassesAwaits, next_action}
use Rattle.conn_worker.specs.Seen.{IsNoSend, Keeps, Saw, at, both_seen}
use Rattle.conn_worker.specs.Settling.{Settles}
use Rattle.conn_worker.specs.Turn.{AddsOn, EndsGarbled, HasCause, HasFlow, IsRest, IsRestOf, SameTask, moment}
use Rattle.conn_worker.specs.declared.DriverState.{DriverState}
use Rattle.conn_worker.specs.declared.TheConstants.{MOST_ACTIONS}
use Rattle.conn_worker.specs.declared.seen.Seen.{Seen}
use Rattle.dt_ports.specs.Count.{next_count}
use Rattle.dt_ports.specs.Link.{LinkShows}
use Rattle.dt_ports.specs.declared.book.BookCounts.{BookCounts}
use Rattle.frame_cut.specs.Frame.{IsUnfinished}
use Rattle.spec_model.specs.declared.event.ClientEvent.{ClientEvent}

-- What a turn leaves, whatever it answers.
pub record Leaves {E : Type 0} (old now : Driving) (events events_now : List ClientEvent) (book_now : BookCounts) (answer : Result DriverState E) : Type 0 where
  pub fits : Fits now events_now
  pub task : SameTask old.course now.course
  pub adds : AddsOn old.course.conn events events_now
  pub flow : HasFlow answer (moment now events_now book_now)
  pub rest : IsRest (is_garbled_on now.course.conn events_now) answer now.course.shape now.course.at_hand

passing : (link : LinkShows) (start first : Course) (events : List ClientEvent) (book : BookCounts) → PassesAwaits start first
    → Keeps (at link start events book) (at link first events book)
passing link start first events book passes = record {
  task = record {
    shape = ap (λ course. course.shape) passes.some.only;
    conn = ap (λ course. course.conn) passes.some.only;
    actions = ap (λ course. course.actions) passes.some.only;
  };
  adds = adds_none _ events;
  fits = passes.some.fits link events;
}

-- where a turn found no memory the rest is any bytes
any_rest : {E : Type 0} (answer : Result DriverState E) (course : Course) → IsErr answer → IsRestOf answer course.shape course.at_hand
any_rest (Ok state) course failed = absurd (cc)
any_rest (Err error) course failed = tt

-- A turn that finds no memory.
pub cut_short : {E : Type 0} (link link_now : LinkShows) (start first course_now : Course) (old : Driving) (events events_now : List ClientEvent) (book book_now : BookCounts)
    (answer : Result DriverState E)
    → driving link start ≡ old → Fits old events → PassesAwaits start first
    → Keeps (at link first events book) (at link_now course_now events_now book_now) → IsErr answer
    → Leaves old (driving link_now course_now) events events_now book_now answer
cut_short {E} link link_now start first course_now old events events_now book book_now answer is fits passes keeps failed =
    let P : Driving → Type 0 = λ old. Fits old events → Leaves old (driving link_now course_now) events events_now book_now answer in
    subst P is (λ fits.
    let all = keeps_both _ (at link first events book) _ (passing link start first events book passes) keeps in
    let now = all.fits fits in
    let rest = rest_is answer (driving link_now course_now) events_now now (λ clear. any_rest answer course_now failed) in
    record {
      fits = now;
      task = all.task;
      adds = all.adds;
      flow = flows answer (driving link_now course_now) events_now book_now now rest;
      rest = rest;
    }) fits

-- A whole turn, with its cause.
pub made : {E : Type 0} (link handed came link_now : LinkShows) (start first said after_handing after_coming last last_now : Course) (old : Driving)
    (events events_said events_last : List ClientEvent) (book book_said book_last : BookCounts) (one two three four seen : Seen) (state : DriverState)
    → driving link start ≡ old → Fits old events → PassesAwaits start first
    → Saw (at link first events book) (at link said events_said book_said) one
    → Saw (at link said events_said book_said) (at handed after_handing events_said book_said) two
    → Saw (at handed after_handing events_said book_said) (at came after_coming events_said book_said) three
    → Saw (at came after_coming events_said book_said) (at came last events_last book_last) four
    → (one.moved ≡ false → one.full ≡ false → said.output ≡ [] → IsNoSend (next_action said))
    → (two.moved ≡ false → two.failed ≡ false → said.output ≢ [] → handed.counts.sends_not_ready ≡ next_count link.counts.sends_not_ready)
    → handed.counts.receives_not_ready ≡ link.counts.receives_not_ready
    → (three.moved ≡ false → three.failed ≡ false → three.ended ≡ false → came.counts.receives_not_ready ≡ next_count handed.counts.receives_not_ready)
    → came.counts.sends_not_ready ≡ handed.counts.sends_not_ready
    → one.garbled ≡ false → two.garbled ≡ false → three.garbled ≡ false
    → (four.garbled ≡ true → EndsGarbled last.conn events_last)
    → (four.garbled ≡ false → four.full ≡ false → IsUnfinished last.shape last.at_hand)
    → last.given_up ≤ MOST_ACTIONS → link_now ≡ came → seen ≡ both_seen (both_seen (both_seen one two) three) four
    → Settles last last_now seen state → SameTask last last_now
    → Leaves {E = E} old (driving link_now last_now) events events_last book_last (Ok state)
    × HasCause (moment old events book) (moment (driving link_now last_now) events_last book_last) state
made {E} link handed came link_now start first said after_handing after_coming last last_now old events events_said events_last book book_said book_last one two three four seen state
    is fits passes saw_one saw_two saw_three saw_four next sends receives_stay receives sends_stay none_one none_two none_three garbled rest bounded link_is seen_is settles task =
    let all : Seen = both_seen (both_seen (both_seen one two) three) four in
    let saw = saw_both _ _ _ (both_seen (both_seen one two) three) four (saw_both _ _ _ (both_seen one two) three (saw_both _ _ _ one two saw_one saw_two) saw_three) saw_four in
    let waited = waited_all link handed came first said after_handing after_coming last events events_said events_last book book_said book_last one two three four
    saw_one saw_two saw_three saw_four next sends receives_stay receives sends_stay in
    let garbles = all_garbled one.garbled two.garbled three.garbled four.garbled none_one none_two none_three in
    let all_ends : all.garbled ≡ true → EndsGarbled last.conn events_last = λ is_garbled. garbled (sym garbles ∙ is_garbled) in
    let all_rest : all.garbled ≡ false → all.full ≡ false → IsUnfinished last.shape last.at_hand =
    λ not_garbled not_full. rest (sym garbles ∙ not_garbled) (last_of (one.full || two.full || three.full) four.full not_full) in
    let settling = rw seen_is at settles in
    let P : Driving → Type 0 = λ old. Fits old events → Leaves {E = E} old (driving came last_now) events events_last book_last (Ok state)
    × HasCause (moment old events book) (moment (driving came last_now) events_last book_last) state in
    rw link_is (subst P is (λ fits.
    let end = settled link came start first last events events_last book book_last passes fits bounded all saw waited all_ends all_rest last_now state settling in
    let keeps = keeps_both _ (at link first events book) _ (passing link start first events book passes) saw.keeps in
    let left = rest_is {E = E} (Ok state) (driving came last_now) events_last end.1
    (rest_settled link came start first last events events_last book book_last passes fits bounded all saw waited all_ends all_rest last_now state E settling) in (
      record {
        fits = end.1;
        task = record {
          shape = task.shape ∙ keeps.task.shape;
          conn = task.conn ∙ keeps.task.conn;
          actions = task.actions ∙ keeps.task.actions;
        };
        adds = keeps.adds;
        flow = flows {E = E} (Ok state) (driving came last_now) events_last book_last end.1 left;
        rest = left;
      },
      end.0,
    )) fits)
  where
    all_garbled : (one two three four : Bool) → one ≡ false → two ≡ false → three ≡ false → (((one || two) || three) || four) ≡ four
    all_garbled one two three four none_one none_two none_three = rw (none_one, none_two, none_three) refl

    last_of : (front last : Bool) → (front || last) ≡ false → last ≡ false
    last_of true last none = absurd (cc)
    last_of false last none = none
