-- Why a turn answers what it answers.
use Rattle.std.proofs.Common.{◌≡◌, ◌≢◌, ℕ, zero, suc, ◌+◌, ◌-◌, ◌*◌, ◌<◌, ◌≤◌, Bool, true, false, List, [], ◌∷◌, length, Option, Some, None, refl, sym, ap, subst, ◌∙◌, inl, inr, arith}
use Rattle.std.specs.Prelude.{MatchBool}
use Rattle.std.specs.List.{slice_get}
use Rattle.std.proofs.lemmas.Bool.{cases_lt, le-ltb, lt-ltb}
use Rattle.conn_worker.proofs.Fitting.{driving, fits-counted, fits-given_up}
use Rattle.conn_worker.proofs.OneEvent
use Rattle.conn_worker.proofs.Told.{told-all}
use Rattle.conn_worker.specs.Driving.{Course, Fits, is_garbled_on}
use Rattle.conn_worker.specs.Parts.{PassesAwaits, can_be_done, is_met, next_action}
use Rattle.conn_worker.specs.Seen.{IsNoSend, IsStill, Saw, Tells, Waited, at, is_quiet}
use Rattle.conn_worker.specs.Settling.{Idles, IsOverWith, Settles}
use Rattle.conn_worker.specs.Turn.{EndsGarbled, GoesOn, HasCause, IsLastIdle, IsRestOf, Moved}
use Rattle.conn_worker.specs.declared.DriverState.{DriverState}
use Rattle.conn_worker.specs.declared.DriverState.TheVariants.{Going, Over}
use Rattle.conn_worker.specs.declared.TheConstants.{IDLE_TURNS, MOST_ACTIONS}
use Rattle.conn_worker.specs.declared.seen.Seen.{Seen}
use Rattle.dt_ports.specs.Count.{Rose, last_count, next_count}
use Rattle.dt_ports.specs.Link.{LinkShows}
use Rattle.dt_ports.specs.declared.book.BookCounts.{BookCounts}
use Rattle.dt_ports.specs.declared.end.End.{End}
use Rattle.dt_ports.specs.declared.end.End.TheVariants as ends
use Rattle.exchange_text.specs.declared.action.Action.{Action}
use Rattle.exchange_text.specs.declared.action.Action.TheVariants.{Send, Await}
use Rattle.frame_cut.specs.Frame.{IsGarbled, IsUnfinished}
use Rattle.spec_model.specs.World.{client_receipts}
use Rattle.spec_model.specs.declared.event.ClientEvent.{ClientEvent}
use Rattle.spec_model.specs.declared.event.Shape.{Shape}
use Rattle.std.specs.Prelude.{Ok}

-- one more than what a count reached is reached after one more answer
reached_next : (least count : ℕ) → least ≤ count → least + 1 ≤ last_count → least + 1 ≤ next_count count
reached_next least count reached below = elim (cases_lt count last_count) [
  | inl more ↦ rw (lt-ltb count last_count more) (omega arith)
  | inr most ↦ rw (le-ltb count last_count most) (omega arith)
]

rose_next : (count : ℕ) → Rose count (next_count count)
rose_next count below = rw (lt-ltb count last_count below) (omega arith)

-- an action that is no send, where one is left, is an await
await_left : (actions : List Action) (place : ℕ) → IsNoSend (slice_get actions place) → place < length actions
    → (count : ℕ) × (slice_get actions place ≡ Some (Await count))
await_left [] place no_send left = absurd (omega arith)
await_left (Await count ∷ actions) zero no_send left = (count, refl)
await_left (Send parts ∷ actions) zero no_send left = absurd no_send
await_left (action ∷ actions) (suc place) no_send left = await_left actions place no_send (omega arith)

-- what is neither met nor a send cannot be done
none_can : (received : ℕ) (action : Option Action) → is_met received action ≡ false → IsNoSend action → can_be_done received action ≡ false
none_can received None unmet no_send = refl
none_can received (Some (Await count)) unmet no_send = unmet
none_can received (Some (Send parts)) unmet no_send = absurd no_send

both_ways : (test : Bool) → test ≡ true → test ≡ false → ⊥
both_ways true is_true is_false = cc
both_ways false is_true is_false = cc

not_both : (shape : Shape) (bytes : List ℕ) → IsGarbled shape bytes → IsUnfinished shape bytes → ⊥
not_both shape bytes garbled (message, missing, front, some) = garbled.no_front message missing front

tells_rose : (test : Bool) (old new : ℕ) → test ≡ true → Tells test old new → Rose old new
tells_rose test old new is tells = let told : (old ≤ new) × Rose old new = subst (λ test. Tells test old new) is tells in told.1

tells_still : (test : Bool) (old new : ℕ) → test ≡ false → Tells test old new → new ≡ old
tells_still test old new none tells = subst (λ test. Tells test old new) none tells

-- A turn from when the met awaits were passed until its answer is decided.
module _ (link came : LinkShows) (start first last : Course) (events events_last : List ClientEvent) (book book_last : BookCounts)
    (passes : PassesAwaits start first) (fits : Fits (driving link start) events)
    (bounded : last.given_up ≤ MOST_ACTIONS) where
  fits_first : Fits (driving link first) events
  fits_first = passes.some.fits link events fits

  idle_first : first.idle ≡ start.idle
  idle_first = ap (λ course. course.idle) passes.some.only

  given_up_first : first.given_up ≡ start.given_up
  given_up_first = ap (λ course. course.given_up) passes.some.only

  module _ (seen : Seen) (saw : Saw (at link first events book) (at came last events_last book_last) seen)
      (waited : Waited (at link first events book) (at came last events_last book_last) seen)
      (garbled : seen.garbled ≡ true → EndsGarbled last.conn events_last)
      (rest : seen.garbled ≡ false → seen.full ≡ false → IsUnfinished last.shape last.at_hand) where
    fits_last : Fits (driving came last) events_last
    fits_last = saw.keeps.fits fits_first

    -- Where nothing was garbled and nothing refused, garbled bytes came never.
    ungarbled : seen.garbled ≡ false → seen.full ≡ false → is_garbled_on last.conn events_last ≡ false
    ungarbled not_now not_full = go (is_garbled_on last.conn events_last) fits_last.garbled
      where
        go : (test : Bool) → (test ≡ true → IsGarbled last.shape last.at_hand) → test ≡ false
        go false is = refl
        go true is = absurd (not_both last.shape last.at_hand (is refl) (rest not_now not_full))

    quiet_still : seen.moved ≡ false → IsStill (at link first events book) (at came last events_last book_last)
    quiet_still none = subst (λ moved. MatchBool moved (Moved (at link first events book) (at came last events_last book_last))
        (IsStill (at link first events book) (at came last events_last book_last))) none saw.moved

    -- what is reached in one idle turn more
    receives_reached : is_quiet seen ≡ true → last.idle + 1 ≤ IDLE_TURNS → seen.moved ≡ false
        → (last.idle + 1) + IDLE_TURNS * last.given_up ≤ came.counts.receives_not_ready
    receives_reached quiet few none =
        let idle = (quiet_still none).idle ∙ idle_first in
        let given_up = saw.given_up ∙ given_up_first in
        let reached = reached_next (start.idle + IDLE_TURNS * start.given_up) link.counts.receives_not_ready fits.waited (omega arith) in
        let now = waited.receives quiet in
        omega arith

    sends_reached : is_quiet seen ≡ true → last.idle + 1 ≤ IDLE_TURNS → seen.moved ≡ false → last.output ≢ [] → last.idle + 1 ≤ came.counts.sends_not_ready
    sends_reached quiet few none some =
        let still = quiet_still none in
        let idle = still.idle ∙ idle_first in
        let output_first : first.output ≡ start.output = ap (λ course. course.output) passes.some.only in
        let blocked = fits.blocked (λ empty. some (still.output ∙ output_first ∙ empty)) in
        let reached = reached_next start.idle link.counts.sends_not_ready blocked (omega arith) in
        let now = waited.sends quiet some in
        omega arith

    -- An idle turn leaves no action that can be done.
    undone : is_quiet seen ≡ true → seen.moved ≡ false → last.output ≡ [] → can_be_done (length last.receipts) (next_action last) ≡ false
    undone quiet none empty =
        let still = quiet_still none in
        let action : next_action last ≡ next_action first =
        ap (λ list. slice_get list last.passed) saw.keeps.task.actions ∙ ap (slice_get first.actions) still.passed in
        let receipts : last.receipts ≡ first.receipts =
        sym fits_last.receipts
        ∙ ap (client_receipts last.conn) still.events
        ∙ ap (λ conn. client_receipts conn events) saw.keeps.task.conn
        ∙ fits_first.receipts in
        let unmet : is_met (length last.receipts) (next_action last) ≡ false =
        ap (λ list. is_met (length list) (next_action last)) receipts ∙ ap (is_met (length first.receipts)) action ∙ passes.all in
        none_can _ _ unmet (waited.next quiet empty)

    -- an idle turn that is the last of so many
    last_idle : seen.moved ≡ false → last.idle + 1 ≡ IDLE_TURNS → {now : Course} → IsLastIdle (at link start events book) (at came now events_last book_last)
    last_idle none many =
        let still = quiet_still none in
        record { before = sym (ap (λ idle. idle + 1) (still.idle ∙ idle_first)) ∙ many; events = still.events }

    goes : seen.failed ≡ false → seen.full ≡ false → seen.garbled ≡ false → seen.ended ≡ false → seen.stopped ≡ false
        → (now : Course) → now.conn ≡ last.conn → GoesOn (at link start events book) (at came now events_last book_last)
    goes is_failed is_full is_garbled is_ended is_stopped now same = record {
      faultless = tells_still _ _ _ is_failed saw.failed;
      kept = tells_still _ _ _ is_full saw.full;
      ungarbled = rw same (ungarbled is_garbled is_full);
      unended = tells_still _ _ _ is_ended saw.ended;
      unstopped = tells_still _ _ _ is_stopped saw.stopped;
    }

    module _ (last_now : Course) (state : DriverState) where
      -- the end of an idle turn
      idled : is_quiet seen ≡ true → seen.moved ≡ false → ((now : Course) → now.conn ≡ last.conn → GoesOn (at link start events book) (at came now events_last book_last))
          → Idles last last_now state
          → HasCause (at link start events book) (at came last_now events_last book_last) state × Fits (driving came last_now) events_last
      idled quiet none goes_on (inl idles) =
          let still = quiet_still none in (
            rw (idles.answer, idles.course) (
              goes_on _ refl,
              inl (record {
                idle = ap (λ idle. idle + 1) (still.idle ∙ idle_first);
                not_ready = λ below. rw (waited.receives quiet) (rose_next link.counts.receives_not_ready below);
                undone = undone quiet none;
              }),
            ),
            rw idles.course (fits-counted came last events_last fits_last came.counts (last.idle + 1) last.is_over
                (receives_reached quiet (omega (arith, idles.few)) none) (λ some. sends_reached quiet (omega (arith, idles.few)) none some)),
          )
      idled quiet none goes_on (inr (inl gives_up)) =
          let (count, next) = await_left last.actions last.passed (waited.next quiet gives_up.handed_over) gives_up.left in
          let given_up = saw.given_up ∙ given_up_first in
          let reached = receives_reached quiet (omega (arith, gives_up.many)) none in
          let back : last.passed + 1 - 1 ≡ last.passed = omega arith in
          let unmet = ap (λ place. can_be_done (length last.receipts) (slice_get last.actions place)) back ∙ undone quiet none gives_up.handed_over in (
            rw (gives_up.answer, gives_up.course) (
              goes_on _ refl,
              inr (record { idle = refl; why = inr (record { last_idle = last_idle none gives_up.many; given_up = ap (λ count. count + 1) given_up; handed_over = gives_up.handed_over; unmet = unmet }) }),
            ),
            rw gives_up.course (fits-given_up came last events_last fits_last count next gives_up.handed_over (omega (arith, gives_up.many))),
          )
      idled quiet none goes_on (inr (inr (inl done))) =
          let reached = receives_reached quiet (omega (arith, done.many)) none in (
            rw (done.answer, done.course) (
              goes_on _ refl,
              record {
                last_idle = last_idle none done.many;
                passed = done.passed;
                handed_over = done.handed_over;
                sent = told-all came.sent last.output _ done.handed_over fits_last.sent;
                idle = done.many;
                not_ready = omega (arith, done.many);
              },
            ),
            rw done.course (fits-counted came last events_last fits_last came.counts (last.idle + 1) true reached (λ some. absurd (some done.handed_over))),
          )
      idled quiet none goes_on (inr (inr (inr idle))) =
          let reached = receives_reached quiet (omega (arith, idle.many)) none in
          let blocked = sends_reached quiet (omega (arith, idle.many)) none idle.output in (
            rw (idle.answer, idle.course) (goes_on _ refl, record { last_idle = last_idle none idle.many; output = idle.output; idle = idle.many; not_ready = omega (arith, idle.many) }),
            rw idle.course (fits-counted came last events_last fits_last came.counts (last.idle + 1) true reached (λ some. blocked)),
          )

      over_fits : (end : End) → IsOverWith end last last_now state → Fits (driving came last_now) events_last
      over_fits end over = rw over.course (fits-counted came last events_last fits_last came.counts last.idle true fits_last.waited fits_last.blocked)

      -- the end of a turn
      pub settled : Settles last last_now seen state
          → HasCause (at link start events book) (at came last_now events_last book_last) state × Fits (driving came last_now) events_last
      settled settles = go seen.failed seen.full seen.garbled seen.ended seen.stopped seen.moved refl refl refl refl refl refl settles
        where
          go : (failed full garbled_now ended stopped moved : Bool) → seen.failed ≡ failed → seen.full ≡ full → seen.garbled ≡ garbled_now → seen.ended ≡ ended
              → seen.stopped ≡ stopped → seen.moved ≡ moved
              → Settles last last_now (record { failed = failed; full = full; garbled = garbled_now; ended = ended; stopped = stopped; moved = moved }) state
              → HasCause (at link start events book) (at came last_now events_last book_last) state × Fits (driving came last_now) events_last
          go true full garbled_now ended stopped moved is_failed is_full is_garbled is_ended is_stopped is_moved over =
              (rw over.answer (tells_rose _ _ _ is_failed saw.failed), over_fits _ over)
          go false true garbled_now ended stopped moved is_failed is_full is_garbled is_ended is_stopped is_moved over =
              (rw over.answer (tells_still _ _ _ is_failed saw.failed, tells_rose _ _ _ is_full saw.full), over_fits _ over)
          go false false true ended stopped moved is_failed is_full is_garbled is_ended is_stopped is_moved over = (
            rw (over.answer, over.course) (tells_still _ _ _ is_failed saw.failed, tells_still _ _ _ is_full saw.full, garbled is_garbled),
            over_fits _ over,
          )
          go false false false true stopped moved is_failed is_full is_garbled is_ended is_stopped is_moved over = (
            rw (over.answer, over.course) (
              tells_still _ _ _ is_failed saw.failed,
              tells_still _ _ _ is_full saw.full,
              ungarbled is_garbled is_full,
              tells_rose _ _ _ is_ended saw.ended,
            ),
            over_fits _ over,
          )
          go false false false false true moved is_failed is_full is_garbled is_ended is_stopped is_moved over = (
            rw (over.answer, over.course) (
              tells_still _ _ _ is_failed saw.failed,
              tells_still _ _ _ is_full saw.full,
              ungarbled is_garbled is_full,
              tells_still _ _ _ is_ended saw.ended,
              tells_rose _ _ _ is_stopped saw.stopped,
            ),
            over_fits _ over,
          )
          go false false false false false true is_failed is_full is_garbled is_ended is_stopped is_moved anew = (
            rw (anew.answer, anew.course) (
              goes is_failed is_full is_garbled is_ended is_stopped _ refl,
              inr (record {
                idle = refl;
                why = inl (subst (λ moved. MatchBool moved (Moved (at link first events book) (at came last events_last book_last))
                    (IsStill (at link first events book) (at came last events_last book_last))) is_moved saw.moved);
              }),
            ),
            rw anew.course (fits-counted came last events_last fits_last came.counts 0 last.is_over (omega (arith, fits_last.waited)) (λ some. omega arith)),
          )
          go false false false false false false is_failed is_full is_garbled is_ended is_stopped is_moved idles =
              idled (rw (is_failed, is_full, is_garbled, is_ended, is_stopped, is_moved) refl) is_moved (goes is_failed is_full is_garbled is_ended is_stopped) idles

      -- the rest behind the last message, after a turn that answers so
      pub rest_settled : (E : Type 0) → Settles last last_now seen state → is_garbled_on last_now.conn events_last ≡ false
          → IsRestOf {E = E} (Ok state) last_now.shape last_now.at_hand
      rest_settled E settles clear = go seen.failed seen.full seen.garbled seen.ended seen.stopped seen.moved refl refl settles
        where
          P : DriverState → Course → Type 0
          P answer course = IsRestOf {E = E} (Ok answer) course.shape course.at_hand

          to : (answer : DriverState) (course : Course) → state ≡ answer → last_now ≡ course → P answer course → P state last_now
          to answer course same is holds = rw (same, is) holds

          idles_rest : seen.full ≡ false → seen.garbled ≡ false → Idles last last_now state → P state last_now
          idles_rest is_full is_garbled (inl idles) = to Going _ idles.answer idles.course (rest is_garbled is_full)
          idles_rest is_full is_garbled (inr (inl gives_up)) = to Going _ gives_up.answer gives_up.course (rest is_garbled is_full)
          idles_rest is_full is_garbled (inr (inr (inl done))) = to (Over ends.Done) _ done.answer done.course (rest is_garbled is_full)
          idles_rest is_full is_garbled (inr (inr (inr idle))) = to (Over ends.Idle) _ idle.answer idle.course (rest is_garbled is_full)

          go : (failed full garbled_now ended stopped moved : Bool) → seen.full ≡ full → seen.garbled ≡ garbled_now
              → Settles last last_now (record { failed = failed; full = full; garbled = garbled_now; ended = ended; stopped = stopped; moved = moved }) state
              → P state last_now
          go true full garbled_now ended stopped moved is_full is_garbled over = to (Over ends.Failed) _ over.answer over.course tt
          go false true garbled_now ended stopped moved is_full is_garbled over = to (Over ends.Full) _ over.answer over.course tt
          go false false true ended stopped moved is_full is_garbled over =
              let (before, is) = garbled is_garbled in
              let same : last_now.conn ≡ last.conn = ap (λ course. course.conn) over.course in
              let came_garbled : is_garbled_on last_now.conn events_last ≡ true = rw (same, is) (OneEvent.garbled-garbles last.conn before) in
              absurd (both_ways _ came_garbled clear)
          go false false false true stopped moved is_full is_garbled over = to (Over ends.Ended) _ over.answer over.course (rest is_garbled is_full)
          go false false false false true moved is_full is_garbled over = to (Over ends.Stopped) _ over.answer over.course (rest is_garbled is_full)
          go false false false false false true is_full is_garbled anew = to Going _ anew.answer anew.course (rest is_garbled is_full)
          go false false false false false false is_full is_garbled idles = idles_rest is_full is_garbled idles
