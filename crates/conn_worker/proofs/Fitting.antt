-- A driver fits its book after each part of a turn.
use Rattle.std.proofs.Common.{◌≡◌, ◌≢◌, ℕ, ◌+◌, ◌*◌, ◌≤◌, Bool, true, false, cond, ltb, List, [], ◌∷◌, ◌++◌, length, take, drop, Some, option_map, refl, sym, ap, subst, ◌∙◌, arith, length-append}
use Rattle.std.specs.List.{slice_get}
use Rattle.std.specs.Option.{IfSome}
use Rattle.std.proofs.Math.Seq.{drop-nil}
use Rattle.std.proofs.lemmas.Bool.{le-ltb}
use Rattle.conn_worker.proofs.OneEvent
use Rattle.conn_worker.proofs.PassedActions.{send_numbered, sends_with_await, sends_with_send, unmet_with_await, unmet_with_send}
use Rattle.conn_worker.proofs.Told.{told-came, told-due, told-kept, told-moved}
use Rattle.conn_worker.specs.Driving.{Course, Driving, Fits}
use Rattle.conn_worker.specs.Parts.{next_action}
use Rattle.conn_worker.specs.declared.TheConstants.{IDLE_TURNS}
use Rattle.dt_ports.specs.Link.{LinkShows}
use Rattle.dt_ports.specs.Told.{told_with}
use Rattle.dt_ports.specs.declared.link.LinkCounts.{LinkCounts}
use Rattle.exchange_text.proofs.FollowedActions.{follows_garbled, follows_received, follows_sent, next_message, no_more_unmet}
use Rattle.exchange_text.specs.Follows.{sends_of}
use Rattle.exchange_text.specs.Resolved.{resolved}
use Rattle.exchange_text.specs.declared.action.Action.TheVariants.{Send, Await}
use Rattle.exchange_text.specs.declared.action.Part.{Part}
use Rattle.frame_cut.proofs.Fronts.{garbled_longer}
use Rattle.frame_cut.specs.Frame.{BeginsWith, IsGarbled}
use Rattle.spec_model.specs.Message.{frame_of, frames_of}
use Rattle.spec_model.specs.World.{client_receipts, client_sends}
use Rattle.spec_model.specs.declared.event.ClientEvent.{ClientEvent}
use Rattle.spec_model.specs.declared.event.ClientEvent.TheVariants.{Sends, Receives, Garbles}

abbrev pub driving : LinkShows → Course → Driving
driving link course = record { link = link; course = course }

at_most_one : (test : Bool) → cond test 1 0 ≤ 1
at_most_one true = omega arith
at_most_one false = omega arith

module _ (link : LinkShows) (course : Course) (events : List ClientEvent) (fits : Fits (driving link course) events) where
  few : length (client_sends course.conn events) ≤ length (sends_of (take course.passed course.actions))
  few = omega (arith, fits.sends)

  -- a met await is passed
  pub fits-met : (count : ℕ) → next_action course ≡ Some (Await count) → count ≤ length course.receipts
      → Fits (driving link (record course { passed = course.passed + 1 })) events
  fits-met count at enough =
      let more = unmet_with_await course.conn course.actions course.passed count events at few in
      let all : count ≤ length (client_receipts course.conn events) = omega (arith, ap length fits.receipts) in
      let met : ◌≡◌ {A = ℕ} (cond (ltb (length (client_receipts course.conn events)) count) 1 0) 0 = rw (le-ltb _ _ all) refl in
      record {
        follows = fits.follows;
        sends = fits.sends ∙ sym (sends_with_await course.actions course.passed count at);
        receipts = fits.receipts;
        sent = fits.sent;
        got = fits.got;
        garbled = fits.garbled;
        unmet = omega (arith, more, met, fits.unmet);
        waited = fits.waited;
        blocked = fits.blocked;
      }

  -- an await is given up after so many idle turns
  pub fits-given_up : (count : ℕ) → next_action course ≡ Some (Await count) → course.output ≡ []
      → IDLE_TURNS + IDLE_TURNS * course.given_up ≤ link.counts.receives_not_ready
      → Fits (driving link (record course { passed = course.passed + 1; given_up = course.given_up + 1; idle = 0 })) events
  fits-given_up count at none long =
      let more = unmet_with_await course.conn course.actions course.passed count events at few in
      let one = at_most_one (ltb (length (client_receipts course.conn events)) count) in
      record {
        follows = fits.follows;
        sends = fits.sends ∙ sym (sends_with_await course.actions course.passed count at);
        receipts = fits.receipts;
        sent = fits.sent;
        got = fits.got;
        garbled = fits.garbled;
        unmet = omega (arith, more, one, fits.unmet);
        waited = omega arith;
        blocked = λ some. absurd (some none);
      }

  -- the counts of idle turns and of the link change
  pub fits-counted : (counts : LinkCounts) (idle : ℕ) (is_over : Bool) → idle + IDLE_TURNS * course.given_up ≤ counts.receives_not_ready
      → (course.output ≢ [] → idle ≤ counts.sends_not_ready)
      → Fits (driving (record link { counts = counts }) (record course { idle = idle; is_over = is_over })) events
  fits-counted counts idle is_over waited blocked = record {
    follows = fits.follows;
    sends = fits.sends;
    receipts = fits.receipts;
    sent = fits.sent;
    got = fits.got;
    garbled = fits.garbled;
    unmet = fits.unmet;
    waited = waited;
    blocked = blocked;
  }

  -- the message of a send is kept as sent, and is to be handed over
  pub fits-said : (parts : List Part) (message : List ℕ) → next_action course ≡ Some (Send parts) → course.output ≡ []
      → message ≡ resolved parts course.receipts
      → Fits (driving link (record course { passed = course.passed + 1; output = frame_of course.shape.framing message; idle = 0 }))
      (events ++ Sends course.conn message ∷ [])
  fits-said parts message at none is =
      let numbered : slice_get (sends_of course.actions) (length (client_sends course.conn events)) ≡ Some parts =
      rw fits.sends (send_numbered course.actions course.passed parts at) in
      let due : next_message course.conn course.actions events ≡ Some message =
      ap (option_map (λ parts. resolved parts (client_receipts course.conn events))) numbered
      ∙ ap Some (ap (resolved parts) fits.receipts ∙ sym is) in
      let no_more = no_more_unmet course.conn 0 (take course.passed course.actions) events (Sends course.conn message) in
      let same = unmet_with_send course.conn course.actions course.passed parts (events ++ Sends course.conn message ∷ []) at in
      let framing = course.shape.framing in
      let sends = OneEvent.sends-sends course.conn events message in
      let frames : frames_of framing (client_sends course.conn (events ++ Sends course.conn message ∷ []))
      ≡ frames_of framing (client_sends course.conn events) ++ frame_of framing message =
      ap (frames_of framing) sends ∙ OneEvent.frames_more framing (client_sends course.conn events) message in
      let P : List ℕ → Type 0 = λ all. IfSome link.sent (λ bytes. bytes ++ frame_of framing message ≡ all) in
      record {
        follows = follows_sent course.conn course.actions events message fits.follows due;
        sends = rw sends (omega (
          arith,
          length-append (client_sends course.conn events) (message ∷ []),
          fits.sends,
          sends_with_send course.actions course.passed parts at,
        ));
        receipts = OneEvent.receipts-sends course.conn events message ∙ fits.receipts;
        sent = subst P (sym frames) (told-due link.sent course.output _ (frame_of framing message) none fits.sent);
        got = fits.got;
        garbled = λ garbled. fits.garbled (sym (OneEvent.garbled-sends course.conn events message) ∙ garbled);
        unmet = omega (arith, no_more, same, fits.unmet);
        waited = omega (arith, fits.waited);
        blocked = λ some. omega arith;
      }

  -- some of the output is handed over
  pub fits-handed : (count : ℕ) (counts : LinkCounts) → counts ≡ link.counts
      → Fits (driving (record { sent = told_with (take count course.output) link.sent; got = link.got; counts = counts })
      (record course { output = drop count course.output })) events
  fits-handed count counts same = record {
    follows = fits.follows;
    sends = fits.sends;
    receipts = fits.receipts;
    sent = told-moved link.sent count course.output _ fits.sent;
    got = fits.got;
    garbled = fits.garbled;
    unmet = fits.unmet;
    waited = rw same fits.waited;
    blocked = λ some. rw same (fits.blocked (λ none. some (rw none (drop-nil count))));
  }

  -- bytes came, and perhaps nothing did
  pub fits-came : (more : List ℕ) (counts : LinkCounts) → link.counts.receives_not_ready ≤ counts.receives_not_ready
      → link.counts.sends_not_ready ≤ counts.sends_not_ready
      → Fits (driving (record { sent = link.sent; got = told_with more link.got; counts = counts })
      (record course { at_hand = course.at_hand ++ more })) events
  fits-came more counts receives sends = record {
    follows = fits.follows;
    sends = fits.sends;
    receipts = fits.receipts;
    sent = fits.sent;
    got = told-came link.got _ course.at_hand more fits.got;
    garbled = λ garbled. garbled_longer course.shape course.at_hand more (fits.garbled garbled);
    unmet = fits.unmet;
    waited = omega (arith, fits.waited);
    blocked = λ some. let few = fits.blocked some in omega arith;
  }

  -- a message at the front is kept as received
  pub fits-kept : (message rest : List ℕ) → BeginsWith course.shape course.at_hand message rest
      → Fits (driving link (record course { receipts = course.receipts ++ message ∷ []; at_hand = rest; idle = 0 }))
      (events ++ Receives course.conn message ∷ [])
  fits-kept message rest begins =
      let framing = course.shape.framing in
      let frames = OneEvent.frames_more framing course.receipts message in
      let kept = told-kept link.got _ (frame_of framing message) course.at_hand rest begins.are fits.got in
      let P : List ℕ → Type 0 = λ front. IfSome link.got (λ bytes. bytes ≡ front ++ rest) in
      let Q : List (List ℕ) → Type 0 = λ messages. IfSome link.sent (λ bytes. bytes ++ course.output ≡ frames_of framing messages) in
      let sends = OneEvent.sends-receives course.conn events message in
      let no_more = no_more_unmet course.conn 0 (take course.passed course.actions) events (Receives course.conn message) in
      record {
        follows = follows_received course.conn course.actions events course.conn message fits.follows;
        sends = ap length sends ∙ fits.sends;
        receipts = OneEvent.receipts-receives course.conn events message ∙ ap (λ messages. messages ++ message ∷ []) fits.receipts;
        sent = subst Q (sym sends) fits.sent;
        got = subst P (sym frames) kept;
        garbled = λ garbled. absurd ((fits.garbled (sym (OneEvent.garbled-receives course.conn events message) ∙ garbled)).no_frame message rest begins);
        unmet = omega (arith, no_more, fits.unmet);
        waited = omega (arith, fits.waited);
        blocked = λ some. omega arith;
      }

  -- it is kept that what is at hand begins no message
  pub fits-garbled : IsGarbled course.shape course.at_hand
      → Fits (driving link (record course { idle = 0 })) (events ++ Garbles course.conn ∷ [])
  fits-garbled is =
      let framing = course.shape.framing in
      let Q : List (List ℕ) → Type 0 = λ messages. IfSome link.sent (λ bytes. bytes ++ course.output ≡ frames_of framing messages) in
      let sends = OneEvent.sends-garbles course.conn events in
      let no_more = no_more_unmet course.conn 0 (take course.passed course.actions) events (Garbles course.conn) in
      record {
        follows = follows_garbled course.conn course.actions events course.conn fits.follows;
        sends = ap length sends ∙ fits.sends;
        receipts = OneEvent.receipts-garbles course.conn events ∙ fits.receipts;
        sent = subst Q (sym sends) fits.sent;
        got = fits.got;
        garbled = λ garbled. is;
        unmet = omega (arith, no_more, fits.unmet);
        waited = omega (arith, fits.waited);
        blocked = λ some. omega arith;
      }
