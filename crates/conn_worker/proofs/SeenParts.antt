-- What each part of a turn saw.
use Rattle.std.proofs.Common.{◌≡◌, ℕ, ◌+◌, ◌<◌, ◌≤◌, true, List, [], ◌∷◌, ◌++◌, length, take, drop, Option, Some, None, refl, ap, subst, inl, inr, arith, length-append, length-take, append-nil}
use Rattle.conn_worker.proofs.Fitting.{driving, fits-came, fits-garbled, fits-handed, fits-kept, fits-said}
use Rattle.conn_worker.proofs.Seeing.{adds_none, adds_one, tells_next}
use Rattle.conn_worker.proofs.Told.{grew_with, no_shorter_same, no_shorter_with}
use Rattle.conn_worker.specs.Driving.{Course, Fits}
use Rattle.conn_worker.specs.Parts.{bytes_got, next_action}
use Rattle.conn_worker.specs.Seen.{Keeps, Saw, Tells, at, nothing_seen, received_seen, shows, stops}
use Rattle.conn_worker.specs.Turn.{Moment}
use Rattle.dt_ports.specs.Book.{counts_after_verdict}
use Rattle.dt_ports.specs.Count.{next_count}
use Rattle.dt_ports.specs.Link.{GetsSome, LinkShows, counts_after_receive, got_after}
use Rattle.dt_ports.specs.Told.{told_with}
use Rattle.dt_ports.specs.declared.book.BookCounts.{BookCounts}
use Rattle.dt_ports.specs.declared.link.LinkCounts.{LinkCounts}
use Rattle.dt_ports.specs.declared.link.RecvStep.{RecvStep}
use Rattle.dt_ports.specs.declared.link.RecvStep.TheVariants as receives
use Rattle.exchange_text.specs.Resolved.{resolved}
use Rattle.exchange_text.specs.declared.action.Action.TheVariants.{Send}
use Rattle.exchange_text.specs.declared.action.Part.{Part}
use Rattle.frame_cut.specs.Frame.{BeginsWith, IsGarbled}
use Rattle.spec_model.specs.Message.{frame_of}
use Rattle.spec_model.specs.declared.event.ClientEvent.{ClientEvent}
use Rattle.spec_model.specs.declared.event.ClientEvent.TheVariants.{Sends, Receives, Garbles}
use Rattle.spec_model.specs.declared.event.Verdict.{Verdict}
use Rattle.spec_model.specs.declared.event.Verdict.TheVariants.{Open, Reject, Inconclusive}

told_nothing : (told : Option (List ℕ)) → told_with [] told ≡ told
told_nothing None = refl
told_nothing (Some bytes) = ap Some (append-nil bytes)

next_no_less : (count : ℕ) → count ≤ next_count count
next_no_less count = grind arith

-- some of the output was handed over
pub saw_handed : (sent got : Option (List ℕ)) (counts : LinkCounts) (course : Course) (count : ℕ) (events : List ClientEvent) (book : BookCounts)
    → 0 < count → count ≤ length course.output
    → Saw (at (shows sent got counts) course events book)
    (at (shows (told_with (take count course.output) sent) got counts) (record course { output = drop count course.output }) events book)
    (record nothing_seen { moved = true })
saw_handed sent got counts course count events book some within = record {
  keeps = record {
    task = record { shape = refl; conn = refl; actions = refl };
    adds = adds_none _ events;
    fits = λ fits. fits-handed (shows sent got counts) course events fits count counts refl;
  };
  failed = refl;
  full = refl;
  ended = refl;
  stopped = refl;
  sent = no_shorter_with sent (take count course.output);
  got = no_shorter_same got;
  given_up = refl;
  moved = inl (grew_with sent (take count course.output) (omega (arith, length-take count course.output)));
}

-- what the answer to a receive left
module _ (sent got : Option (List ℕ)) (counts : LinkCounts) (course : Course) (events : List ClientEvent) (book : BookCounts) (room : List ℕ) where
  abbrev pub received : RecvStep → Moment
  received step =
      at (shows sent (got_after room step got) (counts_after_receive step counts))
      (record course { at_hand = course.at_hand ++ bytes_got room step }) events book

  unmoved : (counts_now : LinkCounts) → counts.receives_not_ready ≤ counts_now.receives_not_ready → counts.sends_not_ready ≤ counts_now.sends_not_ready
      → Keeps (at (shows sent got counts) course events book)
      (at (shows sent got counts_now) (record course { at_hand = course.at_hand ++ [] }) events book)
  unmoved counts_now receives sends = record {
    task = record { shape = refl; conn = refl; actions = refl };
    adds = adds_none _ events;
    fits = λ fits. subst (λ told. Fits (driving (shows sent told counts_now) (record course { at_hand = course.at_hand ++ [] })) events) (told_nothing got)
        (fits-came (shows sent got counts) course events fits [] counts_now receives sends);
  }

  pub saw_received : (step : RecvStep) → GetsSome (length room) step → Saw (at (shows sent got counts) course events book) (received step) (received_seen step)
  saw_received (receives.Got count) some = record {
    keeps = record {
      task = record { shape = refl; conn = refl; actions = refl };
      adds = adds_none _ events;
      fits = λ fits. fits-came (shows sent got counts) course events fits (take count room) counts (omega arith) (omega arith);
    };
    failed = refl;
    full = refl;
    ended = refl;
    stopped = refl;
    sent = no_shorter_same sent;
    got = no_shorter_with got (take count room);
    given_up = refl;
    moved = inr (inl (grew_with got (take count room) (omega (arith, length-take count room))));
  }
  saw_received receives.NotReady some = record {
    keeps = unmoved (counts_after_receive receives.NotReady counts) (next_no_less counts.receives_not_ready) (omega arith);
    failed = refl;
    full = refl;
    ended = refl;
    stopped = refl;
    sent = no_shorter_same sent;
    got = no_shorter_same got;
    given_up = refl;
    moved = record { events = refl; passed = refl; output = refl; idle = refl };
  }
  saw_received receives.End some = record {
    keeps = unmoved (counts_after_receive receives.End counts) (omega arith) (omega arith);
    failed = refl;
    full = refl;
    ended = tells_next counts.ends;
    stopped = refl;
    sent = no_shorter_same sent;
    got = no_shorter_same got;
    given_up = refl;
    moved = record { events = refl; passed = refl; output = refl; idle = refl };
  }
  saw_received receives.Failed some = record {
    keeps = unmoved (counts_after_receive receives.Failed counts) (omega arith) (omega arith);
    failed = tells_next counts.faults;
    full = refl;
    ended = refl;
    stopped = refl;
    sent = no_shorter_same sent;
    got = no_shorter_same got;
    given_up = refl;
    moved = record { events = refl; passed = refl; output = refl; idle = refl };
  }

-- what a verdict tells
tells_verdict : (verdict : Verdict) (counts : BookCounts) → Tells (stops verdict) counts.stops (counts_after_verdict verdict counts).stops
tells_verdict Open counts = refl
tells_verdict (Reject event) counts = tells_next counts.stops
tells_verdict (Inconclusive event) counts = tells_next counts.stops

same_fulls : (verdict : Verdict) (counts : BookCounts) → (counts_after_verdict verdict counts).fulls ≡ counts.fulls
same_fulls Open counts = refl
same_fulls (Reject event) counts = refl
same_fulls (Inconclusive event) counts = refl

-- A message was kept as sent.
pub saw_said : (link : LinkShows) (course : Course) (parts : List Part) (message : List ℕ) (events : List ClientEvent) (book : BookCounts) (verdict : Verdict)
    → next_action course ≡ Some (Send parts) → course.output ≡ [] → message ≡ resolved parts course.receipts
    → Saw (at link course events book)
    (at link (record course { passed = course.passed + 1; output = frame_of course.shape.framing message; idle = 0 })
    (events ++ Sends course.conn message ∷ []) (counts_after_verdict verdict book))
    (record nothing_seen { moved = true; stopped = stops verdict })
saw_said link course parts message events book verdict next none is = record {
  keeps = record {
    task = record { shape = refl; conn = refl; actions = refl };
    adds = adds_one course.conn events (Sends course.conn message) refl;
    fits = λ fits. fits-said link course events fits parts message next none is;
  };
  failed = refl;
  full = same_fulls verdict book;
  ended = refl;
  stopped = tells_verdict verdict book;
  sent = no_shorter_same link.sent;
  got = no_shorter_same link.got;
  given_up = refl;
  moved = inr (inr (omega (arith, length-append events (Sends course.conn message ∷ []))));
}

-- A message was kept as received.
pub saw_kept : (link : LinkShows) (course : Course) (message rest : List ℕ) (events : List ClientEvent) (book : BookCounts) (verdict : Verdict)
    → BeginsWith course.shape course.at_hand message rest
    → Saw (at link course events book)
    (at link (record course { receipts = course.receipts ++ message ∷ []; at_hand = rest; idle = 0 })
    (events ++ Receives course.conn message ∷ []) (counts_after_verdict verdict book))
    (record nothing_seen { moved = true; stopped = stops verdict })
saw_kept link course message rest events book verdict begins = record {
  keeps = record {
    task = record { shape = refl; conn = refl; actions = refl };
    adds = adds_one course.conn events (Receives course.conn message) refl;
    fits = λ fits. fits-kept link course events fits message rest begins;
  };
  failed = refl;
  full = same_fulls verdict book;
  ended = refl;
  stopped = tells_verdict verdict book;
  sent = no_shorter_same link.sent;
  got = no_shorter_same link.got;
  given_up = refl;
  moved = inr (inr (omega (arith, length-append events (Receives course.conn message ∷ []))));
}

-- It was kept that what is at hand begins no message.
pub saw_garbled : (link : LinkShows) (course : Course) (events : List ClientEvent) (book : BookCounts) (verdict : Verdict)
    → IsGarbled course.shape course.at_hand
    → Saw (at link course events book)
    (at link (record course { idle = 0 }) (events ++ Garbles course.conn ∷ []) (counts_after_verdict verdict book))
    (record nothing_seen { garbled = true; moved = true; stopped = stops verdict })
saw_garbled link course events book verdict is = record {
  keeps = record {
    task = record { shape = refl; conn = refl; actions = refl };
    adds = adds_one course.conn events (Garbles course.conn) refl;
    fits = λ fits. fits-garbled link course events fits is;
  };
  failed = refl;
  full = same_fulls verdict book;
  ended = refl;
  stopped = tells_verdict verdict book;
  sent = no_shorter_same link.sent;
  got = no_shorter_same link.got;
  given_up = refl;
  moved = inr (inr (omega (arith, length-append events (Garbles course.conn ∷ []))));
}
