-- What each part of a turn saw, where what it left is told by equations.
use Rattle.std.proofs.Common.{◌≡◌, ℕ, ◌+◌, ◌<◌, ◌≤◌, true, List, [], ◌∷◌, ◌++◌, length, take, drop, Option, Some, None, refl, sym, subst, ◌∙◌}
use Rattle.conn_worker.proofs.SeenParts.{saw_garbled, saw_handed, saw_kept, saw_received, saw_said}
use Rattle.conn_worker.specs.Driving.{Course}
use Rattle.conn_worker.specs.Parts.{bytes_got, due_message, next_action}
use Rattle.conn_worker.specs.Seen.{Saw, at, nothing_seen, received_seen, shows, stops}
use Rattle.conn_worker.specs.declared.seen.Seen.{Seen}
use Rattle.dt_ports.specs.Book.{counts_after_verdict}
use Rattle.dt_ports.specs.Link.{GetsSome, LinkShows, counts_after_receive, got_after}
use Rattle.dt_ports.specs.Told.{told_with}
use Rattle.dt_ports.specs.declared.book.BookCounts.{BookCounts}
use Rattle.dt_ports.specs.declared.link.LinkCounts.{LinkCounts}
use Rattle.dt_ports.specs.declared.link.RecvStep.{RecvStep}
use Rattle.exchange_text.specs.Resolved.{resolved}
use Rattle.exchange_text.specs.declared.action.Action.{Action}
use Rattle.exchange_text.specs.declared.action.Action.TheVariants.{Send, Await}
use Rattle.exchange_text.specs.declared.action.Part.{Part}
use Rattle.frame_cut.specs.Frame.{IsGarbled, IsWhole}
use Rattle.spec_model.specs.Message.{frame_of}
use Rattle.spec_model.specs.declared.event.ClientEvent.{ClientEvent}
use Rattle.spec_model.specs.declared.event.ClientEvent.TheVariants.{Sends, Receives, Garbles}
use Rattle.spec_model.specs.declared.event.Verdict.{Verdict}

pub handed_at : (old course : Course) (sent sent_now got got_now : Option (List ℕ)) (counts counts_now : LinkCounts) (piece output : List ℕ) (count : ℕ) (seen : Seen)
    (events : List ClientEvent) (book : BookCounts)
    → course ≡ old → piece ≡ course.output → output ≡ drop count course.output
    → sent_now ≡ told_with (take count piece) sent → got_now ≡ got → counts_now ≡ counts → (0 < count) × (count ≤ length piece)
    → seen ≡ record nothing_seen { moved = true }
    → Saw (at (shows sent got counts) old events book) (at (shows sent_now got_now counts_now) (record course { output = output }) events book) seen
handed_at old course sent sent_now got got_now counts counts_now piece output count seen events book is piece_is output_is sent_is got_is counts_is within seen_is =
    let P : List ℕ → Type 0 = λ piece. count ≤ length piece in
    rw (← is, output_is, sent_is, got_is, counts_is, seen_is, piece_is)
    (saw_handed sent got counts course count events book within.0 (subst P piece_is within.1))

pub received_at : (old course : Course) (sent got : Option (List ℕ)) (counts : LinkCounts) (link : LinkShows) (at_hand room : List ℕ) (step : RecvStep) (seen : Seen)
    (events : List ClientEvent) (book : BookCounts)
    → course ≡ old → at_hand ≡ course.at_hand ++ bytes_got room step
    → link ≡ shows sent (got_after room step got) (counts_after_receive step counts) → GetsSome (length room) step → seen ≡ received_seen step
    → Saw (at (shows sent got counts) old events book) (at link (record course { at_hand = at_hand }) events book) seen
received_at old course sent got counts link at_hand room step seen events book is at_hand_is link_is some seen_is =
    rw (← is, at_hand_is, link_is, seen_is) (saw_received sent got counts course events book room step some)

-- the message that is to be sent now is that of a send
pub due_is : (output : List ℕ) (action : Option Action) (receipts : List (List ℕ)) (message : List ℕ) → due_message output action receipts ≡ Some message
    → (parts : List Part) × (action ≡ Some (Send parts)) × (output ≡ []) × (message ≡ resolved parts receipts)
due_is [] None receipts message due = absurd (cc)
due_is [] (Some (Await count)) receipts message due = absurd (cc)
due_is [] (Some (Send parts)) receipts message due = (parts, refl, refl, cc)
due_is (byte ∷ output) action receipts message due = absurd (cc)

pub said_at : (link : LinkShows) (old course : Course) (due : Option (List ℕ)) (message output : List ℕ) (events events_now : List ClientEvent) (book book_now : BookCounts) (verdict : Verdict) (seen : Seen)
    → course ≡ old → due ≡ due_message old.output (next_action old) old.receipts → due ≡ Some message
    → output ≡ frame_of course.shape.framing message → events_now ≡ events ++ Sends course.conn message ∷ []
    → book_now ≡ counts_after_verdict verdict book → seen ≡ record nothing_seen { moved = true; stopped = stops verdict }
    → Saw (at link old events book) (at link (record course { passed = course.passed + 1; output = output; idle = 0 }) events_now book_now) seen
said_at link old course due message output events events_now book book_now verdict seen is due_now some output_is events_is book_is seen_is =
    let (parts, next, none, made) = due_is old.output (next_action old) old.receipts message (sym due_now ∙ some) in
    let P : Course → Type 0 = λ course. next_action course ≡ Some (Send parts) in
    let Q : Course → Type 0 = λ course. course.output ≡ [] in
    let R : Course → Type 0 = λ course. message ≡ resolved parts course.receipts in
    rw (← is, output_is, events_is, book_is, seen_is)
    (saw_said link course parts message events book verdict (subst P (sym is) next) (subst Q (sym is) none) (subst R (sym is) made))

pub kept_at : (link : LinkShows) (old course : Course) (start len used : ℕ) (receipt message rest : List ℕ) (receipts : List (List ℕ)) (events events_now : List ClientEvent) (book book_now : BookCounts)
    (verdict : Verdict) (seen : Seen)
    → course ≡ old → IsWhole old.shape old.at_hand start len used
    → receipt ≡ take len (drop start course.at_hand) → message ≡ take len (drop start course.at_hand)
    → receipts ≡ course.receipts ++ receipt ∷ [] → rest ≡ drop used course.at_hand → events_now ≡ events ++ Receives course.conn message ∷ []
    → book_now ≡ counts_after_verdict verdict book → seen ≡ record nothing_seen { moved = true; stopped = stops verdict }
    → Saw (at link old events book) (at link (record course { receipts = receipts; at_hand = rest; idle = 0 }) events_now book_now) seen
kept_at link old course start len used receipt message rest receipts events events_now book book_now verdict seen is whole receipt_is message_is receipts_is rest_is events_is book_is seen_is =
    let P : Course → Type 0 = λ course. IsWhole course.shape course.at_hand start len used in
    let here = subst P (sym is) whole in
    rw (← is, receipts_is, receipt_is, rest_is, events_is, message_is, book_is, seen_is)
    (saw_kept link course (take len (drop start course.at_hand)) (drop used course.at_hand) events book verdict here.begins)

pub garbled_at : (link : LinkShows) (old course : Course) (events events_now : List ClientEvent) (book book_now : BookCounts) (verdict : Verdict) (seen : Seen)
    → course ≡ old → IsGarbled old.shape old.at_hand → events_now ≡ events ++ Garbles course.conn ∷ []
    → book_now ≡ counts_after_verdict verdict book → seen ≡ record nothing_seen { garbled = true; moved = true; stopped = stops verdict }
    → Saw (at link old events book) (at link (record course { idle = 0 }) events_now book_now) seen
garbled_at link old course events events_now book book_now verdict seen is garbled events_is book_is seen_is =
    let P : Course → Type 0 = λ course. IsGarbled course.shape course.at_hand in
    rw (← is, events_is, book_is, seen_is) (saw_garbled link course events book verdict (subst P (sym is) garbled))
