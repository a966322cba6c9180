-- What parts of a turn saw, one after another.
use Rattle.std.proofs.Common.{◌≡◌, ℕ, ◌≤◌, Bool, true, false, ◌||◌, List, [], ◌∷◌, ◌++◌, length, refl, sym, ap, subst, ◌∙◌, inl, inr, arith, append_assoc, append-nil, length-append}
use Rattle.std.specs.Prelude.{MatchBool}
use Rattle.std.specs.List.{AllByRecursion}
use Rattle.conn_worker.proofs.Lists.{all_of_both}
use Rattle.conn_worker.proofs.Told.{grew_then, no_shorter_both, no_shorter_same, then_grew}
use Rattle.conn_worker.specs.Driving.{Course, conn_of}
use Rattle.conn_worker.specs.Seen.{IsStill, Keeps, Saw, Tells, both_seen, nothing_seen}
use Rattle.conn_worker.specs.Turn.{AddsOn, Moment, Moved, SameTask}
use Rattle.conn_worker.specs.declared.seen.Seen.{Seen}
use Rattle.dt_ports.specs.Count.{next_count}
use Rattle.spec_model.specs.declared.event.ClientEvent.{ClientEvent}

-- a count over two parts
tells_both : (one other : Bool) (first between last : ℕ) → Tells one first between → Tells other between last → Tells (one || other) first last
tells_both true true first between last tells too = (omega arith, λ below. let later = too.0 in let rose = tells.1 below in omega arith)
tells_both true false first between last tells too = (omega arith, λ below. let rose = tells.1 below in omega arith)
tells_both false true first between last tells too = (omega arith, λ below. let rose = too.1 (omega arith) in omega arith)
tells_both false false first between last tells too = too ∙ tells

pub tells_same : (count : ℕ) → Tells false count count
tells_same count = refl

-- one answer more
pub tells_next : (count : ℕ) → Tells true count (next_count count)
tells_next count = grind arith

-- events on a connection over two parts
pub adds_none : (conn : ℕ) (events : List ClientEvent) → AddsOn conn events events
adds_none conn events = ([], sym (append-nil events), tt)

pub adds_one : (conn : ℕ) (events : List ClientEvent) (event : ClientEvent) → conn_of event ≡ conn → AddsOn conn events (events ++ event ∷ [])
adds_one conn events event is = (event ∷ [], refl, (is, tt))

adds_both : (conn other : ℕ) (first between last : List ClientEvent) → other ≡ conn → AddsOn conn first between → AddsOn other between last → AddsOn conn first last
adds_both conn other first between last same (more, is, each) (others, too, all) =
    let P : ℕ → Type 0 = λ conn. AllByRecursion (λ event. conn_of event ≡ conn) others in
    (more ++ others, too ∙ ap (λ front. front ++ others) is ∙ append_assoc first more others, all_of_both _ more others each (subst P same all))

longer : (conn : ℕ) (old new : List ClientEvent) → AddsOn conn old new → length old ≤ length new
longer conn old new (more, is, each) = rw is (omega (arith, length-append old more))

pub same_task : (course : Course) → SameTask course course
same_task course = record { shape = refl; conn = refl; actions = refl }

pub keeps_both : (first between last : Moment) → Keeps first between → Keeps between last → Keeps first last
keeps_both first between last keeps too = record {
  task = record {
    shape = too.task.shape ∙ keeps.task.shape;
    conn = too.task.conn ∙ keeps.task.conn;
    actions = too.task.actions ∙ keeps.task.actions;
  };
  adds = adds_both _ _ first.events between.events last.events keeps.task.conn keeps.adds too.adds;
  fits = λ fits. too.fits (keeps.fits fits);
}

-- what moved in one part moved over both
moved_then : (first between last : Moment) → Moved first between → (seen : Seen) → Saw between last seen → Moved first last
moved_then first between last (inl sent) seen saw = inl (grew_then _ _ _ sent saw.sent)
moved_then first between last (inr (inl got)) seen saw = inr (inl (grew_then _ _ _ got saw.got))
moved_then first between last (inr (inr events)) seen saw = let more = longer _ _ _ saw.keeps.adds in inr (inr (omega arith))

then_moved : (first between last : Moment) (seen : Seen) → Saw first between seen → Moved between last → Moved first last
then_moved first between last seen saw (inl sent) = inl (then_grew _ _ _ saw.sent sent)
then_moved first between last seen saw (inr (inl got)) = inr (inl (then_grew _ _ _ saw.got got))
then_moved first between last seen saw (inr (inr events)) = let more = longer _ _ _ saw.keeps.adds in inr (inr (omega arith))

still_both : (first between last : Moment) → IsStill first between → IsStill between last → IsStill first last
still_both first between last still too = record {
  events = too.events ∙ still.events;
  passed = too.passed ∙ still.passed;
  output = too.output ∙ still.output;
  idle = too.idle ∙ still.idle;
}

pub saw_both : (first between last : Moment) (one other : Seen) → Saw first between one → Saw between last other → Saw first last (both_seen one other)
saw_both first between last one other saw too = record {
  keeps = keeps_both first between last saw.keeps too.keeps;
  failed = tells_both one.failed other.failed _ _ _ saw.failed too.failed;
  full = tells_both one.full other.full _ _ _ saw.full too.full;
  ended = tells_both one.ended other.ended _ _ _ saw.ended too.ended;
  stopped = tells_both one.stopped other.stopped _ _ _ saw.stopped too.stopped;
  sent = no_shorter_both _ _ _ saw.sent too.sent;
  got = no_shorter_both _ _ _ saw.got too.got;
  given_up = too.given_up ∙ saw.given_up;
  moved = go one.moved other.moved saw.moved too.moved;
}
  where
    go : (one_moved other_moved : Bool) → MatchBool one_moved (Moved first between) (IsStill first between)
        → MatchBool other_moved (Moved between last) (IsStill between last) → MatchBool (one_moved || other_moved) (Moved first last) (IsStill first last)
    go true other_moved moved later = moved_then first between last moved other too
    go false true still moved = then_moved first between last one saw moved
    go false false still later = still_both first between last still later

-- nothing was seen where nothing is changed
pub saw_nothing : (now : Moment) → Saw now now nothing_seen
saw_nothing now = record {
  keeps = record { task = same_task now.driving.course; adds = adds_none _ now.events; fits = λ fits. fits };
  failed = refl;
  full = refl;
  ended = refl;
  stopped = refl;
  sent = no_shorter_same now.driving.link.sent;
  got = no_shorter_same now.driving.link.got;
  given_up = refl;
  moved = record { events = refl; passed = refl; output = refl; idle = refl };
}
