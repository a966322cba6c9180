-- The runs of the echo server.
use Rattle.std.proofs.Common.{◌≡◌, ℕ, Bool, true, ◌&&◌, ◌==◌, List, [], ◌∷◌, ◌++◌, Option, Some, None, replicate, bytes_eq, codes, refl, ap, ◌∙◌, append-nil}
use Rattle.std.specs.List.{cons_option}
use Rattle.std.proofs.lemmas.Bool.{eqb-true}
use Rattle.std.proofs.lemmas.Slice.Eq.{bytes_eq-Decides}
use Rattle.spec_model.specs.declared.config.Config.{Config}
use Rattle.spec_model.specs.declared.config.Value.TheVariants.{Text, Number}
use Rattle.spec_model.specs.declared.config.Task.TheVariants.{Do, Forget}
use Rattle.spec_model.specs.declared.event.ServerEvent.{ServerEvent}
use Rattle.spec_model.specs.declared.event.ServerEvent.TheVariants as servers
use Rattle.spec_model.specs.Config.{idle_config, after_entering, with_item_at}
use Rattle.spec_model.specs.Message.{may_pass}
use Rattle.spec_model.specs.Run.{Steps, IsRun}
use Rattle.spec_model.specs.Step.{after_event}
use Rattle.spec_model.specs.World.{server_takes, server_sends, on_conn, IsPrefixOf}
use Rattle.spec_model.proofs.Prefix.{IsPrefixOf-nil}
use Rattle.spec_model.proofs.Partial.{only_if_gave, both_passed}
use Rattle.model_examples.specs.Echo.{echo}
use Rattle.model_examples.specs.Writing.{send, name}
use Rattle.model_examples.proofs.ComputedRun.{steps_from_opening, steps_behind}
use Rattle.model_examples.proofs.Trees.{trees}

-- A message is awaited, whatever passed before.
abbrev waiting : List (List (List ℕ)) → List (List (List (List ℕ))) → Config
waiting taken sent = after_entering (record (idle_config echo) { taken = taken; sent = sent }) [] echo.body []

-- A message was taken, and its reply is to be sent.
abbrev replying : List (List (List ℕ)) → List (List (List (List ℕ))) → ℕ → List ℕ → Config
replying taken sent conn message = record (waiting taken sent) {
  todo = Do (send (name "c") (name "m" ∷ [])) 0 ∷ Forget 0 ∷ Forget 0 ∷ [];
  locals = record { name = codes "c"; value = Number conn } ∷ record { name = codes "m"; value = Text message } ∷ [];
  taken = with_item_at taken conn message;
}

-- Only a take may come first.
record Takes (taken : List (List (List ℕ))) (sent : List (List (List (List ℕ)))) (event : ServerEvent) (events : List ServerEvent) (end : Config) : Type 0 where
  conn : ℕ
  message : List ℕ
  is : event ≡ servers.Take conn message
  later : Steps echo (replying taken sent conn message) events end

takes_first : (taken : List (List (List ℕ))) (sent : List (List (List (List ℕ)))) (event : ServerEvent) (events : List ServerEvent) (end : Config)
    → Steps echo (waiting taken sent) (event ∷ events) end → Takes taken sent event events end
unfolding trees
takes_first taken sent (servers.Take conn message) events end steps =
    let left = replying taken sent conn message in
    let leaves : (middle : Config) → after_event echo (waiting taken sent) (servers.Take conn message) ≡ Some middle → middle ≡ left
    = λ middle goes. let is = (only_if_gave (may_pass echo.shape conn message) (Some left) middle goes).1 in cc in
    record {
      conn = conn;
      message = message;
      is = refl;
      later = steps_behind echo (waiting taken sent) (servers.Take conn message) events end left left steps leaves refl;
    }
takes_first taken sent (servers.Arm number) events end (new, (middle, goes, settles), later) = absurd (cc)
takes_first taken sent (servers.Test outcome) events end (new, (middle, goes, settles), later) = absurd (cc)
takes_first taken sent (servers.Pick text) events end (new, (middle, goes, settles), later) = absurd (cc)
takes_first taken sent (servers.Send conn message) events end (new, (middle, goes, settles), later) = absurd (cc)

-- Behind a take only its reply may come.
record Replies (conn : ℕ) (message : List ℕ) (event : ServerEvent) (events : List ServerEvent) (end : Config) : Type 0 where
  is : event ≡ servers.Send conn message
  taken : List (List (List ℕ))
  sent : List (List (List (List ℕ)))
  later : Steps echo (waiting taken sent) events end

then_replies : (taken : List (List (List ℕ))) (sent : List (List (List (List ℕ)))) (conn : ℕ) (message : List ℕ) (event : ServerEvent) (events : List ServerEvent) (end : Config)
    → Steps echo (replying taken sent conn message) (event ∷ events) end → Replies conn message event events end
unfolding trees
then_replies taken sent conn message (servers.Send to reply) events end steps =
    let before = replying taken sent conn message in
    let sent_then = with_item_at sent to (message ∷ []) in
    let left : Config = record before { todo = Forget 0 ∷ Forget 0 ∷ []; sent = sent_then } in
    let tested : Bool = ((conn == to) && bytes_eq reply (message ++ [])) && may_pass echo.shape to reply in
    let leaves : (middle : Config) → after_event echo before (servers.Send to reply) ≡ Some middle → (tested ≡ true) × (middle ≡ left)
    = λ middle goes. let (passed, is) = only_if_gave tested (Some left) middle goes in (passed, cc) in
    let passed = (leaves steps.1.0 steps.1.1).0 in
    let (same_conn, same_message) = both_passed (conn == to) (bytes_eq reply (message ++ [])) (both_passed _ (may_pass echo.shape to reply) passed).0 in
    let to_is : conn ≡ to = eqb-true conn to same_conn in
    let reply_is : reply ≡ message = (bytes_eq-Decides reply (message ++ [])).0 same_message ∙ append-nil message in
    record {
      is = cc;
      taken = with_item_at taken conn message;
      sent = sent_then;
      later = steps_behind echo before (servers.Send to reply) events end left (waiting (with_item_at taken conn message) sent_then) steps (λ middle goes. (leaves middle goes).1) refl;
    }
then_replies taken sent conn message (servers.Arm number) events end (new, (middle, goes, settles), later) = absurd (cc)
then_replies taken sent conn message (servers.Test outcome) events end (new, (middle, goes, settles), later) = absurd (cc)
then_replies taken sent conn message (servers.Pick text) events end (new, (middle, goes, settles), later) = absurd (cc)
then_replies taken sent conn message (servers.Take other text) events end (new, (middle, goes, settles), later) = absurd (cc)

both_begin : {A : Type 0} (first : Option A) (front whole : List A) → IsPrefixOf front whole → IsPrefixOf (cons_option first front) (cons_option first whole)
both_begin None front whole begins = begins
both_begin (Some item) front whole (rest, is) = (rest, ap (λ items. item ∷ items) is)

replied : (conn other : ℕ) (message : List ℕ) (event next : ServerEvent) (events : List ServerEvent)
    → event ≡ servers.Take other message → next ≡ servers.Send other message → IsPrefixOf (server_sends conn events) (server_takes conn events)
    → IsPrefixOf (server_sends conn (event ∷ next ∷ events)) (server_takes conn (event ∷ next ∷ events))
replied conn other message event next events event_is next_is begins =
    rw (event_is, next_is) (both_begin (on_conn conn other message) (server_sends conn events) (server_takes conn events) begins)

in_order : (taken : List (List (List ℕ))) (sent : List (List (List (List ℕ)))) (events : List ServerEvent) (end : Config) → Steps echo (waiting taken sent) events end
    → (conn : ℕ) → IsPrefixOf (server_sends conn events) (server_takes conn events)
in_order taken sent [] end steps conn = IsPrefixOf-nil []
in_order taken sent (event ∷ []) end steps conn =
    let first = takes_first taken sent event [] end steps in
    rw (first.is) (IsPrefixOf-nil (server_takes conn (servers.Take first.conn first.message ∷ [])))
in_order taken sent (event ∷ next ∷ events) end steps conn =
    let first = takes_first taken sent event (next ∷ events) end steps in
    let second = then_replies taken sent first.conn first.message next events end first.later in
    replied conn first.conn first.message event next events first.is second.is (in_order second.taken second.sent events end second.later conn)

-- In each run the messages sent on a connection are the first of those taken there.
pub echoes_in_order : (events : List ServerEvent) → IsRun echo events → (conn : ℕ) → IsPrefixOf (server_sends conn events) (server_takes conn events)
unfolding trees
echoes_in_order events (end, run) conn =
    let none_taken = replicate 2 [] in
    let none_sent = replicate 2 [] in
    in_order none_taken none_sent events end (steps_from_opening echo (waiting none_taken none_sent) events end refl run) conn
