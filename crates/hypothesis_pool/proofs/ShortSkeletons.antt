-- The skeletons of short runs, told by what they send.
use Rattle.std.proofs.Common.{◌≡◌, ℕ, ◌+◌, ◌<◌, ◌≤◌, ◌⊎◌, inl, inr, Bool, true, false, List, [], ◌∷◌, ◌++◌, length, take, drop, nat_eq, refl, sym, ◌∙◌, ap, subst, arith}
use Rattle.std.proofs.lemmas.Bool.{eqb-true}
use Rattle.std.proofs.lemmas.List.{map-append, same_from_push, take-append-drop, take-append-le, take-map, take_all}
use Rattle.spec_model.specs.declared.event.ClientEvent.{ClientEvent}
use Rattle.spec_model.specs.declared.event.ClientEvent.TheVariants as clients
use Rattle.spec_model.specs.declared.event.Mark.{Mark}
use Rattle.spec_model.specs.declared.event.Mark.TheVariants as marks
use Rattle.spec_model.specs.declared.event.ServerEvent.{ServerEvent}
use Rattle.spec_model.specs.declared.event.ServerEvent.TheVariants as servers
use Rattle.spec_model.specs.declared.tree.Spec.{Spec}
use Rattle.spec_model.specs.Alike.{SkeletonExplains}
use Rattle.spec_model.specs.Layout.{IsShort, RunExplains}
use Rattle.spec_model.specs.Least.{IsKeptSkeleton}
use Rattle.spec_model.specs.Run.{IsRun}
use Rattle.spec_model.specs.Skeleton.{mark_of, sends_in, skeleton_of}
use Rattle.spec_model.specs.World.{client_receipts, server_sends}
use Rattle.spec_model.proofs.Built.{Built, built, push_not_nil, start, then}
use Rattle.spec_model.proofs.KeptRuns.{Arranges-receipts, kept_front}
use Rattle.spec_model.proofs.KeptSkeletons.{none_begins_another}
use Rattle.spec_model.proofs.Prefix.{length-IsPrefixOf}
use Rattle.spec_model.proofs.RunSteps.{run_front}
use Rattle.spec_model.proofs.Skeletons.{explains_front, run_before_receipt, sends_counted, sends_in-append, sends_in-push_same}

-- The skeleton ends in a send on a connection, on which it sends as many messages as were received.
pub record EndsInSend (exchange : List ClientEvent) (skeleton : List Mark) : Type 0 where
  pub before : List Mark
  pub conn : ℕ
  pub ends : skeleton ≡ before ++ marks.Send conn ∷ []
  pub received : sends_in conn skeleton ≡ length (client_receipts conn exchange)

abbrev pub IsShortSkeleton : List ClientEvent → List Mark → Type 0
IsShortSkeleton exchange skeleton = (skeleton ≡ []) ⊎ EndsInSend exchange skeleton

short_skeleton : (exchange : List ClientEvent) (events : List ServerEvent) → IsShort exchange events → IsShortSkeleton exchange (skeleton_of events)
short_skeleton exchange events (inl none) = inl (ap skeleton_of none)
short_skeleton exchange events (inr ends) = inr (record {
  before = skeleton_of ends.before;
  conn = ends.conn;
  ends = ap skeleton_of ends.ends ∙ map-append mark_of ends.before (servers.Send ends.conn ends.message ∷ []);
  received = sends_counted ends.conn events ∙ ends.received;
})

-- an event whose mark is a send
send_of_mark : (event : ServerEvent) (conn : ℕ) → mark_of event ≡ marks.Send conn → (message : List ℕ) × (event ≡ servers.Send conn message)
send_of_mark (servers.Send other message) conn is = let same : other ≡ conn = cc in (message, ap (λ c. servers.Send c message) same)
send_of_mark (servers.Take other message) conn is = absurd (cc)
send_of_mark (servers.Arm arm) conn is = absurd (cc)
send_of_mark (servers.Test outcome) conn is = absurd (cc)
send_of_mark (servers.Pick text) conn is = absurd (cc)

short_run : (exchange : List ClientEvent) (events : List ServerEvent) → Built events → IsShortSkeleton exchange (skeleton_of events) → IsShort exchange events
short_run exchange events start short = inl refl
short_run exchange events (then front last built_front) (inl none) =
    absurd (push_not_nil (skeleton_of front) (mark_of last) (sym (map-append mark_of front (last ∷ [])) ∙ none))
short_run exchange events (then front last built_front) (inr ends) =
    let pushed = sym (map-append mark_of front (last ∷ [])) ∙ ends.ends in
    let (message, is) = send_of_mark last ends.conn (same_from_push (skeleton_of front) ends.before (mark_of last) (marks.Send ends.conn) pushed).1 in
    inr (record {
      before = front;
      conn = ends.conn;
      message = message;
      ends = ap (λ event. front ++ event ∷ []) is;
      received = sym (sends_counted ends.conn (front ++ last ∷ [])) ∙ ends.received;
    })

module _ (spec : Spec) (exchange : List ClientEvent) where
  pub kept_is_short : (skeleton : List Mark) → IsKeptSkeleton spec exchange skeleton → IsShortSkeleton exchange skeleton
  kept_is_short skeleton known = subst (IsShortSkeleton exchange) known.has (short_skeleton exchange known.events known.kept.kept.short)

  pub kept_explains : (skeleton : List Mark) → IsKeptSkeleton spec exchange skeleton → SkeletonExplains spec exchange skeleton
  kept_explains skeleton known = (
    known.events,
    record { has = known.has; explains = record { run = known.kept.run; world = known.kept.kept.world; arranged = known.kept.kept.arranged } },
  )

  -- A skeleton that explains the exchange and is short is that of a short run.
  pub kept_from_short : (skeleton : List Mark) → SkeletonExplains spec exchange skeleton → IsShortSkeleton exchange skeleton → IsKeptSkeleton spec exchange skeleton
  kept_from_short skeleton (events, run) short = record {
    events = events;
    has = run.has;
    kept = record {
      kept = record {
        short = short_run exchange events (built events) (subst (IsShortSkeleton exchange) (sym run.has) short);
        world = run.explains.world;
        arranged = run.explains.arranged;
      };
      run = run.explains.run;
    };
  }

  -- What explains the exchange sends all that was received.
  pub explains_covers : (skeleton : List Mark) → SkeletonExplains spec exchange skeleton → (conn : ℕ) → length (client_receipts conn exchange) ≤ sends_in conn skeleton
  explains_covers skeleton (events, run) conn =
      let received = length-IsPrefixOf _ _ (Arranges-receipts run.explains.arranged conn) in
      let counted : sends_in conn skeleton ≡ length (server_sends conn events) = ap (sends_in conn) (sym run.has) ∙ sends_counted conn events in
      omega (arith, received, counted)

  -- A front of what explains the exchange explains it too, where it sends all that was received.
  pub front_explains : (skeleton more : List Mark) → SkeletonExplains spec exchange (skeleton ++ more)
      → ((conn : ℕ) → length (client_receipts conn exchange) ≤ sends_in conn skeleton) → SkeletonExplains spec exchange skeleton
  front_explains skeleton more (events, run) covers =
      let count = length skeleton in
      let front = take count events in
      let has : skeleton_of front ≡ skeleton
      = sym (take-map mark_of count events) ∙ ap (take count) run.has ∙ take-append-le count skeleton more (omega arith) ∙ take_all count skeleton (omega arith) in
      let whole : RunExplains spec exchange (front ++ drop count events) = subst (RunExplains spec exchange) (sym (take-append-drop count events)) run.explains in
      let covered : (conn : ℕ) → length (client_receipts conn exchange) ≤ length (server_sends conn front)
      = λ conn. let counted = sym (sends_counted conn front) ∙ ap (sends_in conn) has in omega (arith, counted, covers conn) in
      (front, record { has = has; explains = explains_front spec exchange front (drop count events) whole covered })

  -- What explains the exchange begins with the skeleton of a short run.
  pub begins_short : (skeleton : List Mark) → SkeletonExplains spec exchange skeleton → (front more : List Mark) × (skeleton ≡ front ++ more) × IsKeptSkeleton spec exchange front
  begins_short skeleton (events, run) =
      let known = kept_front run.explains.arranged in
      let (rest, whole) = known.begins in (
        skeleton_of known.front,
        skeleton_of rest,
        sym run.has ∙ ap skeleton_of whole ∙ map-append mark_of known.front rest,
        record {
          events = known.front;
          has = refl;
          kept = record { kept = known.kept; run = run_front spec known.front rest (subst (λ events. IsRun spec events) whole run.explains.run) };
        },
      )

  -- Of the skeletons of short runs none begins another.
  pub kept_goes_on_nowhere : (skeleton more : List Mark) → IsKeptSkeleton spec exchange skeleton → IsKeptSkeleton spec exchange (skeleton ++ more) → more ≡ []
  kept_goes_on_nowhere skeleton more known longer =
      none_begins_another exchange known.events longer.events more known.kept.kept longer.kept.kept (longer.has ∙ ap (λ front. front ++ more) (sym known.has))

-- What explains a receipt more explains the exchange.
pub explains_before : (spec : Spec) (exchange : List ClientEvent) (conn : ℕ) (message : List ℕ) (skeleton : List Mark)
    → SkeletonExplains spec (exchange ++ clients.Receives conn message ∷ []) skeleton → SkeletonExplains spec exchange skeleton
explains_before spec exchange conn message skeleton (events, run) = (events, run_before_receipt spec exchange conn message skeleton events run)

-- a skeleton of which the last mark sends more than the others is one that ends in a send
pub ends_in_send : (conn : ℕ) (before : List Mark) (last : Mark) → sends_in conn before < sends_in conn (before ++ last ∷ [])
    → (last ≡ marks.Send conn) × (sends_in conn (before ++ last ∷ []) ≡ sends_in conn before + 1)
ends_in_send conn before last more = (is, rw is (sends_in-push_same conn before))
  where
    one : sends_in conn (before ++ last ∷ []) ≡ sends_in conn before + sends_in conn (last ∷ [])
    one = sends_in-append conn before (last ∷ [])

    by_mark : (last : Mark) → 0 < sends_in conn (last ∷ []) → last ≡ marks.Send conn
    by_mark (marks.Send other) some = by_conn (nat_eq other conn) refl some
      where
        by_conn : (same : Bool) → nat_eq other conn ≡ same → 0 < sends_in conn (marks.Send other ∷ []) → marks.Send other ≡ marks.Send conn
        by_conn true is some = ap marks.Send (eqb-true other conn is)
        by_conn false is some = absurd (let none : sends_in conn (marks.Send other ∷ []) ≡ 0 = rw is refl in omega (arith, none, some))
    by_mark (marks.Take other) some = absurd (omega (arith, some))
    by_mark (marks.Arm arm) some = absurd (omega (arith, some))
    by_mark (marks.Test outcome) some = absurd (omega (arith, some))
    by_mark marks.Pick some = absurd (omega (arith, some))

    is : last ≡ marks.Send conn
    is = by_mark last (omega (arith, more, one))
