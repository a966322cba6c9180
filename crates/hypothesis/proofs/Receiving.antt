-- What a receipt tells of a hypothesis.
use Rattle.std.proofs.Common.{◌≡◌, ℕ, zero, suc, ◌<◌, ◌≤◌, List, [], ◌∷◌, ◌++◌, length, drop, Option, Some, None, option_map, refl, sym, ◌∙◌, ap, arith}
use Rattle.std.proofs.lemmas.Option.{slice_get-map, slice_get_within}
use Rattle.std.specs.List.{concat}
use Rattle.std.specs.Prelude.{slice_get, slice_index_or, slice_set}
use Rattle.spec_model.specs.declared.event.ClientEvent.{ClientEvent}
use Rattle.spec_model.specs.declared.event.ClientEvent.TheVariants as clients
use Rattle.spec_model.specs.declared.event.Mark.{Mark}
use Rattle.spec_model.specs.declared.event.ServerEvent.{ServerEvent}
use Rattle.spec_model.specs.declared.event.WorldEvent.TheVariants.{Client}
use Rattle.spec_model.specs.declared.tree.Spec.{Spec}
use Rattle.spec_model.specs.Alike.{RunWith}
use Rattle.spec_model.specs.Layout.{RunExplains}
use Rattle.spec_model.specs.Remainder.{unreceived}
use Rattle.spec_model.specs.Skeleton.{sends_in, skeleton_of}
use Rattle.spec_model.specs.World.{client_receipts, server_sends}
use Rattle.spec_model.proofs.KeptRuns.{Arranges-receipts}
use Rattle.spec_model.proofs.LegalWorlds.{IsLegal-receipt}
use Rattle.spec_model.proofs.PassedMessages.{client_receipts-push_same}
use Rattle.spec_model.proofs.Prefix.{item_after_prefix, length-IsPrefixOf, prefix_and_item}
use Rattle.spec_model.proofs.Skeletons.{run_before_receipt, sends_counted}
use Rattle.spec_model.proofs.WorldEvents.{clients_of-push_client, server_of-push_client}
use Rattle.itree_data.specs.Marks.{IsTree}
use Rattle.dual_tree.specs.Dual.{DualFields, tree_of}
use Rattle.hypothesis.specs.declared.hypothesis.Hypothesis.{Hypothesis}
use Rattle.hypothesis.specs.declared.received.Received.TheVariants.{Yes, Nothing, No}
use Rattle.hypothesis.specs.Left.{Left, left_of, shown_by}
use Rattle.hypothesis.specs.Received.{Tells, with_receipt}
use Rattle.hypothesis.specs.Stands.{StandsFor}
use Rattle.hypothesis.proofs.Passing.{run_passed}
use Rattle.hypothesis.proofs.Shown.{ShowsRun, same_left, shows_at, stands_shows}
use Rattle.hypothesis.proofs.Unreceived.{unreceived-receipt, unreceived_at}

-- what is first behind the first items of a list, and where nothing is
pub first_behind : {A : Type 0} (count : ℕ) (list : List A) → slice_get (drop count list) 0 ≡ slice_get list count
first_behind zero list = refl
first_behind (suc count) [] = refl
first_behind (suc count) (item ∷ list) = first_behind count list

past_from_none : {A : Type 0} (list : List A) (place : ℕ) → slice_get list place ≡ None → length list ≤ place
past_from_none [] place none = omega arith
past_from_none (item ∷ list) zero none = absurd (cc)
past_from_none (item ∷ list) (suc place) none = let later = past_from_none list place none in omega arith

-- A run that explains an exchange explains the receipt of the message that is the next one sent on the connection, and no other.
pub explains_receipt : (spec : Spec) (exchange : List ClientEvent) (events : List ServerEvent) (conn : ℕ) (message : List ℕ) → RunExplains spec exchange events
    → slice_get (server_sends conn events) (length (client_receipts conn exchange)) ≡ Some message → RunExplains spec (with_receipt exchange conn message) events
explains_receipt spec exchange events conn message explains next =
    let receipt = clients.Receives conn message in
    let arranged = explains.arranged in
    let begins = prefix_and_item _ _ message (Arranges-receipts arranged conn) next in
    record {
      run = explains.run;
      world = explains.world ++ Client receipt ∷ [];
      arranged = record {
        legal = IsLegal-receipt conn message arranged.legal (rw (arranged.clients, arranged.server) begins);
        clients = rw (clients_of-push_client explains.world receipt, arranged.clients) refl;
        server = server_of-push_client explains.world receipt ∙ arranged.server;
      };
    }

pub received_next : (spec : Spec) (exchange : List ClientEvent) (events : List ServerEvent) (conn : ℕ) (message : List ℕ)
    → RunExplains spec (with_receipt exchange conn message) events
    → slice_get (server_sends conn events) (length (client_receipts conn exchange)) ≡ Some message
received_next spec exchange events conn message explains =
    item_after_prefix _ _ message (rw (client_receipts-push_same conn exchange message) at (Arranges-receipts explains.arranged conn))

-- the oldest message that a hypothesis has pending on a connection
abbrev pub oldest_pending : Hypothesis → ℕ → Option (List (List ℕ))
oldest_pending h conn = slice_get (slice_index_or h.state.pending conn []) 0

-- the hypothesis without that message
abbrev pub without_oldest : Hypothesis → ℕ → Hypothesis
without_oldest h conn =
    record h { state = record h.state { pending = slice_set h.state.pending conn (drop 1 (slice_index_or h.state.pending conn [])) } }

module _ (dual : DualFields) (exchange : List ClientEvent) (events : List ServerEvent) (conn : ℕ) (message : List ℕ) where
  -- The oldest message that a hypothesis has pending is the next one that its run sent.
  pending_is_next : (h : Hypothesis) → ShowsRun dual exchange events h
      → slice_get (server_sends conn events) (length (client_receipts conn exchange)) ≡ option_map concat (oldest_pending h conn)
  pending_is_next h shown =
      let passed = run_passed (tree_of dual) events shown.end shown.ends in
      let received = length (client_receipts conn exchange) in
      let sent = slice_index_or shown.end.sent conn [] in
      let pending : drop received sent ≡ slice_index_or h.state.pending conn []
      = sym (unreceived_at exchange 0 conn conn shown.end.sent (omega arith)) ∙ ap (λ (left : Left). slice_index_or left.pending conn []) shown.shows in
      ap (λ messages. slice_get messages received) (sym (passed.sends conn)) ∙ slice_get-map concat sent received
      ∙ ap (option_map concat) (sym (first_behind received sent) ∙ ap (λ messages. slice_get messages 0) pending)

  sent_as_received : (h : Hypothesis) → oldest_pending h conn ≡ None → ShowsRun dual exchange events h
      → length (server_sends conn events) ≡ length (client_receipts conn exchange)
  sent_as_received h none shown =
      let sends = server_sends conn events in
      let past = past_from_none sends (length (client_receipts conn exchange)) (pending_is_next h shown ∙ ap (option_map concat) none) in
      let received = length-IsPrefixOf (client_receipts conn exchange) sends (Arranges-receipts shown.explains.arranged conn) in
      omega (arith, past, received)

  sent_more : (h : Hypothesis) (oldest : List (List ℕ)) → oldest_pending h conn ≡ Some oldest → ShowsRun dual exchange events h
      → length (client_receipts conn exchange) < length (server_sends conn events)
  sent_more h oldest is shown = slice_get_within _ _ (concat oldest) (pending_is_next h shown ∙ ap (option_map concat) is)

  sent_another : (h : Hypothesis) (oldest : List (List ℕ)) → oldest_pending h conn ≡ Some oldest → ¬ (concat oldest ≡ message)
      → ShowsRun dual exchange events h → ¬ RunExplains dual.spec (with_receipt exchange conn message) events
  sent_another h oldest is other shown = λ explains. other
      (let next = pending_is_next h shown ∙ ap (option_map concat) is in
      let known = received_next dual.spec exchange events conn message explains in
      cc)

  shows_without_oldest : (h : Hypothesis) (oldest : List (List ℕ)) → oldest_pending h conn ≡ Some oldest → concat oldest ≡ message
      → ShowsRun dual exchange events h → ShowsRun dual (with_receipt exchange conn message) events (without_oldest h conn)
  shows_without_oldest h oldest is same shown =
      let next = pending_is_next h shown ∙ ap (option_map concat) is ∙ ap Some same in
      let pending : unreceived (with_receipt exchange conn message) 0 shown.end.sent
      ≡ slice_set h.state.pending conn (drop 1 (slice_index_or h.state.pending conn []))
      = unreceived-receipt exchange 0 conn conn message shown.end.sent (omega arith)
      ∙ ap (λ (left : Left). slice_set left.pending conn (drop 1 (slice_index_or left.pending conn []))) shown.shows in
      record {
        explains = explains_receipt dual.spec exchange events conn message shown.explains next;
        end = shown.end;
        ends = shown.ends;
        shows = same_left (left_of (with_receipt exchange conn message) shown.end) (shown_by (without_oldest h conn) [])
            (ap (λ (left : Left). left.node) shown.shows) (ap (λ (left : Left). left.compared) shown.shows) (ap (λ (left : Left). left.registers) shown.shows)
            (ap (λ (left : Left). left.tables) shown.shows) (ap (λ (left : Left). left.locals) shown.shows) (ap (λ (left : Left). left.taken) shown.shows) pending;
      }

module _ (dual : DualFields) (tree : IsTree (tree_of dual)) (exchange : List ClientEvent) (skeleton : List Mark) (conn : ℕ) (message : List ℕ) (h : Hypothesis)
    (stands : StandsFor dual exchange skeleton h) where
  sends_of_run : (events : List ServerEvent) → skeleton_of events ≡ skeleton → sends_in conn skeleton ≡ length (server_sends conn events)
  sends_of_run events has = ap (sends_in conn) (sym has) ∙ sends_counted conn events

  shown : (events : List ServerEvent) → RunWith dual.spec exchange skeleton events → ShowsRun dual exchange events h
  shown events run = stands_shows dual tree exchange skeleton h events stands run

  pub tells_nothing : oldest_pending h conn ≡ None → Tells dual exchange skeleton conn message h h Nothing
  tells_nothing none =
      let (events, run) = stands.explains in
      (refl, sends_of_run events run.has ∙ sent_as_received dual exchange events conn message h none (shown events run))

  pub tells_refused : (oldest : List (List ℕ)) → oldest_pending h conn ≡ Some oldest → ¬ (concat oldest ≡ message) → Tells dual exchange skeleton conn message h h No
  tells_refused oldest is other =
      let (events, run) = stands.explains in
      let more = sent_more dual exchange events conn message h oldest is (shown events run) in (
        refl,
        rw (sends_of_run events run.has) more,
        λ (others, other_run).
            let before = run_before_receipt dual.spec exchange conn message skeleton others other_run in
            sent_another dual exchange others conn message h oldest is other (shown others before) other_run.explains,
      )

  pub tells_accepted : (oldest : List (List ℕ)) → oldest_pending h conn ≡ Some oldest → concat oldest ≡ message
      → Tells dual exchange skeleton conn message h (without_oldest h conn) Yes
  tells_accepted oldest is same = (
    record {
      explains = let (events, run) = stands.explains in (events, receives events run);
      solved = λ events run. stands.solved events (run_before_receipt dual.spec exchange conn message skeleton events run);
      picked = λ texts solution. let (events, run, picks) = stands.picked texts solution in (events, receives events run, picks);
      shows = λ events end run ends.
          shows_at dual tree (with_receipt exchange conn message) (without_oldest h conn) events end
          (shown_after events (run_before_receipt dual.spec exchange conn message skeleton events run)) ends;
      asked = stands.asked;
    },
    refl,
    refl,
  )
    where
      shown_after : (events : List ServerEvent) → RunWith dual.spec exchange skeleton events → ShowsRun dual (with_receipt exchange conn message) events (without_oldest h conn)
      shown_after events run = shows_without_oldest dual exchange events conn message h oldest is same (shown events run)

      receives : (events : List ServerEvent) → RunWith dual.spec exchange skeleton events → RunWith dual.spec (with_receipt exchange conn message) skeleton events
      receives events run = record { has = run.has; explains = (shown_after events run).explains }
