-- Runs that end alike go on alike, and explain the same.
use Rattle.std.proofs.Common.{◌≡◌, ℕ, ◌+◌, List, [], ◌∷◌, ◌++◌, length, map, drop, Some, refl, sym, ◌∙◌, ap, subst, arith, length-drop}
use Rattle.std.proofs.lemmas.List.{drop-map}
use Rattle.std.proofs.lemmas.List.Elements.{filter_map-append}
use Rattle.std.specs.List.{concat}
use Rattle.std.specs.Prelude.{slice_get, slice_index_or, slice_set}
use Rattle.spec_model.specs.declared.event.ClientEvent.{ClientEvent}
use Rattle.spec_model.specs.declared.event.ClientEvent.TheVariants as clients
use Rattle.spec_model.specs.declared.event.ServerEvent.{ServerEvent}
use Rattle.spec_model.specs.declared.event.ServerEvent.TheVariants as servers
use Rattle.spec_model.specs.declared.event.WorldEvent.TheVariants.{Client, Server}
use Rattle.spec_model.specs.declared.tree.Spec.{Spec}
use Rattle.spec_model.specs.Config.{with_item_at}
use Rattle.spec_model.specs.Layout.{RunExplains}
use Rattle.spec_model.specs.Remainder.{unreceived}
use Rattle.spec_model.specs.Run.{IsRun}
use Rattle.spec_model.specs.World.{IsPrefixOf, client_receipts, client_sends, sent_by_server, server_sends, server_takes, taken_by_server}
use Rattle.spec_model.proofs.KeptRuns.{Arranges-receipts, Arranges-takes}
use Rattle.spec_model.proofs.LegalWorlds.{IsLegal-block, IsLegal-client_send}
use Rattle.spec_model.proofs.Prefix.{IsPrefixOf-compared, IsPrefixOf-longer, length-IsPrefixOf, same_from_IsPrefixOf}
use Rattle.spec_model.proofs.WorldEvents.{clients_of-block, clients_of-push_client, server_of-block, server_of-push_client}
use Rattle.itree_data.specs.Fields.{Fields}
use Rattle.itree_data.specs.Marks.{IsTree}
use Rattle.itree_data.specs.Run.{TreeRunsTo, TreeStep, TreeSteps}
use Rattle.itree_data.specs.Standing.{Standing}
use Rattle.dual_tree.specs.Dual.{DualFields, tree_of}
use Rattle.hypothesis.specs.Left.{Left, left_of}
use Rattle.hypothesis.specs.Received.{with_receipt}
use Rattle.spec_model.specs.Layout.{RunExplains}
use Rattle.hypothesis.proofs.Passing.{pieces_sent, run_passed, sent_after, step_passed, step_sent, step_taken, taken_after, tree_runs_join, tree_runs_once, tree_runs_split, with_passed}
use Rattle.hypothesis.proofs.Shown.{EndAlike, LeaveSame, run_ends, same_left}
use Rattle.hypothesis.proofs.Receiving.{explains_receipt, first_behind, received_next}
use Rattle.hypothesis.proofs.Unreceived.{AllWereSent, all_were_sent, length_at, lengths-with_item, unreceived-receipt, unreceived-with_item, unreceived_at}

-- A run that explains an exchange explains it where it goes on by events in which the server takes what the clients sent.
pub explains_more : (spec : Spec) (exchange : List ClientEvent) (events more : List ServerEvent) → RunExplains spec exchange events → IsRun spec (events ++ more)
    → ((conn : ℕ) → IsPrefixOf (server_takes conn (events ++ more)) (client_sends conn exchange)) → RunExplains spec exchange (events ++ more)
explains_more spec exchange events more explains run taken =
    let arranged = explains.arranged in
    record {
      run = run;
      world = explains.world ++ map Server more;
      arranged = record {
        legal = IsLegal-block more arranged.legal (λ conn. rw (arranged.server, arranged.clients) (taken conn));
        clients = clients_of-block explains.world more ∙ arranged.clients;
        server = server_of-block explains.world more ∙ ap (λ run. run ++ more) arranged.server;
      };
    }

-- It explains the exchange with a send of a client behind it.
pub explains_send : (spec : Spec) (exchange : List ClientEvent) (events : List ServerEvent) (conn : ℕ) (message : List ℕ) → RunExplains spec exchange events
    → RunExplains spec (exchange ++ clients.Sends conn message ∷ []) events
explains_send spec exchange events conn message explains =
    let send = clients.Sends conn message in
    let arranged = explains.arranged in
    record {
      run = explains.run;
      world = explains.world ++ Client send ∷ [];
      arranged = record {
        legal = IsLegal-client_send conn message arranged.legal;
        clients = clients_of-push_client explains.world send ∙ ap (λ seen. seen ++ send ∷ []) arranged.clients;
        server = server_of-push_client explains.world send ∙ arranged.server;
      };
    }

-- Two beginnings of a list that are equally long are equal.
same_beginnings : {A : Type 0} (front other whole : List A) → IsPrefixOf front whole → IsPrefixOf other whole → length front ≡ length other → front ≡ other
same_beginnings front other whole begins other_begins lengths =
    same_from_IsPrefixOf front other (IsPrefixOf-compared front other whole begins other_begins (omega arith)) (omega arith)

-- Standings that leave the same differ in what passed alone.
same_but_passed : (exchange : List ClientEvent) (t u : Standing) (taken : List (List (List ℕ))) (sent : List (List (List (List ℕ)))) → LeaveSame exchange t u
    → with_passed t taken sent ≡ with_passed u taken sent
same_but_passed exchange t u taken sent same =
    same_standings (ap (λ (left : Left). left.node) same) (ap (λ (left : Left). left.compared) same) (ap (λ (left : Left). left.registers) same)
    (ap (λ (left : Left). left.tables) same) (ap (λ (left : Left). left.locals) same)
  where
    same_standings : t.node ≡ u.node → t.compared ≡ u.compared → t.registers ≡ u.registers → t.tables ≡ u.tables → t.locals ≡ u.locals
        → with_passed t taken sent ≡ with_passed u taken sent
    same_standings node compared registers tables locals = cc

-- A message that is taken counts alike.
taken_alike : (taken others : List (List (List ℕ))) (event : ServerEvent) → map length taken ≡ map length others
    → map length (taken_after taken event) ≡ map length (taken_after others event)
taken_alike taken others (servers.Take conn message) same =
    lengths-with_item taken conn message ∙ ap (λ counts. slice_set counts conn (slice_index_or counts conn 0 + 1)) same ∙ sym (lengths-with_item others conn message)
taken_alike taken others (servers.Send conn message) same = same
taken_alike taken others (servers.Arm arm) same = same
taken_alike taken others (servers.Test outcome) same = same
taken_alike taken others (servers.Pick text) same = same

-- A message that is sent is left alike.
sent_alike : (exchange : List ClientEvent) (tree : Fields) (t : Standing) (sent others : List (List (List (List ℕ)))) (event : ServerEvent)
    → AllWereSent exchange sent → AllWereSent exchange others → unreceived exchange 0 sent ≡ unreceived exchange 0 others
    → unreceived exchange 0 (sent_after tree t sent event) ≡ unreceived exchange 0 (sent_after tree t others event)
sent_alike exchange tree t sent others (servers.Send conn message) all other_all same =
    unreceived-with_item exchange 0 conn conn sent (pieces_sent tree t) (omega arith) (all conn)
    ∙ ap (λ left. with_item_at left conn (pieces_sent tree t)) same
    ∙ sym (unreceived-with_item exchange 0 conn conn others (pieces_sent tree t) (omega arith) (other_all conn))
sent_alike exchange tree t sent others (servers.Take conn message) all other_all same = same
sent_alike exchange tree t sent others (servers.Arm arm) all other_all same = same
sent_alike exchange tree t sent others (servers.Test outcome) all other_all same = same
sent_alike exchange tree t sent others (servers.Pick text) all other_all same = same

-- The runs of a tree that leave the same go on together.
module _ (exchange : List ClientEvent) (tree : Fields) where
  record AreTogether (events others : List ServerEvent) (t u : Standing) : Type 0 where
    ends : TreeRunsTo tree events t
    other_ends : TreeRunsTo tree others u
    received : (conn : ℕ) → IsPrefixOf (client_receipts conn exchange) (server_sends conn events)
    other_received : (conn : ℕ) → IsPrefixOf (client_receipts conn exchange) (server_sends conn others)
    same : LeaveSame exchange t u

  record FollowsStep (event : ServerEvent) (v u : Standing) : Type 0 where
    end : Standing
    step : TreeStep tree u event end
    same : LeaveSame exchange v end

  follows_step : (events others : List ServerEvent) (t u v : Standing) (event : ServerEvent) → AreTogether events others t u → TreeStep tree t event v → FollowsStep event v u
  follows_step events others t u v event together step =
      let same = together.same in
      let passed = run_passed tree events t together.ends in
      let other_passed = run_passed tree others u together.other_ends in
      let taken : map length v.taken ≡ map length (taken_after u.taken event)
      = ap (map length) (step_taken tree t v event step)
      ∙ taken_alike t.taken u.taken event (ap (λ (left : Left). left.taken) same) in
      let pending : unreceived exchange 0 v.sent ≡ unreceived exchange 0 (sent_after tree t u.sent event)
      = ap (unreceived exchange 0) (step_sent tree t v event step)
      ∙ sent_alike exchange tree t t.sent u.sent event (all_were_sent exchange tree events t passed together.received)
      (all_were_sent exchange tree others u other_passed together.other_received) (ap (λ (left : Left). left.pending) same) in
      record {
        end = with_passed v (taken_after u.taken event) (sent_after tree t u.sent event);
        step = subst (λ s. TreeStep tree s event (with_passed v (taken_after u.taken event) (sent_after tree t u.sent event))) (same_but_passed exchange t u u.taken u.sent same)
            (step_passed tree t v event u.taken u.sent step);
        same = same_left (left_of exchange v) (left_of exchange (with_passed v (taken_after u.taken event) (sent_after tree t u.sent event))) refl refl refl refl refl taken pending;
      }

  still_received : (events : List ServerEvent) (event : ServerEvent) → ((conn : ℕ) → IsPrefixOf (client_receipts conn exchange) (server_sends conn events))
      → (conn : ℕ) → IsPrefixOf (client_receipts conn exchange) (server_sends conn (events ++ event ∷ []))
  still_received events event received conn = rw (filter_map-append (sent_by_server conn) events (event ∷ [])) (IsPrefixOf-longer _ _ _ (received conn))

  record FollowsSteps (more : List ServerEvent) (v u : Standing) : Type 0 where
    end : Standing
    steps : TreeSteps tree u more end
    same : LeaveSame exchange v end

  follows_steps : (events others more : List ServerEvent) (t u v : Standing) → AreTogether events others t u → TreeSteps tree t more v → FollowsSteps more v u
  follows_steps events others [] t u v together steps = record { end = u; steps = refl; same = subst (λ s. LeaveSame exchange s u) steps together.same }
  follows_steps events others (event ∷ more) t u v together (middle, step, steps) =
      let once = follows_step events others t u middle event together step in
      let still : AreTogether (events ++ event ∷ []) (others ++ event ∷ []) middle once.end
      = record {
        ends = tree_runs_join tree events t (event ∷ []) middle together.ends (middle, step, refl);
        other_ends = tree_runs_join tree others u (event ∷ []) once.end together.other_ends (once.end, once.step, refl);
        received = still_received events event together.received;
        other_received = still_received others event together.other_received;
        same = once.same;
      } in
      let rest = follows_steps (events ++ event ∷ []) (others ++ event ∷ []) more middle once.end v still steps in
      record { end = rest.end; steps = (once.end, once.step, rest.steps); same = rest.same }

-- Runs that leave the same, and of which each takes what the clients sent, take the same.
same_takes : (exchange : List ClientEvent) (tree : Fields) (events others : List ServerEvent) (t u : Standing) (conn : ℕ)
    → TreeRunsTo tree events t → TreeRunsTo tree others u → LeaveSame exchange t u
    → IsPrefixOf (server_takes conn events) (client_sends conn exchange) → IsPrefixOf (server_takes conn others) (client_sends conn exchange)
    → server_takes conn events ≡ server_takes conn others
same_takes exchange tree events others t u conn ends other_ends same begins other_begins =
    let passed = run_passed tree events t ends in
    let other_passed = run_passed tree others u other_ends in
    let lengths : length (server_takes conn events) ≡ length (server_takes conn others)
    = ap length (sym (passed.takes conn)) ∙ sym (length_at t.taken conn) ∙ ap (λ (left : Left). slice_index_or left.taken conn 0) same
    ∙ length_at u.taken conn ∙ ap length (other_passed.takes conn) in
    same_beginnings _ _ (client_sends conn exchange) begins other_begins lengths

-- Runs that leave the same left the same to be received.
same_sends_left : (exchange : List ClientEvent) (tree : Fields) (events others : List ServerEvent) (t u : Standing) (conn : ℕ)
    → TreeRunsTo tree events t → TreeRunsTo tree others u → LeaveSame exchange t u
    → drop (length (client_receipts conn exchange)) (server_sends conn events) ≡ drop (length (client_receipts conn exchange)) (server_sends conn others)
same_sends_left exchange tree events others t u conn ends other_ends same =
    let count = length (client_receipts conn exchange) in
    let passed = run_passed tree events t ends in
    let other_passed = run_passed tree others u other_ends in
    let left : drop count (slice_index_or t.sent conn []) ≡ drop count (slice_index_or u.sent conn [])
    = sym (unreceived_at exchange 0 conn conn t.sent (omega arith))
    ∙ ap (λ (left : Left). slice_index_or left.pending conn []) same
    ∙ unreceived_at exchange 0 conn conn u.sent (omega arith) in
    ap (drop count) (sym (passed.sends conn))
    ∙ drop-map concat count (slice_index_or t.sent conn [])
    ∙ ap (map concat) left
    ∙ sym (drop-map concat count (slice_index_or u.sent conn []))
    ∙ ap (drop count) (other_passed.sends conn)

-- They sent the same message next.
same_next : (exchange : List ClientEvent) (tree : Fields) (events others : List ServerEvent) (t u : Standing) (conn : ℕ)
    → TreeRunsTo tree events t → TreeRunsTo tree others u → LeaveSame exchange t u
    → slice_get (server_sends conn events) (length (client_receipts conn exchange)) ≡ slice_get (server_sends conn others) (length (client_receipts conn exchange))
same_next exchange tree events others t u conn ends other_ends same =
    let count = length (client_receipts conn exchange) in
    sym (first_behind count (server_sends conn events))
    ∙ ap (λ sends. slice_get sends 0) (same_sends_left exchange tree events others t u conn ends other_ends same)
    ∙ first_behind count (server_sends conn others)

module _ (dual : DualFields) (is_tree : IsTree (tree_of dual)) where
  -- Runs that explain an exchange and end alike go on alike: what may follow the one may follow the other.
  pub alike_moves : (exchange : List ClientEvent) (events others more : List ServerEvent) → RunExplains dual.spec exchange events → RunExplains dual.spec exchange others
      → EndAlike dual exchange events others → RunExplains dual.spec exchange (events ++ more)
      → RunExplains dual.spec exchange (others ++ more) × EndAlike dual exchange (events ++ more) (others ++ more)
  alike_moves exchange events others more explains other_explains alike goes_on =
      let tree = tree_of dual in
      let whole = run_ends dual is_tree (events ++ more) goes_on.run in
      let split = tree_runs_split tree events more whole.0 whole.1 in
      let here : split.0 ≡ alike.end = tree_runs_once tree events split.0 alike.end split.1 alike.ends in
      let steps : TreeSteps tree alike.end more whole.0 = subst (λ t. TreeSteps tree t more whole.0) here split.2 in
      let together : AreTogether exchange tree events others alike.end alike.other_end
      = record {
        ends = alike.ends;
        other_ends = alike.other_ends;
        received = Arranges-receipts explains.arranged;
        other_received = Arranges-receipts other_explains.arranged;
        same = alike.same;
      } in
      let follows = follows_steps exchange tree events others more alike.end alike.other_end whole.0 together steps in
      let other_whole = tree_runs_join tree others alike.other_end more follows.end alike.other_ends follows.steps in
      let takes : (conn : ℕ) → server_takes conn events ≡ server_takes conn others
      = λ conn. same_takes exchange tree events others alike.end alike.other_end conn alike.ends alike.other_ends alike.same (Arranges-takes explains.arranged conn)
      (Arranges-takes other_explains.arranged conn) in
      let all_takes : (conn : ℕ) → server_takes conn (events ++ more) ≡ server_takes conn (others ++ more)
      = λ conn. filter_map-append (taken_by_server conn) events more ∙ ap (λ front. front ++ server_takes conn more) (takes conn)
      ∙ sym (filter_map-append (taken_by_server conn) others more) in
      let taken : (conn : ℕ) → IsPrefixOf (server_takes conn (others ++ more)) (client_sends conn exchange)
      = λ conn. subst (λ front. IsPrefixOf front (client_sends conn exchange)) (all_takes conn) (Arranges-takes goes_on.arranged conn) in
      let run : IsRun dual.spec (others ++ more) = (is_tree.laws.runs (others ++ more)).0 (follows.end, other_whole) in (
        explains_more dual.spec exchange others more other_explains run taken,
        record { end = whole.0; other_end = follows.end; ends = whole.1; other_ends = other_whole; same = follows.same },
      )

  -- They stay alike where a client receives what the one explains, and sent as many messages.
  pub alike_receives : (exchange : List ClientEvent) (conn : ℕ) (message : List ℕ) (events others : List ServerEvent)
      → RunExplains dual.spec exchange events → RunExplains dual.spec exchange others
      → EndAlike dual exchange events others → RunExplains dual.spec (with_receipt exchange conn message) events
      → RunExplains dual.spec (with_receipt exchange conn message) others × EndAlike dual (with_receipt exchange conn message) events others
  alike_receives exchange conn message events others explains other_explains alike receives =
      let tree = tree_of dual in
      let same = alike.same in
      let next = received_next dual.spec exchange events conn message receives in
      let other_next : slice_get (server_sends conn others) (length (client_receipts conn exchange)) ≡ Some message
      = sym (same_next exchange tree events others alike.end alike.other_end conn alike.ends alike.other_ends same) ∙ next in
      let pending : unreceived (with_receipt exchange conn message) 0 alike.end.sent ≡ unreceived (with_receipt exchange conn message) 0 alike.other_end.sent
      = unreceived-receipt exchange 0 conn conn message alike.end.sent (omega arith)
      ∙ ap (λ (left : Left). slice_set left.pending conn (drop 1 (slice_index_or left.pending conn []))) same
      ∙ sym (unreceived-receipt exchange 0 conn conn message alike.other_end.sent (omega arith)) in
      let received : LeaveSame (with_receipt exchange conn message) alike.end alike.other_end
      = same_left (left_of (with_receipt exchange conn message) alike.end) (left_of (with_receipt exchange conn message) alike.other_end)
      (ap (λ (left : Left). left.node) same) (ap (λ (left : Left). left.compared) same) (ap (λ (left : Left). left.registers) same)
      (ap (λ (left : Left). left.tables) same) (ap (λ (left : Left). left.locals) same) (ap (λ (left : Left). left.taken) same) pending in (
        explains_receipt dual.spec exchange others conn message other_explains other_next,
        record { end = alike.end; other_end = alike.other_end; ends = alike.ends; other_ends = alike.other_ends; same = received },
      )

  pub alike_counts : (exchange : List ClientEvent) (conn : ℕ) (events others : List ServerEvent)
      → RunExplains dual.spec exchange events → RunExplains dual.spec exchange others → EndAlike dual exchange events others
      → length (server_sends conn events) ≡ length (server_sends conn others)
  alike_counts exchange conn events others explains other_explains alike =
      let count = length (client_receipts conn exchange) in
      let left = same_sends_left exchange (tree_of dual) events others alike.end alike.other_end conn alike.ends alike.other_ends alike.same in
      let fewer = length-IsPrefixOf _ _ (Arranges-receipts explains.arranged conn) in
      let other_fewer = length-IsPrefixOf _ _ (Arranges-receipts other_explains.arranged conn) in
      omega (arith, fewer, other_fewer, ap length left, length-drop count (server_sends conn events), length-drop count (server_sends conn others))
