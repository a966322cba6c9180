-- What events make of a hypothesis are its expansions.
use Rattle.std.proofs.Common.{◌≡◌, ℕ, ◌+◌, ◌<◌, ◌≤◌, ◌⊎◌, inl, inr, List, [], ◌∷◌, ◌++◌, filter, length, length-append, map, slice_get, slice_index_or, take, Option, Some, None, refl, sym, ◌∙◌, ap, subst, arith, append-nil}
use Rattle.std.proofs.Math.ListN.{get_or-append}
use Rattle.std.proofs.Math.Seq.{get_or-append_seam}
use Rattle.std.proofs.lemmas.List.{map-append, take_more}
use Rattle.std.proofs.lemmas.List.Elements.{All-nil, All-pop, All-push, Contains-push_cases, filter-append}
use Rattle.std.proofs.lemmas.List.Quantifiers.{Any-push, all_pairs_push}
use Rattle.std.specs.List.{All, AllPairs, Any, Contains}
use Rattle.std.specs.Option.{option_to_list}
use Rattle.spec_model.specs.declared.event.ClientEvent.{ClientEvent}
use Rattle.spec_model.specs.declared.event.Mark.{Mark}
use Rattle.spec_model.specs.declared.event.ServerEvent.{ServerEvent}
use Rattle.spec_model.specs.declared.event.ServerEvent.TheVariants as servers
use Rattle.spec_model.specs.declared.event.WorldEvent.{WorldEvent}
use Rattle.spec_model.specs.declared.event.WorldEvent.TheVariants.{Server}
use Rattle.spec_model.specs.Alike.{RunWith, SkeletonExplains}
use Rattle.spec_model.specs.Layout.{Arranges, RunExplains}
use Rattle.spec_model.specs.Remainder.{unreceived}
use Rattle.spec_model.specs.Run.{IsRun}
use Rattle.spec_model.specs.Skeleton.{is_test, mark_of, picks_of, skeleton_of, tests_in}
use Rattle.spec_model.specs.World.{IsLegal, IsPrefixOf, client_sends, clients_of, server_of, server_takes}
use Rattle.spec_model.proofs.KeptRuns.{Arranges-receipts}
use Rattle.spec_model.proofs.LegalWorlds.{IsLegal-in_order, IsLegal-no_take, IsLegal-take}
use Rattle.spec_model.proofs.PassedMessages.{server_takes-push_same}
use Rattle.spec_model.proofs.Prefix.{item_after_prefix, prefix_and_item}
use Rattle.spec_model.proofs.Skeletons.{run_with_front}
use Rattle.spec_model.proofs.WorldEvents.{clients_of-push_server, server_of-push_server}
use Rattle.spec_rules.specs.Accepted.{IsAccepted}
use Rattle.itree_data.specs.Fields.{Fields}
use Rattle.itree_data.specs.Marks.{IsTree}
use Rattle.itree_data.specs.Run.{TreeRunsTo, TreeStep}
use Rattle.itree_data.specs.Standing.{Standing}
use Rattle.itree_data.specs.Step.{after_event}
use Rattle.constraint_set.specs.Known.{IsSolution}
use Rattle.dual_step.specs.declared.next.Next.{Next}
use Rattle.dual_step.specs.Next.{Allows}
use Rattle.dual_step.specs.State.{standing_of}
use Rattle.dual_tree.specs.Dual.{DualFields, tree_of}
use Rattle.hypothesis.specs.declared.hypothesis.Hypothesis.{Hypothesis}
use Rattle.hypothesis.specs.Expansions.{AreExpansions, GoesOneFurther, HoldsSends, MadeBefore}
use Rattle.hypothesis.specs.Judged.{PicksNothing}
use Rattle.hypothesis.specs.Left.{Left, left_of, shown_by}
use Rattle.hypothesis.specs.Possible.{AreAllowed, GoesOn, IsEarlier, IsNumbered, IsListable, MakeAll, Makes, none_made, one_more, counted, next_sent}
use Rattle.hypothesis.specs.Stands.{StandsFor}
use Rattle.hypothesis.proofs.FewArms.{few_arms}
use Rattle.hypothesis.proofs.OneRun.{one_run}
use Rattle.hypothesis.proofs.Passing.{pieces_sent, run_passed, sent_after, step_passed, step_sent, step_takes, taken_after, tree_runs_join, tree_runs_once, tree_runs_split, with_passed}
use Rattle.hypothesis.proofs.PickRuns.{IsPick, no_pick, none_is_pick, picks_none}
use Rattle.hypothesis.proofs.Shown.{Shows, ShowsRun, same_left, shows_at, stands_shows}
use Rattle.hypothesis.proofs.Unreceived.{AllWereSent, all_were_sent, length_at, lengths-with_item, unreceived-with_item}

-- The places and stores that a hypothesis shows are those of the configuration, whatever passed.
shown_but_passed : (exchange : List ClientEvent) (t : Standing) (h : Hypothesis) (taken : List (List (List ℕ))) (sent : List (List (List (List ℕ)))) → Shows exchange t h
    → with_passed (standing_of h.state) taken sent ≡ with_passed t taken sent
shown_but_passed exchange t h taken sent shows =
    same_standings (ap (λ (left : Left). left.node) shows) (ap (λ (left : Left). left.compared) shows) (ap (λ (left : Left). left.registers) shows)
    (ap (λ (left : Left). left.tables) shows) (ap (λ (left : Left). left.locals) shows)
  where
    same_standings : t.node ≡ h.state.node → t.compared ≡ h.state.compared → t.registers ≡ h.state.registers → t.tables ≡ h.state.tables → t.locals ≡ h.state.locals
        → with_passed (standing_of h.state) taken sent ≡ with_passed t taken sent
    same_standings node compared registers tables locals = cc

shown_standing : (exchange : List ClientEvent) (t : Standing) (h : Hypothesis) → Shows exchange t h → standing_of h.state ≡ with_passed t [] (unreceived exchange 0 t.sent)
shown_standing exchange t h shows =
    shown_but_passed exchange t h [] h.state.pending shows ∙ ap (λ (left : Left). with_passed t [] left.pending) (sym shows)

-- What is sent is left behind what was, where no more is received than was sent.
sent_left : (exchange : List ClientEvent) (tree : Fields) (t : Standing) (sent : List (List (List (List ℕ)))) (event : ServerEvent)
    → AllWereSent exchange sent → sent_after tree t (unreceived exchange 0 sent) event ≡ unreceived exchange 0 (sent_after tree t sent event)
sent_left exchange tree t sent (servers.Send conn message) all = sym (unreceived-with_item exchange 0 conn conn sent (pieces_sent tree t) (omega arith) (all conn))
sent_left exchange tree t sent (servers.Take conn message) all = refl
sent_left exchange tree t sent (servers.Arm arm) all = refl
sent_left exchange tree t sent (servers.Test outcome) all = refl
sent_left exchange tree t sent (servers.Pick text) all = refl

taken_counted : (taken : List (List (List ℕ))) (event : ServerEvent) → counted (map length taken) event ≡ map length (taken_after taken event)
taken_counted taken (servers.Take conn message) = sym (lengths-with_item taken conn message)
taken_counted taken (servers.Arm arm) = refl
taken_counted taken (servers.Test outcome) = refl
taken_counted taken (servers.Pick text) = refl
taken_counted taken (servers.Send conn message) = refl

-- a world goes on by an event in which the server takes no message but the next
legal_after : (world : List WorldEvent) (event : ServerEvent) → IsLegal world
    → ((conn : ℕ) (message : List ℕ) → event ≡ servers.Take conn message
    → slice_get (client_sends conn (clients_of world)) (length (server_takes conn (server_of world))) ≡ Some message)
    → IsLegal (world ++ Server event ∷ [])
legal_after world (servers.Take conn message) legal next =
    IsLegal-take conn message legal (prefix_and_item _ _ message (IsLegal-in_order legal conn).up (next conn message refl))
legal_after world (servers.Arm arm) legal next = IsLegal-no_take (servers.Arm arm) legal (λ conn. refl)
legal_after world (servers.Test outcome) legal next = IsLegal-no_take (servers.Test outcome) legal (λ conn. refl)
legal_after world (servers.Pick text) legal next = IsLegal-no_take (servers.Pick text) legal (λ conn. refl)
legal_after world (servers.Send conn message) legal next = IsLegal-no_take (servers.Send conn message) legal (λ other. refl)

arranged_after : (world : List WorldEvent) (exchange : List ClientEvent) (events : List ServerEvent) (event : ServerEvent) → Arranges world exchange events
    → ((conn : ℕ) (message : List ℕ) → event ≡ servers.Take conn message → slice_get (client_sends conn exchange) (length (server_takes conn events)) ≡ Some message)
    → Arranges (world ++ Server event ∷ []) exchange (events ++ event ∷ [])
arranged_after world exchange events event arranged next = record {
  legal = legal_after world event arranged.legal (λ conn message is. rw (arranged.clients, arranged.server) (next conn message is));
  clients = clients_of-push_server world event ∙ arranged.clients;
  server = server_of-push_server world event ∙ ap (λ run. run ++ event ∷ []) arranged.server;
}

-- what is taken last is the next message that the client sent
last_taken : (world : List WorldEvent) (exchange : List ClientEvent) (events : List ServerEvent) (conn : ℕ) (message : List ℕ)
    → Arranges world exchange (events ++ servers.Take conn message ∷ [])
    → slice_get (client_sends conn exchange) (length (server_takes conn events)) ≡ Some message
last_taken world exchange events conn message arranged =
    let taken : IsPrefixOf (server_takes conn (events ++ servers.Take conn message ∷ [])) (client_sends conn exchange)
    = rw (arranged.clients, arranged.server) at (IsLegal-in_order arranged.legal conn).up in
    item_after_prefix _ _ message (rw (server_takes-push_same conn events message) at taken)

-- Items that stand two by two in a relation do so in the front of the list, and each of them to the last.
pairs_front : {A : Type 0} (R : A → A → Type 0) (xs more : List A) → AllPairs R (xs ++ more) → AllPairs R xs
pairs_front R xs more ordered = λ i j d before within.
    let first = get_or-append xs more d i (omega arith) in
    let second = get_or-append xs more d j within in
    rw (first, second) at (ordered i j d before (rw (length-append xs more) (omega arith)))

pairs_last : {A : Type 0} (R : A → A → Type 0) (xs : List A) (last : A) → AllPairs R (xs ++ last ∷ []) → All (λ x. R x last) xs
pairs_last R xs last ordered = λ k d within.
    let first = get_or-append xs (last ∷ []) d k within in
    let second = get_or-append_seam xs last [] d in
    rw (first, second) at (ordered k (length xs) d within (rw (length-append xs (last ∷ [])) (omega arith)))

-- made by a mark
abbrev pub IsMadeBy : Mark → Hypothesis → Type 0
IsMadeBy mark made = made.mark ≡ Some mark

-- with a mark more there are no fewer tests
fewer_tests : (skeleton : List Mark) (mark : Mark) → tests_in skeleton ≤ tests_in (skeleton ++ mark ∷ [])
fewer_tests skeleton mark = rw (filter-append is_test skeleton (mark ∷ []), length-append (filter is_test skeleton) (filter is_test (mark ∷ []))) (omega arith)

module _ (dual : DualFields) (exchange : List ClientEvent) (inbox : List (List (List ℕ))) (events : List ServerEvent) (h : Hypothesis) where
  -- the message that stands next in the inbox is the next that the client sent and the server has not taken
  next_is : (conn : ℕ) → IsTree (tree_of dual) → HoldsSends exchange dual.shape.conns inbox → ShowsRun dual exchange events h → conn < dual.shape.conns
      → next_sent inbox h.taken conn ≡ slice_get (client_sends conn exchange) (length (server_takes conn events))
  next_is conn tree holds shown within =
      let passed = run_passed (tree_of dual) events shown.end shown.ends in
      let count : slice_index_or h.taken conn 0 ≡ length (server_takes conn events)
      = ap (λ (left : Left). slice_index_or left.taken conn 0) (sym shown.shows) ∙ length_at shown.end.taken conn ∙ ap length (passed.takes conn) in
      rw (holds conn within, count) refl

  -- the configuration after the event, with all that passed
  abbrev end_after : Standing → Hypothesis → ServerEvent → Standing
  end_after end new event =
      with_passed (standing_of new.state) (taken_after end.taken event) (sent_after (tree_of dual) (standing_of h.state) end.sent event)

  run_after : (event : ServerEvent) (new : Hypothesis) (shown : ShowsRun dual exchange events h) → GoesOn dual h event new
      → TreeRunsTo (tree_of dual) (events ++ event ∷ []) (end_after shown.end new event)
  run_after event new shown goes =
      let end = shown.end in
      let step = step_passed (tree_of dual) (standing_of h.state) (standing_of new.state) event end.taken end.sent goes.step in
      let here : with_passed (standing_of h.state) end.taken end.sent ≡ end = shown_but_passed exchange end h end.taken end.sent shown.shows in
      let step_here : TreeStep (tree_of dual) end event (end_after end new event)
      = subst (λ t. TreeStep (tree_of dual) t event (end_after end new event)) here step in
      tree_runs_join (tree_of dual) events end (event ∷ []) (end_after end new event) shown.ends (end_after end new event, step_here, refl)

  shows_after : (event : ServerEvent) (new : Hypothesis) (shown : ShowsRun dual exchange events h) → GoesOn dual h event new
      → Shows exchange (end_after shown.end new event) new
  shows_after event new shown goes =
      let taken : map length (taken_after shown.end.taken event) ≡ new.taken
      = sym (taken_counted shown.end.taken event) ∙ ap (λ (left : Left). counted left.taken event) shown.shows ∙ sym goes.taken in
      let pending : unreceived exchange 0 (sent_after (tree_of dual) (standing_of h.state) shown.end.sent event) ≡ new.state.pending
      = sym (sent_left exchange (tree_of dual) (standing_of h.state) shown.end.sent event all_sent)
      ∙ ap (λ (left : Left). sent_after (tree_of dual) (standing_of h.state) left.pending event) shown.shows
      ∙ sym (step_sent (tree_of dual) (standing_of h.state) (standing_of new.state) event goes.step) in
      same_left (left_of exchange (end_after shown.end new event)) (shown_by new []) refl refl refl refl refl taken pending
    where
      all_sent : AllWereSent exchange shown.end.sent
      all_sent =
          all_were_sent exchange (tree_of dual) events shown.end (run_passed (tree_of dual) events shown.end shown.ends) (Arranges-receipts shown.explains.arranged)

  -- By a step the hypothesis goes on to one that shows the run that has gone on.
  shows_run_after : (event : ServerEvent) (new : Hypothesis) → IsTree (tree_of dual) → HoldsSends exchange dual.shape.conns inbox → ShowsRun dual exchange events h
      → IsListable inbox h.taken event → GoesOn dual h event new → ShowsRun dual exchange (events ++ event ∷ []) new
  shows_run_after event new tree holds shown listable goes = record {
    explains = record {
      run = (tree.laws.runs (events ++ event ∷ [])).0 (end_after shown.end new event, run_after event new shown goes);
      world = shown.explains.world ++ Server event ∷ [];
      arranged = arranged_after shown.explains.world exchange events event shown.explains.arranged next;
    };
    end = end_after shown.end new event;
    ends = run_after event new shown goes;
    shows = shows_after event new shown goes;
  }
    where
      next : (conn : ℕ) (message : List ℕ) → event ≡ servers.Take conn message → slice_get (client_sends conn exchange) (length (server_takes conn events)) ≡ Some message
      next conn message is =
          let step = subst (λ e. TreeStep (tree_of dual) (standing_of h.state) e (standing_of new.state)) is goes.step in
          let within = step_takes (tree_of dual) (standing_of h.state) (standing_of new.state) conn message step in
          sym (next_is conn tree holds shown within) ∙ subst (λ e. IsListable inbox h.taken e) is listable

  -- Of a run that has gone on and explains the exchange, the last event is a step from where the hypothesis stands, and listable there where it is no pick.
  record LastStep (event : ServerEvent) : Type 0 where
    end : Standing
    step : TreeStep (tree_of dual) (standing_of h.state) event end
    numbered : IsNumbered dual.shape.conns event
    listable : IsListable inbox h.taken event

  last_numbered : (event : ServerEvent) (t u : Standing) → IsAccepted dual.spec → IsRun dual.spec (events ++ event ∷ []) → TreeStep (tree_of dual) t event u
      → IsNumbered dual.shape.conns event
  last_numbered (servers.Take conn message) t u accepted run step = step_takes (tree_of dual) t u conn message step
  last_numbered (servers.Arm arm) t u accepted run step = let few = few_arms dual.spec events arm accepted run in omega (arith, few)
  last_numbered (servers.Test outcome) t u accepted run step = tt
  last_numbered (servers.Pick text) t u accepted run step = tt
  last_numbered (servers.Send conn message) t u accepted run step = tt

  last_listable : (event : ServerEvent) → (IsPick event → ⊥) → IsTree (tree_of dual) → HoldsSends exchange dual.shape.conns inbox → ShowsRun dual exchange events h
      → RunExplains dual.spec exchange (events ++ event ∷ []) → IsNumbered dual.shape.conns event → IsListable inbox h.taken event
  last_listable (servers.Take conn message) free tree holds shown explains within =
      next_is conn tree holds shown within ∙ last_taken explains.world exchange events conn message explains.arranged
  last_listable (servers.Arm arm) free tree holds shown explains within = tt
  last_listable (servers.Test outcome) free tree holds shown explains within = tt
  last_listable (servers.Pick text) free tree holds shown explains within = free tt
  last_listable (servers.Send conn message) free tree holds shown explains within = tt

  last_step : (event : ServerEvent) → (IsPick event → ⊥) → IsTree (tree_of dual) → IsAccepted dual.spec → HoldsSends exchange dual.shape.conns inbox → ShowsRun dual exchange events h
      → RunExplains dual.spec exchange (events ++ event ∷ []) → LastStep event
  last_step event free tree accepted holds shown explains =
      let end = shown.end in
      let pending = unreceived exchange 0 end.sent in
      let (final, run) = (tree.laws.runs (events ++ event ∷ [])).1 explains.run in
      let (middle, before, steps) = tree_runs_split (tree_of dual) events (event ∷ []) final run in
      let here : middle ≡ end = tree_runs_once (tree_of dual) events middle end before shown.ends in
      let step : TreeStep (tree_of dual) end event steps.0 = subst (λ t. TreeStep (tree_of dual) t event steps.0) here steps.1 in
      let moved = step_passed (tree_of dual) end steps.0 event [] pending step in
      let next = with_passed steps.0 (taken_after [] event) (sent_after (tree_of dual) end pending event) in
      let numbered = last_numbered event end steps.0 accepted explains.run step in
      record {
        end = next;
        step = subst (λ t. TreeStep (tree_of dual) t event next) (sym (shown_standing exchange end h shown.shows)) moved;
        numbered = numbered;
        listable = last_listable event free tree holds shown explains numbered;
      }

module _ (dual : DualFields) (h : Hypothesis) where
  -- What holds of the events leads to what holds of what they make.
  each_made : (P : ServerEvent → Type 0) (Q : Hypothesis → Type 0) (listed : List ServerEvent) (hs : List Hypothesis) → MakeAll dual h listed hs
      → ((event : ServerEvent) (new : Hypothesis) → P event → GoesOn dual h event new → Q new) → All P listed → All Q hs
  each_made P Q listed hs none_made leads all = All-nil Q
  each_made P Q listed hs (one_more before made_before event made earlier makes) leads all =
      let parts = All-pop P (before ++ event ∷ []) before (Some event) refl all in
      with_made made makes (each_made P Q before made_before earlier leads parts.0) parts.1
    where
      with_made : (made : Option Hypothesis) → Makes dual h event made → All Q made_before → P event → All Q (made_before ++ option_to_list made)
      with_made None makes each here = rw (append-nil made_before) each
      with_made (Some new) goes each here = All-push Q made_before new each (leads event new here goes)

  made_longer : (mark : Mark) (hs more : List Hypothesis) → Any (IsMadeBy mark) hs → Any (IsMadeBy mark) (hs ++ more)
  made_longer mark hs more (place, g, within, there, made) =
      (place, g, rw (length-append hs more) (omega arith), get_or-append hs more g place within ∙ there, made)

  -- Each event that is a step makes a hypothesis.
  made_by_step : (event : ServerEvent) (middle : Standing) (listed : List ServerEvent) (hs : List Hypothesis) → MakeAll dual h listed hs
      → after_event (tree_of dual) (standing_of h.state) event ≡ Some middle → Contains listed event → Any (IsMadeBy (mark_of event)) hs
  made_by_step event middle listed hs none_made gave (place, within, there) = absurd (omega (arith, within))
  made_by_step event middle listed hs (one_more before made_before last made earlier makes) gave within =
      by_place (λ here. made_by_step event middle before made_before earlier gave here) (Contains-push_cases before last event within)
    where
      with_made : (made : Option Hypothesis) → Makes dual h last made → last ≡ event → Any (IsMadeBy (mark_of event)) (made_before ++ option_to_list made)
      with_made None none same =
          absurd (let none_here = subst (λ e. after_event (tree_of dual) (standing_of h.state) e ≡ None) same none in cc)
      with_made (Some new) goes same = Any-push (IsMadeBy (mark_of event)) made_before new (goes.mark ∙ ap (λ e. Some (mark_of e)) same)

      by_place : (Contains before event → Any (IsMadeBy (mark_of event)) made_before) → Contains before event ⊎ (last ≡ event)
          → Any (IsMadeBy (mark_of event)) (made_before ++ option_to_list made)
      by_place made_there (inl here) = made_longer (mark_of event) made_before _ (made_there here)
      by_place made_there (inr same) = with_made made makes same

  -- Of events in skeleton order are made hypotheses in skeleton order.
  made_ordered : (listed : List ServerEvent) (hs : List Hypothesis) → MakeAll dual h listed hs → AllPairs IsEarlier listed → AllPairs MadeBefore hs
  made_ordered listed hs none_made ordered = λ i j d before within. absurd (omega (arith, within))
  made_ordered listed hs (one_more before made_before event made earlier makes) ordered =
      with_made made makes (made_ordered before made_before earlier (pairs_front IsEarlier before (event ∷ []) ordered)) (pairs_last IsEarlier before event ordered)
    where
      comes_before : (new : Hypothesis) → GoesOn dual h event new → (other : ServerEvent) (g : Hypothesis) → IsEarlier other event → GoesOn dual h other g → MadeBefore g new
      comes_before new goes other g lesser went = rw (goes.mark, went.mark) lesser

      with_made : (made : Option Hypothesis) → Makes dual h event made → AllPairs MadeBefore made_before → All (λ (other : ServerEvent). IsEarlier other event) before
          → AllPairs MadeBefore (made_before ++ option_to_list made)
      with_made None none ordered_before lesser = rw (append-nil made_before) ordered_before
      with_made (Some new) goes ordered_before lesser =
          all_pairs_push MadeBefore made_before new ordered_before
          (each_made (λ (other : ServerEvent). IsEarlier other event) (λ (g : Hypothesis). MadeBefore g new) before made_before earlier (comes_before new goes) lesser)

-- Where nothing is picked, a hypothesis that shows a run stands for its skeleton, if it knows what one knows that stands for a
-- beginning of it.
module _ (dual : DualFields) (exchange : List ClientEvent) (tree : IsTree (tree_of dual)) (nothing : PicksNothing dual.spec) where
  stands_behind : (skeleton : List Mark) (mark : Mark) (h new : Hypothesis) (events : List ServerEvent) → StandsFor dual exchange skeleton h
      → new.facts ≡ h.facts → skeleton_of events ≡ skeleton ++ mark ∷ [] → ShowsRun dual exchange events new → StandsFor dual exchange (skeleton ++ mark ∷ []) new
  stands_behind skeleton mark h new events stands same_facts has shown = record {
    explains = (events, run);
    solved = λ others other_run. rw (same_facts, none_of others other_run.explains) none_solves;
    picked = λ texts solution. (events, run, none_of events shown.explains ∙ sym (none_solved texts (rw same_facts at solution)));
    shows = λ others end other_run ends.
        let same : others ≡ events
        = one_run dual.spec exchange others events (other_run.has ∙ sym has) (none_is_pick dual.spec others nothing other_run.explains.run) other_run.explains shown.explains in
        shows_at dual tree exchange new events end shown (subst (λ events. TreeRunsTo (tree_of dual) events end) same ends);
    asked = let fewer = fewer_tests skeleton mark in rw same_facts (omega (arith, stands.asked, fewer));
  }
    where
      run : RunWith dual.spec exchange (skeleton ++ mark ∷ []) events
      run = record { has = has; explains = shown.explains }

      none_of : (others : List ServerEvent) → RunExplains dual.spec exchange others → picks_of others ≡ []
      none_of others explains = picks_none dual.spec others nothing explains.run

      none_solves : IsSolution h.facts []
      none_solves = let (front, front_run) = stands.explains in subst (IsSolution h.facts) (none_of front front_run.explains) (stands.solved front front_run)

      none_solved : (texts : List (List ℕ)) → IsSolution h.facts texts → texts ≡ []
      none_solved texts solution = let (front, front_run, picks) = stands.picked texts solution in sym picks ∙ none_of front front_run.explains

pub are_expansions : (dual : DualFields) (exchange : List ClientEvent) (inbox : List (List (List ℕ))) (skeleton : List Mark) (h : Hypothesis)
    (next : Next) (listed : List ServerEvent) (hs : List Hypothesis) → IsTree (tree_of dual) → IsAccepted dual.spec
    → ((event : ServerEvent) (middle : Standing) → after_event (tree_of dual) (standing_of h.state) event ≡ Some middle → Allows next event)
    → AreAllowed next dual.shape.conns inbox h.taken listed → MakeAll dual h listed hs → PicksNothing dual.spec
    → HoldsSends exchange dual.shape.conns inbox → StandsFor dual exchange skeleton h → AreExpansions dual exchange skeleton h hs
are_expansions dual exchange inbox skeleton h next listed hs tree accepted allows allowed make nothing holds stands = record {
  each = each_made dual h (IsListable inbox h.taken) (GoesOneFurther dual exchange skeleton h) listed hs make goes_further allowed.listable;
  all = all;
  ordered = made_ordered dual h listed hs make allowed.ordered;
}
  where
    shown : (events : List ServerEvent) → RunWith dual.spec exchange skeleton events → ShowsRun dual exchange events h
    shown events run = stands_shows dual tree exchange skeleton h events stands run

    goes_further : (event : ServerEvent) (new : Hypothesis) → IsListable inbox h.taken event → GoesOn dual h event new → GoesOneFurther dual exchange skeleton h new
    goes_further event new listable goes =
        let (events, run) = stands.explains in
        let after = shows_run_after dual exchange inbox events h event new tree holds (shown events run) listable goes in
        let has : skeleton_of (events ++ event ∷ []) ≡ skeleton ++ mark_of event ∷ []
        = map-append mark_of events (event ∷ []) ∙ ap (λ marks. marks ++ mark_of event ∷ []) run.has in
        record {
          mark = mark_of event;
          by = goes.mark;
          step = goes.same_step;
          stands = stands_behind dual exchange tree nothing skeleton (mark_of event) h new (events ++ event ∷ []) stands goes.facts has after;
        }

    made_last : (mark : Mark) (front back : List ServerEvent) → skeleton_of back ≡ mark ∷ [] → RunWith dual.spec exchange skeleton front
        → RunExplains dual.spec exchange (front ++ back) → Any (IsMadeBy mark) hs
    made_last mark front [] rest run explains = absurd (cc)
    made_last mark front (event ∷ later ∷ back) rest run explains = absurd (cc)
    made_last mark front (event ∷ []) rest run explains =
        let free = no_pick dual.spec front event nothing explains.run in
        let last = last_step dual exchange inbox front h event free tree accepted holds (shown front run) explains in
        let is : mark_of event ≡ mark = cc in
        subst (λ mark. Any (IsMadeBy mark) hs) is
        (made_by_step dual h event last.step.0 listed hs make last.step.1 (allowed.all event last.numbered last.listable (allows event last.step.0 last.step.1)))

    all : (mark : Mark) → SkeletonExplains dual.spec exchange (skeleton ++ mark ∷ []) → Any (IsMadeBy mark) hs
    all mark (events, run) =
        let fronted = run_with_front dual.spec exchange skeleton (mark ∷ []) events run stands.explains in
        made_last mark fronted.front fronted.back fronted.rest fronted.run (subst (RunExplains dual.spec exchange) fronted.whole run.explains)

-- what one event more makes
pub make_one_more : (dual : DualFields) (h : Hypothesis) (listed : List ServerEvent) (hs : List Hypothesis) (place : ℕ) (event : ServerEvent) (made : Option Hypothesis)
    → place < length listed → event ≡ slice_index_or listed place event → MakeAll dual h (take place listed) hs → Makes dual h event made
    → MakeAll dual h (take (place + 1) listed) (hs ++ option_to_list made)
make_one_more dual h listed hs place event made within is earlier makes =
    rw (take_more listed place event within, ← is) (one_more (take place listed) hs event made earlier makes)
