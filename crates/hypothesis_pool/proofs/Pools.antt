-- What a pool keeps from event to event, and what it tells.
use Rattle.std.proofs.Common.{◌≡◌, ℕ, ◌+◌, ◌-◌, ◌<◌, ◌⊎◌, inl, inr, ⊎_elim, Any, List, [], ◌∷◌, ◌++◌, length, replicate, slice_index_or, take, length-set, Option, Some, None, is_some, option_to_list, true, false, MatchOption, refl, sym, ◌∙◌, ap, subst, arith, append-nil, length-append, take_all}
use Rattle.std.proofs.lemmas.Bool.{cases_eq}
use Rattle.std.proofs.lemmas.List.{get_or-replicate, get_or-set_other, get_or-set_same, length-map, length-replicate, take-append-le}
use Rattle.std.proofs.lemmas.List.Elements.{All-head, All-nil}
use Rattle.std.specs.List.{AllByRecursion}
use Rattle.spec_model.specs.declared.event.ClientEvent.{ClientEvent}
use Rattle.spec_model.specs.declared.event.ClientEvent.TheVariants as clients
use Rattle.spec_model.specs.declared.event.Mark.{Mark}
use Rattle.spec_model.specs.declared.tree.Spec.{Spec}
use Rattle.spec_model.specs.Alike.{AreAlike}
use Rattle.spec_model.specs.Config.{with_item_at}
use Rattle.spec_model.specs.Least.{IsKeptSkeleton, IsLeastSkeleton}
use Rattle.spec_model.specs.Skeleton.{Precedes}
use Rattle.spec_model.specs.Verdict.{IsRejectedAt}
use Rattle.spec_model.specs.World.{IsExplained, IsOfShape, IsPrefixOf, client_sends, sent_by_client}
use Rattle.spec_model.proofs.Explanations.{rejected_not_explained}
use Rattle.spec_model.proofs.PassedMessages.{client_sends-push_other, client_sends-push_receipt, client_sends-push_same, filter_map-push_none}
use Rattle.dual_tree.specs.Dual.{DualFields, IsDual}
use Rattle.trail_store.specs.Path.{path_at}
use Rattle.hypothesis.specs.declared.hypothesis.Hypothesis.{Hypothesis}
use Rattle.hypothesis.specs.Judged.{PicksNothing}
use Rattle.hypothesis.specs.Left.{IsAlike}
use Rattle.hypothesis.specs.Stands.{StandsFor}
use Rattle.hypothesis.proofs.AlikeSkeletons.{alike_skeletons}
use Rattle.hypothesis_pool.specs.Pool.{Collects, IsOnConn, IsPool, rejection_of, with_sent}
use Rattle.hypothesis_pool.specs.Standing.{StandForAll, Stands, StandsIn, skeleton_in, skeletons_in}
use Rattle.hypothesis_pool.specs.Unalike.{CountsUnalike}
use Rattle.hypothesis_pool.proofs.Lists.{AllPairs-head, AllPairs-map, AllPairs-none, AllPairs-weaker, Any-cases, Any-weaker}
use Rattle.hypothesis_pool.proofs.Noting.{stand_for_all_longer}
use Rattle.hypothesis_pool.proofs.Orders.{precedes_joined}
use Rattle.hypothesis_pool.proofs.Waiting.{after_send, at_first, garbles_unexplained, kept_is_explanation, none_explains, some_explains}

-- an event more of the shape
exchange_goes_on : (P : ClientEvent → Type 0) (fed : List ClientEvent) (event : ClientEvent) → AllByRecursion P fed → P event → AllByRecursion P (fed ++ event ∷ [])
exchange_goes_on P [] event all one = (one, tt)
exchange_goes_on P (first ∷ fed) event all one = (all.0, exchange_goes_on P fed event all.1 one)

-- What was sent on a connection, behind a send.
sends_go_on : (conn other : ℕ) (fed : List ClientEvent) (message : List ℕ) (inbox : List (List (List ℕ))) → conn < length inbox
    → slice_index_or inbox conn [] ≡ client_sends conn fed
    → slice_index_or (with_item_at inbox other message) conn [] ≡ client_sends conn (fed ++ clients.Sends other message ∷ [])
sends_go_on conn other fed message inbox within is = elim (cases_eq other conn) [
  | inl same ↦ subst (λ other. slice_index_or (with_item_at inbox other message) conn [] ≡ client_sends conn (fed ++ clients.Sends other message ∷ [])) (sym same)
      (get_or-set_same inbox conn (slice_index_or inbox conn [] ++ message ∷ []) [] within
      ∙ ap (λ messages. messages ++ message ∷ []) is ∙ sym (client_sends-push_same conn fed message))
  | inr apart ↦ get_or-set_other inbox other conn (slice_index_or inbox other [] ++ message ∷ []) [] (λ same. apart (sym same)) ∙ is
      ∙ sym (client_sends-push_other conn other fed message apart)
]

-- An inbox collects what is sent, from nothing on.
collects_nothing : (dual : DualFields) → Collects dual [] (replicate dual.shape.conns [])
collects_nothing dual = record {
  conns = length-replicate dual.shape.conns [];
  holds = λ conn within. get_or-replicate dual.shape.conns conn [] [] within;
}

collects_more : (dual : DualFields) (fed : List ClientEvent) (event : ClientEvent) (inbox : List (List (List ℕ))) → Collects dual fed inbox
    → Collects dual (fed ++ event ∷ []) (with_sent inbox event)
collects_more dual fed (clients.Sends conn message) inbox collects = record {
  conns = length-set inbox conn (slice_index_or inbox conn [] ++ message ∷ []) ∙ collects.conns;
  holds = λ place within. sends_go_on place conn fed message inbox (rw collects.conns within) (collects.holds place within);
}
collects_more dual fed (clients.Receives conn message) inbox collects = record {
  conns = collects.conns;
  holds = λ place within. collects.holds place within ∙ sym (client_sends-push_receipt place conn fed message);
}
collects_more dual fed (clients.Garbles conn) inbox collects = record {
  conns = collects.conns;
  holds = λ place within. collects.holds place within ∙ sym (filter_map-push_none (sent_by_client place) fed (clients.Garbles conn) refl);
}

pub on_conn : (dual : DualFields) (fed : List ClientEvent) (event : ClientEvent) (inbox : List (List (List ℕ))) → Collects dual fed inbox
    → IsOfShape dual.shape event → IsOnConn (length inbox) event
on_conn dual fed (clients.Sends conn message) inbox collects of_shape = rw collects.conns of_shape.0
on_conn dual fed (clients.Receives conn message) inbox collects of_shape = tt
on_conn dual fed (clients.Garbles conn) inbox collects of_shape = tt

-- what was rejected stays rejected
rejected_goes_on : (spec : Spec) (fed more : List ClientEvent) (event : ℕ) → IsRejectedAt spec fed event → IsRejectedAt spec (fed ++ more) event
rejected_goes_on spec fed more event rejected =
    let within = rejected.within in
    let longer = length-append fed more in
    record {
      first = rejected.first;
      within = omega arith;
      before = rw (take-append-le (event - 1) fed more (omega arith)) rejected.before;
      unexplained = rw (take-append-le event fed more within) rejected.unexplained;
    }

-- where the events before are explained, and with this one they are not, it is rejected
rejected_now : (spec : Spec) (fed : List ClientEvent) (event : ClientEvent) → IsExplained spec fed → ¬ IsExplained spec (fed ++ event ∷ [])
    → IsRejectedAt spec (fed ++ event ∷ []) (length fed + 1)
rejected_now spec fed event explained unexplained =
    let longer = length-append fed (event ∷ []) in
    let before : take (length fed + 1 - 1) (fed ++ event ∷ []) ≡ fed
    = rw (take-append-le (length fed + 1 - 1) fed (event ∷ []) (omega arith)) (take_all _ fed (omega arith)) in
    record {
      first = omega arith;
      within = omega arith;
      before = rw before explained;
      unexplained = rw (take_all (length fed + 1) (fed ++ event ∷ []) (omega arith)) unexplained;
    }

-- the pool before any event
pub begins : (dual : DualFields) (h : Hypothesis) (inbox : List (List (List ℕ))) (paths : List (List Mark)) (hs : List Hypothesis) → IsDual dual → PicksNothing dual.spec
    → StandsFor dual [] [] h → h.step ≡ 0 → h.mark ≡ None → inbox ≡ replicate dual.shape.conns [] → paths ≡ [] ∷ [] → hs ≡ h ∷ [] → IsPool dual [] inbox paths None hs
begins dual h inbox paths hs is_dual picks_nothing stands step mark inbox_is paths_is hs_is = record {
  is_dual = is_dual;
  picks_nothing = picks_nothing;
  of_shape = tt;
  collects = subst (λ inbox. Collects dual [] inbox) (sym inbox_is) (collects_nothing dual);
  verdict = rw (paths_is, hs_is) (at_first dual is_dual h stands step mark, omega arith);
}

module _ (dual : DualFields) (fed : List ClientEvent) (inbox : List (List (List ℕ))) (paths : List (List Mark)) (hs : List Hypothesis) where
  -- A pool is one in a longer trail too.
  pub pool_longer : (new_paths : List (List Mark)) (rejected_at : Option ℕ) → IsPrefixOf paths new_paths → IsPool dual fed inbox paths rejected_at hs
      → IsPool dual fed inbox new_paths rejected_at hs
  pool_longer new_paths rejected_at longer pool = record {
    is_dual = pool.is_dual;
    picks_nothing = pool.picks_nothing;
    of_shape = pool.of_shape;
    collects = pool.collects;
    verdict = by_verdict rejected_at pool.verdict;
  }
    where
      by_verdict : (rejected_at : Option ℕ) → MatchOption rejected_at (StandForAll dual fed paths hs × (0 < length hs)) (λ event. IsRejectedAt dual.spec fed event)
          → MatchOption rejected_at (StandForAll dual fed new_paths hs × (0 < length hs)) (λ event. IsRejectedAt dual.spec fed event)
      by_verdict None (stand, some) = (stand_for_all_longer dual fed paths new_paths hs longer stand, some)
      by_verdict (Some event) rejected = rejected

  module _ (event : ClientEvent) (of_shape : IsOfShape dual.shape event) where
    abbrev with_event : List ClientEvent
    with_event = fed ++ event ∷ []

    -- what goes on with any event
    pool_with : (before rejected_at : Option ℕ) (new_paths : List (List Mark)) (found : List Hypothesis) → IsPool dual fed inbox paths before hs
        → MatchOption rejected_at (StandForAll dual with_event new_paths found × (0 < length found)) (λ event. IsRejectedAt dual.spec with_event event)
        → IsPool dual with_event (with_sent inbox event) new_paths rejected_at found
    pool_with before rejected_at new_paths found pool verdict = record {
      is_dual = pool.is_dual;
      picks_nothing = pool.picks_nothing;
      of_shape = exchange_goes_on (IsOfShape dual.shape) fed event pool.of_shape of_shape;
      collects = collects_more dual fed event inbox pool.collects;
      verdict = verdict;
    }

    -- A pool that rejected keeps its verdict.
    pub stays_rejected : (rejected_at : Option ℕ) → is_some rejected_at ≡ true → IsPool dual fed inbox paths rejected_at hs
        → IsPool dual with_event (with_sent inbox event) paths rejected_at hs
    stays_rejected None rejected pool = absurd (cc)
    stays_rejected (Some at) rejected pool = pool_with (Some at) (Some at) paths hs pool (rejected_goes_on dual.spec fed (event ∷ []) at pool.verdict)

    -- A pool goes on with the hypotheses of the event, and rejects it where there is none.
    pub goes_on : (rejected_at : Option ℕ) (new_paths : List (List Mark)) (found : List Hypothesis) → is_some rejected_at ≡ false → IsPool dual fed inbox paths rejected_at hs
        → StandForAll dual with_event new_paths found → IsPool dual with_event (with_sent inbox event) new_paths (rejection_of (length fed + 1) found) found
    goes_on (Some at) new_paths found opens pool stand = absurd (cc)
    goes_on None new_paths found opens pool stand = pool_with None (rejection_of (length fed + 1) found) new_paths found pool (by_found found stand)
      where
        by_found : (left : List Hypothesis) → StandForAll dual with_event new_paths left
            → MatchOption (rejection_of (length fed + 1) left) (StandForAll dual with_event new_paths left × (0 < length left)) (λ at. IsRejectedAt dual.spec with_event at)
        by_found [] known = rejected_now dual.spec fed event (some_explains dual fed paths hs pool.verdict.0 pool.verdict.1) (none_explains dual with_event new_paths known)
        by_found (h ∷ left) known = (known, omega arith)

  -- Where a client sends, the hypotheses wait.
  pub waits : (conn : ℕ) (message : List ℕ) (rejected_at : Option ℕ) → IsOfShape dual.shape (clients.Sends conn message) → is_some rejected_at ≡ false
      → IsPool dual fed inbox paths rejected_at hs
      → IsPool dual (fed ++ clients.Sends conn message ∷ []) (with_sent inbox (clients.Sends conn message)) paths rejected_at hs
  waits conn message (Some at) of_shape opens pool = absurd (cc)
  waits conn message None of_shape opens pool =
      pool_with (clients.Sends conn message) of_shape None None paths hs pool (after_send dual pool.is_dual fed conn message paths hs pool.verdict.0, pool.verdict.1)

  -- Garbled bytes are rejected.
  pub rejects_garbles : (conn : ℕ) (rejected_at : Option ℕ) → IsOfShape dual.shape (clients.Garbles conn) → is_some rejected_at ≡ false
      → IsPool dual fed inbox paths rejected_at hs
      → IsPool dual (fed ++ clients.Garbles conn ∷ []) (with_sent inbox (clients.Garbles conn)) paths (Some (length fed + 1)) hs
  rejects_garbles conn (Some at) of_shape opens pool = absurd (cc)
  rejects_garbles conn None of_shape opens pool =
      pool_with (clients.Garbles conn) of_shape None (Some (length fed + 1)) paths hs pool
      (rejected_now dual.spec fed (clients.Garbles conn) (some_explains dual fed paths hs pool.verdict.0 pool.verdict.1) (garbles_unexplained dual.spec fed conn))

  -- While a pool is open, its hypotheses stand for all, there is one, and the events are explained.
  pub open_stands : (rejected_at : Option ℕ) → is_some rejected_at ≡ false → IsPool dual fed inbox paths rejected_at hs → StandForAll dual fed paths hs × (0 < length hs)
  open_stands None opens pool = pool.verdict
  open_stands (Some at) opens pool = absurd (cc)

  pub open_explains : IsPool dual fed inbox paths None hs → IsExplained dual.spec fed
  open_explains pool = some_explains dual fed paths hs pool.verdict.0 pool.verdict.1

  -- After a rejection nothing explains the events.
  pub rejected_unexplained : (rejected_at : Option ℕ) → is_some rejected_at ≡ true → IsPool dual fed inbox paths rejected_at hs → ¬ IsExplained dual.spec fed
  rejected_unexplained None rejected pool = absurd (cc)
  rejected_unexplained (Some at) rejected pool = rejected_not_explained dual.spec fed at pool.verdict

  -- While a pool is open, its hypotheses are as many short skeletons, alike ones counted once.
  pub counts : IsDual dual → StandForAll dual fed paths hs → CountsUnalike dual.spec fed (length hs)
  counts is_dual stand = record {
    skeletons = skeletons_in paths hs;
    many = length-map hs (skeleton_in paths);
    each = stand.kept;
    none_alike = AllPairs-map (skeleton_in paths) (λ skeleton other. ¬ AreAlike dual.spec fed skeleton other) hs
        (AllPairs-weaker (Stands dual fed paths) (λ h other. ¬ IsAlike h other) (λ h other. ¬ AreAlike dual.spec fed (skeleton_in paths h) (skeleton_in paths other)) hs
        (λ h other stands other_stands apart alike.
        apart (alike_skeletons dual is_dual fed h other (skeleton_in paths h) (skeleton_in paths other) stands.stands other_stands.stands alike)) stand.each stand.apart);
    all = λ skeleton kept. Any-weaker (λ other. StandsIn dual.spec fed other skeleton) (λ other. AreAlike dual.spec fed other skeleton) (skeletons_in paths hs)
        (λ other stands_in. stands_in.alike) (stand.all skeleton kept);
  }

-- Where nothing explains the events there is none.
pub counts_none : (spec : Spec) (fed : List ClientEvent) → ¬ IsExplained spec fed → CountsUnalike spec fed 0
counts_none spec fed unexplained = record {
  skeletons = [];
  many = refl;
  each = All-nil (IsKeptSkeleton spec fed);
  none_alike = AllPairs-none (λ skeleton other. ¬ AreAlike spec fed skeleton other);
  all = λ skeleton kept. absurd (unexplained (kept_is_explanation spec fed skeleton kept));
}

-- The first of all has the least skeleton, which is the path of its step.
module _ (dual : DualFields) (fed : List ClientEvent) (paths : List (List Mark)) where
  at_first_step : (h : Hypothesis) → h.mark ≡ None → path_at paths h.step ≡ skeleton_in paths h
  at_first_step h none = sym (append-nil (path_at paths h.step)) ∙ ap (λ mark. path_at paths h.step ++ option_to_list mark) (sym none)

  least_of_first : (h : Hypothesis) (hs : List Hypothesis) → StandForAll dual fed paths (h ∷ hs) → IsLeastSkeleton dual.spec fed (skeleton_in paths h)
  least_of_first h hs stand = record {
    kept = All-head (IsKeptSkeleton dual.spec fed) (skeleton_in paths h) (skeletons_in paths hs) stand.kept;
    least = λ other kept. by_place other (stand.all other kept);
  }
    where
      first : List Mark
      first = skeleton_in paths h

      turned : (other : List Mark) → (first ≡ other) ⊎ Precedes first other → (other ≡ first) ⊎ Precedes first other
      turned other (inl same) = inl (sym same)
      turned other (inr precedes) = inr precedes

      behind : (other : List Mark) → (between : List Mark) → Precedes first between → (between ≡ other) ⊎ Precedes between other → (other ≡ first) ⊎ Precedes first other
      behind other between before (inl same) = inr (subst (Precedes first) same before)
      behind other between before (inr precedes) = inr (precedes_joined first between other before precedes)

      by_place : (other : List Mark) → Any (λ skeleton. StandsIn dual.spec fed skeleton other) (skeletons_in paths (h ∷ hs)) → (other ≡ first) ⊎ Precedes first other
      by_place other some =
          ⊎_elim (λ here. turned other here.order)
          (λ (place, between, within, at, stands_in).
          behind other between (subst (Precedes first) at (AllPairs-head Precedes first (skeletons_in paths hs) stand.ordered place between within)) stands_in.order)
          (Any-cases (λ skeleton. StandsIn dual.spec fed skeleton other) first (skeletons_in paths hs) some)

  pub first_is_least : (hs : List Hypothesis) (h : Hypothesis) → StandForAll dual fed paths hs → 0 < length hs → h ≡ slice_index_or hs 0 h
      → IsLeastSkeleton dual.spec fed (path_at paths h.step)
  first_is_least [] h stand some first = absurd (omega (arith, some))
  first_is_least (g ∷ hs) h stand some first =
      let same : path_at paths h.step ≡ skeleton_in paths g
      = ap (λ (h : Hypothesis). path_at paths h.step) first ∙ at_first_step g (All-head (λ (h : Hypothesis). h.mark ≡ None) g hs stand.noted) in
      rw same (least_of_first g hs stand)

  pub first_within : (hs : List Hypothesis) (h : Hypothesis) → StandForAll dual fed paths hs → 0 < length hs → h ≡ slice_index_or hs 0 h → h.step < length paths
  first_within [] h stand some first = absurd (omega (arith, some))
  first_within (g ∷ hs) h stand some first =
      let stands = All-head (Stands dual fed paths) g hs stand.each in subst (λ (h : Hypothesis). h.step < length paths) (sym first) stands.within
