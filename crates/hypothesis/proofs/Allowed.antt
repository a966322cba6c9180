-- What is listed of the events that may come next.
use Rattle.std.proofs.Common.{◌≡◌, ℕ, ◌+◌, ◌<◌, ◌≤◌, ◌⊎◌, inl, inr, true, false, List, [], ◌∷◌, ◌++◌, Option, Some, None, Result, Ok, Err, IfOk, option_map, refl, arith, append-nil}
use Rattle.std.proofs.lemmas.Bool.{cases_lt}
use Rattle.std.proofs.lemmas.List.Elements.{All-cons, All-nil, All-push, All-weaker, Contains-append_left, Contains-push}
use Rattle.std.proofs.lemmas.List.Kept.{AllPairs-cons}
use Rattle.std.proofs.lemmas.List.Quantifiers.{all_pairs_push}
use Rattle.std.specs.List.{All, AllPairs, Contains}
use Rattle.std.specs.Option.{option_to_list}
use Rattle.spec_model.specs.declared.event.Mark.{Mark}
use Rattle.spec_model.specs.declared.event.Mark.TheVariants as marks
use Rattle.spec_model.specs.declared.event.ServerEvent.{ServerEvent}
use Rattle.spec_model.specs.declared.event.ServerEvent.TheVariants as servers
use Rattle.spec_model.specs.Skeleton.{ComesBefore, mark_of}
use Rattle.dual_step.specs.declared.next.Next.TheVariants.{Compare, Offer, Split}
use Rattle.dual_step.specs.Next.{Allows}
use Rattle.hypothesis.specs.Possible.{AreAllowed, IsEarlier, IsNumbered, IsListable, next_sent}

-- what holds of a value holds of what it leads to
pub ok_leads : {A E : Type 0} {P Q : A → Type 0} (result : Result A E) → IfOk result P → ((value : A) → P value → Q value) → IfOk result Q
ok_leads (Ok value) holds leads = leads value holds
ok_leads (Err error) holds leads = tt

-- an event of an earlier mark
abbrev pub IsBefore : Mark → ServerEvent → Type 0
IsBefore mark event = ComesBefore (mark_of event) mark

below_or_at : (k n : ℕ) → k < n + 1 → (k < n) ⊎ (n ≡ k)
below_or_at k n below = by_case (cases_lt k n)
  where
    by_case : (k < n) ⊎ (n ≤ k) → (k < n) ⊎ (n ≡ k)
    by_case (inl less) = inl less
    by_case (inr past) = inr (omega arith)

module _ (inbox : List (List (List ℕ))) (taken : List ℕ) where
  -- The takes from the connections below this one are listed.
  pub record TakesListed (conn : ℕ) (events : List ServerEvent) : Type 0 where
    pub allowed : AreAllowed (Offer None) conn inbox taken events
    pub before : All (IsBefore (marks.Take conn)) events

  take_before_more : (conn : ℕ) (event : ServerEvent) → IsBefore (marks.Take conn) event → IsBefore (marks.Take (conn + 1)) event
  take_before_more conn (servers.Take k message) before = omega arith
  take_before_more conn (servers.Arm arm) before = absurd before
  take_before_more conn (servers.Test true) before = absurd before
  take_before_more conn (servers.Test false) before = absurd before
  take_before_more conn (servers.Pick text) before = absurd before
  take_before_more conn (servers.Send k message) before = absurd before

  take_listed : (events : List ServerEvent) (conn : ℕ) (message : List ℕ) → next_sent inbox taken conn ≡ Some message
      → Contains (events ++ option_to_list (option_map (servers.Take conn) (next_sent inbox taken conn))) (servers.Take conn message)
  take_listed events conn message is = rw is (Contains-push events (servers.Take conn message))

  all_takes : (conn : ℕ) (events : List ServerEvent) → AreAllowed (Offer None) conn inbox taken events
      → (event : ServerEvent) → IsNumbered (conn + 1) event → IsListable inbox taken event → Allows (Offer None) event
      → Contains (events ++ option_to_list (option_map (servers.Take conn) (next_sent inbox taken conn))) event
  all_takes conn events known (servers.Take k message) below listable allows = by_case (below_or_at k conn below)
    where
      by_case : (k < conn) ⊎ (conn ≡ k) → Contains (events ++ option_to_list (option_map (servers.Take conn) (next_sent inbox taken conn))) (servers.Take k message)
      by_case (inl less) = Contains-append_left events _ (servers.Take k message) (known.all (servers.Take k message) less listable allows)
      by_case (inr same) = rw (← same) (take_listed events conn message (rw same listable))
  all_takes conn events known (servers.Arm arm) below listable allows = absurd allows
  all_takes conn events known (servers.Test outcome) below listable allows = absurd allows
  all_takes conn events known (servers.Pick text) below listable allows = absurd allows
  all_takes conn events known (servers.Send k message) below listable allows = absurd allows

  listable_more : (conn : ℕ) (events : List ServerEvent) (next : Option (List ℕ)) → next_sent inbox taken conn ≡ next → All (IsListable inbox taken) events
      → All (IsListable inbox taken) (events ++ option_to_list (option_map (servers.Take conn) next))
  listable_more conn events None is each = rw (append-nil events) each
  listable_more conn events (Some message) is each = All-push (IsListable inbox taken) events (servers.Take conn message) each is

  ordered_more : (conn : ℕ) (events : List ServerEvent) (next : Option (List ℕ)) → All (IsBefore (marks.Take conn)) events → AllPairs IsEarlier events
      → AllPairs IsEarlier (events ++ option_to_list (option_map (servers.Take conn) next))
  ordered_more conn events None before ordered = rw (append-nil events) ordered
  ordered_more conn events (Some message) before ordered = all_pairs_push IsEarlier events (servers.Take conn message) ordered before

  before_more : (conn : ℕ) (events : List ServerEvent) (next : Option (List ℕ)) → All (IsBefore (marks.Take conn)) events
      → All (IsBefore (marks.Take (conn + 1))) (events ++ option_to_list (option_map (servers.Take conn) next))
  before_more conn events None before =
      rw (append-nil events) (All-weaker (IsBefore (marks.Take conn)) (IsBefore (marks.Take (conn + 1))) (take_before_more conn) events before)
  before_more conn events (Some message) before =
      All-push (IsBefore (marks.Take (conn + 1))) events (servers.Take conn message)
      (All-weaker (IsBefore (marks.Take conn)) (IsBefore (marks.Take (conn + 1))) (take_before_more conn) events before) (omega arith)

  -- the take from one connection more
  pub takes_more : (conn : ℕ) (events : List ServerEvent) → TakesListed conn events
      → TakesListed (conn + 1) (events ++ option_to_list (option_map (servers.Take conn) (next_sent inbox taken conn)))
  takes_more conn events known = record {
    allowed = record {
      listable = listable_more conn events (next_sent inbox taken conn) refl known.allowed.listable;
      all = all_takes conn events known.allowed;
      ordered = ordered_more conn events (next_sent inbox taken conn) known.before known.allowed.ordered;
    };
    before = before_more conn events (next_sent inbox taken conn) known.before;
  }

-- The arms of the numbers below this one are listed.
pub record ArmsListed (arm : ℕ) (events : List ServerEvent) : Type 0 where
  pub all : (k : ℕ) → k < arm → Contains events (servers.Arm k)
  pub before : All (IsBefore (marks.Arm arm)) events
  pub ordered : AllPairs IsEarlier events

arm_before_more : (arm : ℕ) (event : ServerEvent) → IsBefore (marks.Arm arm) event → IsBefore (marks.Arm (arm + 1)) event
arm_before_more arm (servers.Arm k) before = omega arith
arm_before_more arm (servers.Take conn message) before = absurd before
arm_before_more arm (servers.Test true) before = absurd before
arm_before_more arm (servers.Test false) before = absurd before
arm_before_more arm (servers.Pick text) before = absurd before
arm_before_more arm (servers.Send conn message) before = absurd before

-- one arm more
pub arms_more : (arm : ℕ) (events : List ServerEvent) → ArmsListed arm events → ArmsListed (arm + 1) (events ++ servers.Arm arm ∷ [])
arms_more arm events known = record {
  all = λ k below. by_case k (below_or_at k arm below);
  before =
      All-push (IsBefore (marks.Arm (arm + 1))) events (servers.Arm arm)
      (All-weaker (IsBefore (marks.Arm arm)) (IsBefore (marks.Arm (arm + 1))) (arm_before_more arm) events known.before) (omega arith);
  ordered = all_pairs_push IsEarlier events (servers.Arm arm) known.ordered known.before;
}
  where
    by_case : (k : ℕ) → (k < arm) ⊎ (arm ≡ k) → Contains (events ++ servers.Arm arm ∷ []) (servers.Arm k)
    by_case k (inl less) = Contains-append_left events _ (servers.Arm k) (known.all k less)
    by_case k (inr same) = rw (← same) (Contains-push events (servers.Arm arm))

arm_listable : (inbox : List (List (List ℕ))) (taken : List ℕ) (arm : ℕ) (event : ServerEvent) → IsBefore (marks.Arm arm) event → IsListable inbox taken event
arm_listable inbox taken arm (servers.Arm k) before = tt
arm_listable inbox taken arm (servers.Take conn message) before = absurd before
arm_listable inbox taken arm (servers.Test true) before = absurd before
arm_listable inbox taken arm (servers.Test false) before = absurd before
arm_listable inbox taken arm (servers.Pick text) before = absurd before
arm_listable inbox taken arm (servers.Send conn message) before = absurd before

-- all arms are listed, but those of greater numbers than are given
pub arms_allowed : (count last : ℕ) (events : List ServerEvent) → ((k : ℕ) → k < count → k < 65535 → k < last) → ArmsListed last events
    → (conns : ℕ) (inbox : List (List (List ℕ))) (taken : List ℕ) → AreAllowed (Split count) conns inbox taken events
arms_allowed count last events reaches known conns inbox taken = record {
  listable = All-weaker (IsBefore (marks.Arm last)) (IsListable inbox taken) (arm_listable inbox taken last) events known.before;
  all = all;
  ordered = known.ordered;
}
  where
    all : (event : ServerEvent) → IsNumbered conns event → IsListable inbox taken event → Allows (Split count) event → Contains events event
    all (servers.Arm k) small listable below = known.all k (reaches k below small)
    all (servers.Take conn message) below listable allows = absurd allows
    all (servers.Test outcome) below listable allows = absurd allows
    all (servers.Pick text) below listable allows = absurd allows
    all (servers.Send conn message) below listable allows = absurd allows

-- Both outcomes of a test are listed.
pub tests_allowed : (conns : ℕ) (inbox : List (List (List ℕ))) (taken : List ℕ) → AreAllowed Compare conns inbox taken (servers.Test true ∷ servers.Test false ∷ [])
tests_allowed conns inbox taken = record { listable = listable; all = all; ordered = ordered }
  where
    one_listable : All (IsListable inbox taken) (servers.Test false ∷ [])
    one_listable = All-cons (IsListable inbox taken) (servers.Test false) [] tt (All-nil (IsListable inbox taken))

    listable : All (IsListable inbox taken) (servers.Test true ∷ servers.Test false ∷ [])
    listable = All-cons (IsListable inbox taken) (servers.Test true) (servers.Test false ∷ []) tt one_listable

    all : (event : ServerEvent) → IsNumbered conns event → IsListable inbox taken event → Allows Compare event
        → Contains (servers.Test true ∷ servers.Test false ∷ []) event
    all (servers.Test true) small listable allows = (0, omega arith, refl)
    all (servers.Test false) small listable allows = (1, omega arith, refl)
    all (servers.Take conn message) small listable allows = absurd allows
    all (servers.Arm arm) small listable allows = absurd allows
    all (servers.Pick text) small listable allows = absurd allows
    all (servers.Send conn message) small listable allows = absurd allows

    first : All (IsEarlier (servers.Test true)) (servers.Test false ∷ [])
    first = All-cons (IsEarlier (servers.Test true)) (servers.Test false) [] tt (All-nil (IsEarlier (servers.Test true)))

    ordered : AllPairs IsEarlier (servers.Test true ∷ servers.Test false ∷ [])
    ordered = AllPairs-cons IsEarlier (servers.Test true) (servers.Test false ∷ []) first (λ i j d before within. absurd (omega (arith, within)))
