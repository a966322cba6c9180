-- How the seats share the places of the history, through each step that changes it.
use Rattle.std.proofs.Common.{◌≡◌, ℕ, ◌+◌, ◌<◌, ◌≤◌, eqb, cond, List, [], ◌∷◌, ◌++◌, length, set, refl, sym, ap, ◌∙◌, subst, arith, length-append, add-zero, eq-eqb, ne_eqb, ⊎_elim, None}
use Rattle.std.specs.Prelude.{All, sum_by}
use Rattle.std.proofs.lemmas.Bool.{cases_lt}
use Rattle.std.proofs.lemmas.List.Sums.{sum_by-cons, sum_by_push}
use Rattle.std.proofs.lemmas.List.Elements.{All-nil, All-cons, All-head, All-tail, All-set, All-push, All-weaker}
use mathlib.Core.Option.{some}
use lib.ListN.{get_elem?}
use Rattle.turn_lock.specs.declared.view.Placed.{Placed}
use Rattle.turn_lock.specs.declared.view.View.{View}
use Rattle.turn_lock.specs.declared.view.Role.{Role}
use Rattle.turn_lock.specs.declared.view.Role.TheVariants.{Spent}
use Rattle.turn_lock.specs.Places.{IsKeptIn, times, times_in_all}
use Rattle.turn_lock.specs.Views.{placed, lists_of, blank, having_added, having_given, having_taken_over}
use Rattle.turn_lock.specs.Rule.{HasPlaces, IsShared}
use Rattle.turn_lock.proofs.Sums.{All-at, sum_by-set_at, sum_by-set_same, sum_by-none}
use Rattle.turn_lock.proofs.Spelling.{kept_nothing, IsKeptIn-append, IsKeptIn-push, times-past, times-push}

module _ {E F : Type 0} where
  -- how often a place occurs among a seat's lists
  abbrev pub weight : ℕ → View E F → ℕ
  weight place v = times_in_all place (lists_of v)

  -- the table at the start
  pub shared_first : (v : View E F) → v.own ≡ [] → v.joined ≡ [] → IsShared [] (v ∷ [])
  shared_first v own joined = record {
    once = λ k h. absurd (omega arith);
    kept = All-cons (HasPlaces []) v [] (subst (All (IsKeptIn [])) (λ i. sym own i ∷ sym joined i) (kept_nothing [])) (All-nil (HasPlaces []));
  }

  -- a seat keeps its lists
  pub shared_stays : (history : List E) (views : List (View E F)) (id : ℕ) (v w : View E F) → get_elem? views id ≡ some v → w.own ≡ v.own
      → w.joined ≡ v.joined → IsShared history views → IsShared history (set views id w)
  shared_stays history views id v w at own joined shared =
      let lists : lists_of w ≡ lists_of v = λ i. own i ∷ joined i in
      record {
        once = λ k h. sum_by-set_same (weight (k + 1)) views id v w at (ap (times_in_all (k + 1)) lists) ∙ shared.once k h;
        kept = All-set (HasPlaces history) views id w (subst (All (IsKeptIn history)) (sym lists) (All-at (HasPlaces history) views id v at shared.kept)) shared.kept;
      }

  -- the first seat gives another one, which has no entries
  pub shared_split : (history : List E) (views : List (View E F)) (id : ℕ) (v : View E F) (role : Role) → get_elem? views id ≡ some v
      → IsShared history views → IsShared history (set views id (having_given v) ++ blank role v.fixed ∷ [])
  shared_split history views id v role at shared =
      let w : View E F = having_given v in
      let new : View E F = blank role v.fixed in
      let stays = shared_stays history views id v w at refl refl shared in
      record {
        once = λ k h. omega (arith, sum_by_push (weight (k + 1)) (set views id w) new, stays.once k h);
        kept = All-push (HasPlaces history) (set views id w) new stays.kept (kept_nothing history);
      }

  -- a seat that took none over has its own entries alone
  own_alone : (w : View E F) → w.joined ≡ [] → (place : ℕ) → weight place w ≡ times place w.own
  own_alone w no-lists place =
      let none = ap (λ (l : List (List (Placed E))). times place w.own + times_in_all place l) no-lists in
      sum_by-cons (times place) w.own w.joined ∙ (none ∙ add-zero (times place w.own))

  -- the first seat takes over the entries of another one, which had no lists but its own
  pub shared_join : (history : List E) (views : List (View E F)) (id other : ℕ) (v w : View E F) → get_elem? views id ≡ some v
      → get_elem? views other ≡ some w → get_elem? (set views id (having_taken_over v w)) other ≡ some w → w.joined ≡ []
      → IsShared history views → IsShared history (set (set views id (having_taken_over v w)) other (blank Spent None))
  shared_join history views id other v w at there there' no-lists shared =
      let both : View E F = having_taken_over v w in
      let spent : View E F = blank Spent None in
      let mine : List (View E F) = set views id both in
      let kept-v = All-at (HasPlaces history) views id v at shared.kept in
      let kept-w = All-at (HasPlaces history) views other w there shared.kept in
      let others = All-push (IsKeptIn history) v.joined w.own (All-tail (IsKeptIn history) v.own v.joined kept-v) (All-head (IsKeptIn history) w.own w.joined kept-w) in
      let kept-both = All-cons (IsKeptIn history) v.own both.joined (All-head (IsKeptIn history) v.own v.joined kept-v) others in
      let own-alone : (place : ℕ) → weight place w ≡ times place w.own = own_alone w no-lists in
      record {
        once = λ k h. omega (
          arith,
          own-alone (k + 1),
          sum_by-set_at (weight (k + 1)) views id v both at,
          sum_by-set_at (weight (k + 1)) mine other w spent there',
          sum_by-cons (times (k + 1)) v.own v.joined,
          sum_by-cons (times (k + 1)) v.own both.joined,
          sum_by_push (times (k + 1)) v.joined w.own,
          shared.once k h,
        );
        kept = All-set (HasPlaces history) mine other spent (kept_nothing history) (All-set (HasPlaces history) views id both kept-both shared.kept);
      }

  -- no seat has the place past the end of the history
  weigh-past : (history : List E) (views : List (View E F)) → IsShared history views → sum_by (weight (length history + 1)) views ≡ 0
  weigh-past history views shared =
      let past : ℕ = length history + 1 in
      let nothing : (own : List (Placed E)) → IsKeptIn history own → times past own ≡ 0 = times-past history in
      let nobody : (v : View E F) → HasPlaces history v → weight past v ≡ 0 =
      λ v kept. sum_by-none (times past) (lists_of v) (All-weaker (IsKeptIn history) (λ own. ◌≡◌ {A = ℕ} (times past own) 0) nothing (lists_of v) kept) in
      sum_by-none (weight past) views (All-weaker (HasPlaces history) (λ v. ◌≡◌ {A = ℕ} (weight past v) 0) nobody views shared.kept)

  -- the seat's new entry weighs one at its place, and nothing elsewhere
  weigh-added : (v : View E F) (list : List E) (e : E) (place : ℕ)
      → weight place (having_added v list e) ≡ weight place v + cond (eqb (length list + 1) place) 1 0
  weigh-added v list e place =
      omega (
        arith,
        sum_by-cons (times place) (v.own ++ placed (length list + 1) e ∷ []) v.joined,
        sum_by-cons (times place) v.own v.joined,
        times-push place v.own (placed (length list + 1) e),
      )

  -- with the new entry each place of the longer history is somebody's, once
  once_more : (history : List E) (views : List (View E F)) (id : ℕ) (v : View E F) (e : E) → get_elem? views id ≡ some v → IsShared history views
      → (k : ℕ) → k < length (history ++ e ∷ []) → sum_by (weight (k + 1)) (set views id (having_added v history e)) ≡ 1
  once_more history views id v e at shared k h =
      let long = length-append history (e ∷ []) in
      let place : ℕ = length history + 1 in
      let moved = sum_by-set_at (weight (k + 1)) views id v (having_added v history e) at in
      let gained = weigh-added v history e (k + 1) in
      ⊎_elim
      (λ (below : k < length history).
      let old-place : cond (eqb place (k + 1)) 1 0 ≡ 0 = ap (λ b. cond {A = ℕ} b 1 0) (ne_eqb place (k + 1) (λ x. omega arith)) in
      omega (arith, shared.once k below))
      (λ (last : length history ≤ k).
      let new-place : cond (eqb place (k + 1)) 1 0 ≡ 1 = ap (λ b. cond {A = ℕ} b 1 0) (eq-eqb place (k + 1) (omega arith)) in
      let is : k + 1 ≡ place = omega arith in
      let nobody : sum_by (weight (k + 1)) views ≡ 0 = ap (λ (n : ℕ). sum_by (weight n) views) is ∙ weigh-past history views shared in
      omega arith)
      (cases_lt k (length history))

  -- a seat adds an entry at the end of the history
  pub shared_grows : (history : List E) (views : List (View E F)) (id : ℕ) (v : View E F) (e : E) → get_elem? views id ≡ some v
      → IsShared history views → IsShared (history ++ e ∷ []) (set views id (having_added v history e))
  shared_grows history views id v e at shared =
      let longer : List E = history ++ e ∷ [] in
      let w : View E F = having_added v history e in
      let grow : (own : List (Placed E)) → IsKeptIn history own → IsKeptIn longer own = λ own k. IsKeptIn-append history (e ∷ []) own k in
      let kept = All-at (HasPlaces history) views id v at shared.kept in
      let own-kept = IsKeptIn-push history v.own e (All-head (IsKeptIn history) v.own v.joined kept) in
      let others-kept = All-weaker (IsKeptIn history) (IsKeptIn longer) grow v.joined (All-tail (IsKeptIn history) v.own v.joined kept) in
      record {
        once = once_more history views id v e at shared;
        kept = All-set (HasPlaces longer) views id w (All-cons (IsKeptIn longer) w.own v.joined own-kept others-kept)
            (All-weaker (HasPlaces history) (HasPlaces longer) (λ u all. All-weaker (IsKeptIn history) (IsKeptIn longer) grow (lists_of u) all) views shared.kept);
      }
