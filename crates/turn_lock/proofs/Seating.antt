-- Opening the lock, giving and taking over seats, and closing it keeps the lock's rule.
use Rattle.std.proofs.Common.{◌≡◌, ◌≢◌, ℕ, ◌+◌, ◌*◌, List, [], ◌∷◌, ◌++◌, length, set, refl, sym, ap, ◌∙◌, subst, arith, Some, None, Option}
use Rattle.std.specs.Prelude.{All}
use Rattle.std.proofs.lemmas.List.Sums.{sum_by_push}
use Rattle.std.proofs.lemmas.List.Elements.{All-nil, All-cons, All-set, All-push}
use mathlib.Core.Option.{some}
use lib.ListN.{get_elem?}
use Rattle.atomic_table.specs.Table.{State, opening, Splits, Joins, Final, Seen}
use Rattle.atomic_table.proofs.Lists.{set_else}
use Rattle.turn_lock.specs.declared.view.View.{View}
use Rattle.turn_lock.specs.declared.view.Role.TheVariants.{First, Other, Spent}
use Rattle.turn_lock.specs.Places.{BeginsWith, IsSpelledBy}
use Rattle.turn_lock.specs.Views.{if_holder, lists_of, holders, blank, having_given, having_taken_over}
use Rattle.turn_lock.specs.Rule.{HasPlaces, HasFound, HasSeen, Knows, IsBlankIfSpent, GaveIfFirst, StandsFor, Rule}
use Rattle.turn_lock.proofs.Sums.{All-at}
use Rattle.turn_lock.proofs.Spelling.{begins_empty}
use Rattle.turn_lock.proofs.Counting.{counts_split, is_out, counts_join, first_alone}
use Rattle.turn_lock.proofs.Sharing.{weight, shared_first, shared_split, shared_join}
use Rattle.turn_lock.proofs.Turns.{holders-set}

module _ {V E F : Type 0} (entries : V → List E) (fixed : V → F) (part : F) where
  abbrev St : Type 0
  St = State (Option V) (View E F)

  abbrev Holds : St → Type 0
  Holds = Rule entries fixed part

  -- the table at the start: no entry, and one seat
  pub opens : (value : V) → StandsFor entries fixed [] part value → Holds (opening (0 ∷ []) (Some value ∷ []) (blank First (Some part)))
  opens value stands =
      let v : View E F = blank First (Some part) in
      let one : (P : View E F → Type 0) → P v → All P (v ∷ []) = λ P p. All-cons P v [] p (All-nil P) in
      record {
        history = [];
        shared = shared_first v refl refl;
        turn = record { word = refl; one_holder = omega arith };
        value = record { home = λ _. (value, refl, stands); found = one (HasFound []) (λ list e. absurd (cc)) };
        seen = one (HasSeen []) (begins_empty [], begins_empty []);
        spent = one IsBlankIfSpent (λ is. absurd (cc));
        counted = record { one_first = refl; only_first = one GaveIfFirst (λ _. (refl, refl)); out = refl };
        told = one (Knows part) (λ _. refl);
      }

  -- the first seat counts one more given, and the new seat has nothing
  pub splits : (id : ℕ) (v : View E F) → v.role ≡ First → Splits Holds id v (having_given v) (blank Other v.fixed)
  splits id v first s r at =
      let w : View E F = having_given v in
      let new : View E F = blank Other v.fixed in
      let views : List (View E F) = set s.views id w in
      let count = holders-set s.views id v w at in
      let stay : holders (views ++ new ∷ []) ≡ holders s.views = omega (arith, sum_by_push (λ (u : View E F). if_holder u.found) views new) in
      let found = All-set (HasFound r.history) s.views id w (All-at (HasFound r.history) s.views id v at r.value.found) r.value.found in
      let seen = All-set (HasSeen r.history) s.views id w (All-at (HasSeen r.history) s.views id v at r.seen) r.seen in
      let known = All-at (Knows part) s.views id v at r.told in
      record {
        history = r.history;
        shared = shared_split r.history s.views id v Other at r.shared;
        turn = record { word = r.turn.word ∙ ap (λ (n : ℕ). (2 * length r.history + n) ∷ []) (sym stay); one_holder = omega (arith, r.turn.one_holder) };
        value = record { home = λ none-holds. r.value.home (omega arith); found = All-push (HasFound r.history) views new found (λ list e. absurd (cc)) };
        seen = All-push (HasSeen r.history) views new seen (begins_empty r.history, begins_empty r.history);
        spent = All-push IsBlankIfSpent views new (All-set IsBlankIfSpent s.views id w (λ is. absurd (cc)) r.spent) (λ is. absurd (cc));
        counted = counts_split s.views id v at first r.counted;
        told = All-push (Knows part) views new (All-set (Knows part) s.views id w known r.told) (λ _. known (λ is. absurd (cc)));
      }

  -- the first seat takes over the other's entries, and the other is spent
  pub joins : (id : ℕ) (v : View E F) (other : ℕ) (w : View E F) → v.role ≡ First → w.role ≢ Spent → w.found ≡ None
      → Joins Holds id v other w (having_taken_over v w) (blank Spent None)
  joins id v other w first alive idle s r at apart there' =
      let both : View E F = having_taken_over v w in
      let spent : View E F = blank Spent None in
      let mine : List (View E F) = set s.views id both in
      let views : List (View E F) = set mine other spent in
      let there : get_elem? s.views other ≡ some w = sym (set_else s.views id other both apart) ∙ there' in
      let out = is_out s.views id other v w r.counted at first apart there alive in
      let idle-holder : if_holder w.found ≡ 0 = ap if_holder idle in
      let stay : holders views ≡ holders s.views = omega (arith, holders-set s.views id v both at, holders-set mine other w spent there') in
      let found = All-set (HasFound r.history) s.views id both (All-at (HasFound r.history) s.views id v at r.value.found) r.value.found in
      let front = (All-at (HasSeen r.history) s.views id v at r.seen).0 in
      let met = (All-at (HasSeen r.history) s.views other w there r.seen).0 in
      record {
        history = r.history;
        shared = shared_join r.history s.views id other v w at there there' out.2 r.shared;
        turn = record { word = r.turn.word ∙ ap (λ (n : ℕ). (2 * length r.history + n) ∷ []) (sym stay); one_holder = omega (arith, r.turn.one_holder) };
        value = record { home = λ none-holds. r.value.home (omega arith); found = All-set (HasFound r.history) mine other spent (λ list e. absurd (cc)) found };
        seen = All-set (HasSeen r.history) mine other spent (begins_empty r.history, begins_empty r.history) (All-set (HasSeen r.history) s.views id both (front, met) r.seen);
        spent = All-set IsBlankIfSpent mine other spent (λ _. refl) (All-set IsBlankIfSpent s.views id both (λ is. absurd (cc)) r.spent);
        counted = counts_join s.views id other v w at first there' out r.counted;
        told = All-set (Knows part) mine other spent (λ ne. absurd (ne refl)) (All-set (Knows part) s.views id both (All-at (Knows part) s.views id v at r.told) r.told);
      }

  -- the table ends with no seat but the first, so no seat holds the turn, and the history is spelled by that seat's lists alone
  pub closes : (id : ℕ) (v : View E F) (words : List ℕ) (slots : List (Option V)) → v.role ≡ First → v.found ≡ None → v.gave ≡ length v.joined
      → Final (Seen Holds id v) words slots
      → (value : V) × (get_elem? slots 0 ≡ some (Some value)) × (fixed value ≡ part) × BeginsWith (entries value) v.front × IsSpelledBy (entries value) (lists_of v)
  closes id v words slots first idle whole end =
      let s = end.0 in
      let r = end.1.0 in
      let at = end.1.1 in
      let alone = first_alone s.views id v r.counted r.spent at first whole in
      let home = r.value.home (alone (λ (u : View E F). if_holder u.found) refl ∙ ap if_holder idle) in
      let same : entries home.0 ≡ r.history = home.2.0 in
      let spelled : IsSpelledBy r.history (lists_of v) = record {
        kept = All-at (HasPlaces r.history) s.views id v at r.shared.kept;
        no_strangers = λ k h. sym (alone (weight (k + 1)) refl) ∙ r.shared.once k h;
      } in (
        home.0,
        end.4 0 (Some home.0) home.1,
        home.2.1,
        subst (λ (l : List E). BeginsWith l v.front) (sym same) (All-at (HasSeen r.history) s.views id v at r.seen).0,
        subst (λ (l : List E). IsSpelledBy l (lists_of v)) (sym same) spelled,
      )
