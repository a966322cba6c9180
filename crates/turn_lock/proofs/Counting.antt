-- How many seats are out: one count over the list of all seats, through each step that changes it.
use Rattle.std.proofs.Common.{◌≡◌, ◌≢◌, ℕ, ◌≤◌, ◌<◌, List, [], ◌∷◌, ◌++◌, length, get_or, set, refl, sym, ap, ◌∙◌, arith, length-append, None}
use Rattle.std.specs.Prelude.{All, sum_by}
use Rattle.std.proofs.lemmas.List.Sums.{sum_by_push}
use Rattle.std.proofs.lemmas.List.Elements.{All-set, All-push}
use mathlib.Core.Option.{some}
use lib.ListN.{get_elem?}
use Rattle.atomic_table.proofs.Lists.{set_else}
use Rattle.turn_lock.specs.declared.view.View.{View}
use Rattle.turn_lock.specs.declared.view.Role.{Role}
use Rattle.turn_lock.specs.declared.view.Role.TheVariants.{First, Other, Spent}
use Rattle.turn_lock.specs.Views.{if_first, if_other, blank, having_given, having_taken_over}
use Rattle.turn_lock.specs.Rule.{IsBlankIfSpent, GaveIfFirst, IsCounted}
use Rattle.turn_lock.proofs.Sums.{All-at, none-sum_by, sum_by-set_at, sum_by-set_same, at-le-sum_by, sum_by-only}

is_other : (role : Role) → role ≢ First → role ≢ Spent → role ≡ Other
is_other First not-first not-spent = absurd (not-first refl)
is_other Other not-first not-spent = refl
is_other Spent not-first not-spent = absurd (not-spent refl)

is_spent : (role : Role) → if_first role ≡ 0 → if_other role ≡ 0 → role ≡ Spent
is_spent First not-first not-other = absurd (omega arith)
is_spent Other not-first not-other = absurd (omega arith)
is_spent Spent not-first not-other = refl

weighs_none : (role : Role) → if_first role ≡ 0 → role ≢ First
weighs_none First zero-first = absurd (omega arith)
weighs_none Other zero-first = λ is. absurd (cc)
weighs_none Spent zero-first = λ is. absurd (cc)

module _ {E F : Type 0} where
  -- whether a seat is the first, and whether it is out, as weights of the views
  abbrev first : View E F → ℕ
  first v = if_first v.role

  abbrev out : View E F → ℕ
  out v = if_other v.role

  abbrev gave : View E F → ℕ
  gave v = v.gave

  abbrev took : View E F → ℕ
  took v = length v.joined

  -- a seat gave and took over as many as before
  pub counts_stay : (views : List (View E F)) (id : ℕ) (v w : View E F) → get_elem? views id ≡ some v → w.role ≡ v.role → w.gave ≡ v.gave
      → w.joined ≡ v.joined → IsCounted views → IsCounted (set views id w)
  counts_stay views id v w at role same-gave same-joined counted = record {
    one_first = sum_by-set_same first views id v w at (ap if_first role) ∙ counted.one_first;
    only_first = All-set GaveIfFirst views id w
        (λ other. let t = All-at GaveIfFirst views id v at counted.only_first (λ is. other (role ∙ is)) in (same-gave ∙ t.0, same-joined ∙ t.1))
        counted.only_first;
    out = omega (
      arith,
      counted.out,
      sum_by-set_same gave views id v w at same-gave,
      sum_by-set_same out views id v w at (ap if_other role),
      sum_by-set_same took views id v w at (ap length same-joined),
    );
  }

  -- the first seat gives another one: one more given, one more out
  pub counts_split : (views : List (View E F)) (id : ℕ) (v : View E F) → get_elem? views id ≡ some v → v.role ≡ First → IsCounted views
      → IsCounted (set views id (having_given v) ++ blank Other v.fixed ∷ [])
  counts_split views id v at is-first counted =
      let w : View E F = having_given v in
      let new : View E F = blank Other v.fixed in
      let mine : List (View E F) = set views id w in
      record {
        one_first = omega (arith, sum_by_push first mine new, sum_by-set_same first views id v w at refl, counted.one_first);
        only_first = All-push GaveIfFirst mine new (All-set GaveIfFirst views id w (λ other. absurd (other is-first)) counted.only_first) (λ _. (refl, refl));
        out = omega (
          arith,
          counted.out,
          sum_by_push gave mine new,
          sum_by-set_at gave views id v w at,
          sum_by_push out mine new,
          sum_by-set_same out views id v w at refl,
          sum_by_push took mine new,
          sum_by-set_same took views id v w at refl,
        );
      }

  -- beside the first seat no other seat is the first
  not_first : (views : List (View E F)) (id other : ℕ) (v w : View E F) → IsCounted views → get_elem? views id ≡ some v → v.role ≡ First → other ≢ id
      → get_elem? views other ≡ some w → w.role ≢ First
  not_first views id other v w counted at is-first apart there also =
      let spent : View E F = blank Spent None in
      let less = sum_by-set_at first views other w spent there in
      let still : get_elem? (set views other spent) id ≡ some v = set_else views other id spent (λ e. apart (sym e)) ∙ at in
      let part = at-le-sum_by first (set views other spent) id v still in
      absurd (omega (arith, counted.one_first, ap if_first is-first, ap if_first also))

  -- so a seat that is in use beside the first one is out, and gave and took over nothing
  pub is_out : (views : List (View E F)) (id other : ℕ) (v w : View E F) → IsCounted views → get_elem? views id ≡ some v → v.role ≡ First → other ≢ id
      → get_elem? views other ≡ some w → w.role ≢ Spent
      → (w.role ≡ Other) × (w.gave ≡ 0) × (w.joined ≡ [])
  is_out views id other v w counted at is-first apart there alive =
      let behind = not_first views id other v w counted at is-first apart there in
      let plain = All-at GaveIfFirst views other w there counted.only_first behind in
      (is_other w.role behind alive, plain.0, plain.1)

  -- the first seat takes one over: one more taken over, one fewer out
  pub counts_join : (views : List (View E F)) (id other : ℕ) (v w : View E F) → get_elem? views id ≡ some v → v.role ≡ First
      → get_elem? (set views id (having_taken_over v w)) other ≡ some w
      → (w.role ≡ Other) × (w.gave ≡ 0) × (w.joined ≡ []) → IsCounted views
      → IsCounted (set (set views id (having_taken_over v w)) other (blank Spent None))
  counts_join views id other v w at is-first there is-out counted =
      let both : View E F = having_taken_over v w in
      let spent : View E F = blank Spent None in
      let mine : List (View E F) = set views id both in
      record {
        one_first = omega (
          arith,
          counted.one_first,
          sum_by-set_same first views id v both at refl,
          sum_by-set_same first mine other w spent there (sym (ap if_first is-out.0)),
        );
        only_first = All-set GaveIfFirst mine other spent (λ _. (refl, refl)) (All-set GaveIfFirst views id both (λ ne. absurd (ne is-first)) counted.only_first);
        out = omega (
          arith,
          counted.out,
          is-out.1,
          ap if_other is-out.0,
          ap length is-out.2,
          length-append v.joined (w.own ∷ []),
          sum_by-set_same gave views id v both at refl,
          sum_by-set_at gave mine other w spent there,
          sum_by-set_same out views id v both at refl,
          sum_by-set_at out mine other w spent there,
          sum_by-set_at took views id v both at,
          sum_by-set_at took mine other w spent there,
        );
      }

  -- where the first seat took over all that it gave, every other seat is spent
  all_spent : (views : List (View E F)) (id : ℕ) (v : View E F) → IsCounted views → get_elem? views id ≡ some v → v.role ≡ First
      → v.gave ≡ length v.joined → All (λ u. first u ≡ 0 → u.role ≡ Spent) views
  all_spent views id v counted at is-first whole =
      let one : sum_by first views ≤ first v = omega (arith, counted.one_first, ap if_first is-first) in
      let plain = λ (k : ℕ) (d : View E F) (h : k < length views) (zero-first : first (get_or views k d) ≡ 0).
      counted.only_first k d h (weighs_none (get_or views k d).role zero-first) in
      let all-given = sum_by-only first gave views id v at one (λ k d h zero-first. (plain k d h zero-first).0) in
      let all-taken = sum_by-only first took views id v at one (λ k d h zero-first. ap length (plain k d h zero-first).1) in
      let nobody-out = none-sum_by out views (omega (arith, counted.out)) in
      λ k d h zero-first. is_spent (get_or views k d).role zero-first (nobody-out k d h)

  -- what spent seats add nothing to is then the first seat's alone
  pub first_alone : (views : List (View E F)) (id : ℕ) (v : View E F) → IsCounted views → All IsBlankIfSpent views → get_elem? views id ≡ some v
      → v.role ≡ First → v.gave ≡ length v.joined
      → (weigh : View E F → ℕ) → weigh (blank Spent None) ≡ 0 → sum_by weigh views ≡ weigh v
  first_alone views id v counted blanks at is-first whole weigh nothing =
      let gone = all_spent views id v counted at is-first whole in
      sum_by-only first weigh views id v at (omega (arith, counted.one_first, ap if_first is-first))
      (λ k d h zero-first. ap weigh (blanks k d h (gone k d h zero-first)) ∙ nothing)
