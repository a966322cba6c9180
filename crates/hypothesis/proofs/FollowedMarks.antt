-- How hypotheses follow the marks of a skeleton.
use Rattle.std.proofs.Common.{◌≡◌, ℕ, ◌+◌, ◌<◌, ◌≤◌, ◌⊎◌, inl, inr, List, [], ◌∷◌, ◌++◌, length, take, slice_get, Option, Some, None, sym, ap, ◌∙◌, subst, append_assoc, arith, length-append}
use Rattle.std.proofs.lemmas.Bool.{cases_lt}
use Rattle.std.proofs.lemmas.List.{take_more}
use Rattle.std.proofs.lemmas.Option.{get_or_from_slice_get, slice_get_within}
use Rattle.std.specs.List.{Any, Contains}
use Rattle.std.specs.Option.{IsSomeAnd, MatchOption}
use Rattle.spec_model.specs.declared.event.ClientEvent.{ClientEvent}
use Rattle.spec_model.specs.declared.event.Mark.{Mark}
use Rattle.spec_model.specs.declared.tree.Spec.{Spec}
use Rattle.spec_model.specs.Alike.{SkeletonExplains}
use Rattle.spec_model.specs.Skeleton.{sends_in}
use Rattle.spec_model.specs.World.{client_receipts}
use Rattle.spec_model.proofs.KeptRuns.{Arranges-receipts}
use Rattle.spec_model.proofs.PassedMessages.{client_receipts-push_same}
use Rattle.spec_model.proofs.Prefix.{length-IsPrefixOf}
use Rattle.spec_model.proofs.Skeletons.{sends_counted}
use Rattle.dual_tree.specs.Dual.{DualFields, IsDual}
use Rattle.hypothesis.specs.declared.hypothesis.Hypothesis.{Hypothesis}
use Rattle.hypothesis.specs.Along.{GoesOnBy, IsMadeBy, ReachesReceipt, SendsBehind}
use Rattle.hypothesis.specs.Expansions.{AreExpansions, GoesOneFurther, HoldsSends}
use Rattle.hypothesis.specs.declared.received.Received.{Received}
use Rattle.hypothesis.specs.declared.received.Received.TheVariants.{Yes, No, Nothing}
use Rattle.hypothesis.specs.Judged.{PicksNothing}
use Rattle.hypothesis.specs.Received.{Tells, with_receipt}
use Rattle.hypothesis.specs.Stands.{StandsFor}
use Rattle.hypothesis.proofs.ReachedReceipts.{part_explains}

-- Of the expansions the one that was made by a mark stands for the skeleton with the mark.
pub expansion_by : (dual : DualFields) (exchange : List ClientEvent) (skeleton : List Mark) (h : Hypothesis) (hs : List Hypothesis) (mark : Mark)
    → AreExpansions dual exchange skeleton h hs → SkeletonExplains dual.spec exchange (skeleton ++ mark ∷ [])
    → (found : Option Hypothesis) → MatchOption found (¬ Any (IsMadeBy mark) hs) (λ made. IsMadeBy mark made × Contains hs made)
    → IsSomeAnd found (StandsFor dual exchange (skeleton ++ mark ∷ []))
expansion_by dual exchange skeleton h hs mark are explains None none = absurd (none (are.all mark explains))
expansion_by dual exchange skeleton h hs mark are explains (Some made) (by, (place, within, at)) =
    let goes : GoesOneFurther dual exchange skeleton h made = subst (GoesOneFurther dual exchange skeleton h) at (are.each place made within) in
    let same : goes.mark ≡ mark = cc in
    subst (λ mark. StandsFor dual exchange (skeleton ++ mark ∷ []) made) same goes.stands

-- A skeleton that explains a receipt sends one message more there than was received before.
sends_received : (spec : Spec) (exchange : List ClientEvent) (conn : ℕ) (message : List ℕ) (skeleton : List Mark)
    → SkeletonExplains spec (with_receipt exchange conn message) skeleton → length (client_receipts conn exchange) < sends_in conn skeleton
sends_received spec exchange conn message skeleton (events, run) =
    let received = length-IsPrefixOf _ _ (Arranges-receipts run.explains.arranged conn) in
    let counted = ap length (client_receipts-push_same conn exchange message) in
    let sent = sym (sends_counted conn events) ∙ ap (sends_in conn) run.has in
    omega (arith, received, counted, sent, length-append (client_receipts conn exchange) (message ∷ []))

-- A skeleton that sends what a client receives next behind so many marks, and of which so few were made.
module _ (spec : Spec) (exchange : List ClientEvent) (conn : ℕ) (message : List ℕ) (skeleton marks : List Mark) (count made : ℕ)
    (sends : SendsBehind spec exchange conn message skeleton marks count) (so_few : made ≤ count) where
  -- The receipt is explained by no fewer marks.
  pub all_are_made : SkeletonExplains spec (with_receipt exchange conn message) (skeleton ++ take made marks) → made ≡ count
  all_are_made explains = by_number (cases_lt made count)
    where
      by_number : (made < count) ⊎ (count ≤ made) → made ≡ count
      by_number (inl fewer) =
          let sent = sends_received spec exchange conn message (skeleton ++ take made marks) explains in
          absurd (omega (arith, sent, sends.before made fewer))
      by_number (inr all) = omega arith

  -- Nothing that was sent fails to explain it.
  pub none_is_refused : length (client_receipts conn exchange) < sends_in conn (skeleton ++ take made marks)
      → ¬ SkeletonExplains spec (with_receipt exchange conn message) (skeleton ++ take made marks) → ⊥
  none_is_refused sent unexplained = by_number (cases_lt made count)
    where
      by_number : (made < count) ⊎ (count ≤ made) → ⊥
      by_number (inl fewer) = absurd (omega (arith, sent, sends.before made fewer))
      by_number (inr all) =
          let same : made ≡ count = omega arith in
          unexplained (subst (λ number. SkeletonExplains spec (with_receipt exchange conn message) (skeleton ++ take number marks)) (sym same) sends.explains)

  -- While nothing is pending, there are more marks up to the send.
  pub more_are_left : sends_in conn (skeleton ++ take made marks) ≡ length (client_receipts conn exchange) → made < count
  more_are_left none_pending = by_number (cases_lt made count)
    where
      by_number : (made < count) ⊎ (count ≤ made) → made < count
      by_number (inl fewer) = fewer
      by_number (inr all) =
          let same : made ≡ count = omega arith in
          let sent = sends_received spec exchange conn message (skeleton ++ take count marks) sends.explains in
          let here = ap (λ number. sends_in conn (skeleton ++ take number marks)) same in
          absurd (omega (arith, sent, here, none_pending))

-- what a receipt tells of a hypothesis, whatever it stands for
abbrev pub WhatTells : ℕ → List ℕ → Hypothesis → Hypothesis → Received → Type 0
WhatTells conn message old new answer =
    (dual : DualFields) (exchange : List ClientEvent) (skeleton : List Mark) → IsDual dual → StandsFor dual exchange skeleton old
    → Tells dual exchange skeleton conn message old new answer

-- On the way to the send no mark behind it is made, and the hypothesis stands for the skeleton with those that were.
abbrev pub IsOnTheWay : DualFields → List (List (List ℕ)) → Hypothesis → List Mark → ℕ → List ℕ → ℕ → Hypothesis → Type 0
IsOnTheWay dual inbox first marks conn message made h =
    (exchange : List ClientEvent) (skeleton : List Mark) (count : ℕ) → PicksNothing dual.spec → HoldsSends exchange dual.shape.conns inbox
    → StandsFor dual exchange skeleton first → SendsBehind dual.spec exchange conn message skeleton marks count
    → (made ≤ count) × StandsFor dual exchange (skeleton ++ take made marks) h

module _ (dual : DualFields) (inbox : List (List (List ℕ))) (first : Hypothesis) (marks : List Mark) (conn : ℕ) (message : List ℕ) (made : ℕ)
    (old new : Hypothesis) (answer : Received) (tells : WhatTells conn message old new answer) (mirrors : IsDual dual)
    (way : IsOnTheWay dual inbox first marks conn message made old) where
  pub is_reached : answer ≡ Yes → ReachesReceipt dual inbox first marks conn message (Some (record { end = new; count = made }))
  is_reached is_yes exchange skeleton count picks_nothing holds stands sends =
      let (so_few, standing) = way exchange skeleton count picks_nothing holds stands sends in
      let told = subst (Tells dual exchange (skeleton ++ take made marks) conn message old new) is_yes (tells dual exchange (skeleton ++ take made marks) mirrors standing) in
      let all : made ≡ count = all_are_made dual.spec exchange conn message skeleton marks count made sends so_few told.0.explains in
      (all, subst (λ number. StandsFor dual (with_receipt exchange conn message) (skeleton ++ take number marks) new) all told.0)

  pub is_never_refused : answer ≡ No → ReachesReceipt dual inbox first marks conn message None
  is_never_refused is_no exchange skeleton count picks_nothing holds stands sends =
      let (so_few, standing) = way exchange skeleton count picks_nothing holds stands sends in
      let told = subst (Tells dual exchange (skeleton ++ take made marks) conn message old new) is_no (tells dual exchange (skeleton ++ take made marks) mirrors standing) in
      none_is_refused dual.spec exchange conn message skeleton marks count made sends so_few told.1 told.2

  -- where nothing is pending: what still stands, and that a mark is left
  record NotThere (exchange : List ClientEvent) (skeleton : List Mark) (count : ℕ) : Type 0 where
    fewer : made < count
    stands : StandsFor dual exchange (skeleton ++ take made marks) new
    explained : SkeletonExplains dual.spec exchange skeleton

  not_there : answer ≡ Nothing → (exchange : List ClientEvent) (skeleton : List Mark) (count : ℕ) → PicksNothing dual.spec
      → HoldsSends exchange dual.shape.conns inbox → StandsFor dual exchange skeleton first
      → SendsBehind dual.spec exchange conn message skeleton marks count → NotThere exchange skeleton count
  not_there nothing exchange skeleton count picks_nothing holds stands sends =
      let (so_few, standing) = way exchange skeleton count picks_nothing holds stands sends in
      let told = subst (Tells dual exchange (skeleton ++ take made marks) conn message old new) nothing (tells dual exchange (skeleton ++ take made marks) mirrors standing) in
      record {
        fewer = more_are_left dual.spec exchange conn message skeleton marks count made sends so_few told.1;
        stands = subst (StandsFor dual exchange (skeleton ++ take made marks)) (sym told.0) standing;
        explained = stands.explains;
      }

  pub marks_never_end : answer ≡ Nothing → length marks ≤ made → ReachesReceipt dual inbox first marks conn message None
  marks_never_end nothing ended exchange skeleton count picks_nothing holds stands sends =
      let there = not_there nothing exchange skeleton count picks_nothing holds stands sends in
      absurd (omega (arith, there.fewer, sends.within, ended))

  one_more : (skeleton : List Mark) (mark : Mark) → slice_get marks made ≡ Some mark
      → skeleton ++ take (made + 1) marks ≡ (skeleton ++ take made marks) ++ mark ∷ []
  one_more skeleton mark at =
      let next = take_more marks made mark (slice_get_within marks made mark at) ∙ ap (λ item. take made marks ++ item ∷ []) (get_or_from_slice_get marks made mark mark at) in
      ap (λ front. skeleton ++ front) next ∙ sym (append_assoc skeleton (take made marks) (mark ∷ []))

  next_explains : (exchange : List ClientEvent) (skeleton : List Mark) (count : ℕ) (mark : Mark) → NotThere exchange skeleton count
      → SendsBehind dual.spec exchange conn message skeleton marks count → slice_get marks made ≡ Some mark
      → SkeletonExplains dual.spec exchange ((skeleton ++ take made marks) ++ mark ∷ [])
  next_explains exchange skeleton count mark there sends at =
      subst (SkeletonExplains dual.spec exchange) (one_more skeleton mark at)
      (part_explains dual.spec exchange conn message skeleton marks count there.explained sends (made + 1) (omega (arith, there.fewer)))

  pub mark_is_never_lost : answer ≡ Nothing → (mark : Mark) → slice_get marks made ≡ Some mark → (next : Option Hypothesis) → GoesOnBy dual inbox new mark next
      → next ≡ None → ReachesReceipt dual inbox first marks conn message None
  mark_is_never_lost nothing mark at next goes none exchange skeleton count picks_nothing holds stands sends =
      let there = not_there nothing exchange skeleton count picks_nothing holds stands sends in
      let explains = next_explains exchange skeleton count mark there sends at in
      let some = goes exchange (skeleton ++ take made marks) picks_nothing holds there.stands explains in
      subst (λ o. IsSomeAnd o (StandsFor dual exchange ((skeleton ++ take made marks) ++ mark ∷ []))) none some

  pub goes_one_on : answer ≡ Nothing → (mark : Mark) → slice_get marks made ≡ Some mark → (next : Option Hypothesis) → GoesOnBy dual inbox new mark next
      → (one : Hypothesis) → next ≡ Some one → IsOnTheWay dual inbox first marks conn message (made + 1) one
  goes_one_on nothing mark at next goes one is exchange skeleton count picks_nothing holds stands sends =
      let there = not_there nothing exchange skeleton count picks_nothing holds stands sends in
      let explains = next_explains exchange skeleton count mark there sends at in
      let some = goes exchange (skeleton ++ take made marks) picks_nothing holds there.stands explains in
      let standing = subst (λ o. IsSomeAnd o (StandsFor dual exchange ((skeleton ++ take made marks) ++ mark ∷ []))) is some in
      (omega (arith, there.fewer), subst (λ made. StandsFor dual exchange made one) (sym (one_more skeleton mark at)) standing)
