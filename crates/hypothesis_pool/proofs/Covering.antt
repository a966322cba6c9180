-- How a search for the skeletons that explain a receipt goes on.
use Rattle.std.proofs.Common.{◌≡◌, ℕ, ◌+◌, ◌<◌, ◌≤◌, ◌⊎◌, inl, inr, ⊎_elim, All, AllPairs, Any, Contains, List, [], ◌∷◌, ◌++◌, length, refl, sym, ◌∙◌, ap, subst, arith, append_assoc, append-nil}
use Rattle.std.proofs.lemmas.Bool.{cases_eq}
use Rattle.std.proofs.lemmas.List.{length_push, same_from_push}
use Rattle.std.proofs.lemmas.List.Elements.{All-append, All-contains, All-head, All-nil, All-push, All-tail, All-weaker, Contains-append_left, Contains-push}
use Rattle.spec_model.specs.declared.event.ClientEvent.{ClientEvent}
use Rattle.spec_model.specs.declared.event.Mark.{Mark}
use Rattle.spec_model.specs.declared.event.Mark.TheVariants as marks
use Rattle.spec_model.specs.declared.tree.Spec.{Spec}
use Rattle.spec_model.specs.Alike.{AreAlike, SkeletonExplains}
use Rattle.spec_model.specs.Least.{IsKeptSkeleton}
use Rattle.spec_model.specs.Skeleton.{Precedes, sends_in}
use Rattle.spec_model.specs.World.{IsPrefixOf, client_receipts}
use Rattle.spec_model.proofs.Built.{Built, built, push_not_nil, start, then}
use Rattle.spec_model.proofs.PassedMessages.{client_receipts-push_other, client_receipts-push_same}
use Rattle.spec_model.proofs.Skeletons.{sends_in-append}
use Rattle.dual_tree.specs.Dual.{DualFields, IsDual}
use Rattle.hypothesis.specs.Received.{with_receipt}
use Rattle.hypothesis.proofs.AlikeSkeletons.{skeletons_count, skeletons_move, skeletons_receive}
use Rattle.hypothesis_pool.specs.Search.{GoesOnFromReceived, IsCovered, IsFollowedBy, IsOnItsWay, Searches}
use Rattle.hypothesis_pool.specs.Standing.{StandsIn}
use Rattle.hypothesis_pool.proofs.Lists.{AllPairs-across, AllPairs-append, AllPairs-back, AllPairs-front, AllPairs-head, AllPairs-tail, All-front, Any-append_left, Any-append_right, Any-cases, Any-none}
use Rattle.hypothesis_pool.proofs.Orders.{goes_on_before, not_up_to_earlier, precedes_going_on, precedes_longer, up_to_joined, up_to_longer}
use Rattle.hypothesis_pool.proofs.ShortSkeletons.{EndsInSend, IsShortSkeleton, begins_short, ends_in_send, explains_before, explains_covers, front_explains, kept_explains, kept_from_short, kept_goes_on_nowhere, kept_is_short}

-- What stands in is joined.
pub stands_in_joined : (spec : Spec) (exchange : List ClientEvent) (one other third : List Mark) → StandsIn spec exchange one other → StandsIn spec exchange other third
    → StandsIn spec exchange one third
stands_in_joined spec exchange one other third first second = record {
  alike = λ remainder. (λ leaves. (second.alike remainder).0 ((first.alike remainder).0 leaves), λ leaves. (first.alike remainder).1 ((second.alike remainder).1 leaves));
  order = up_to_joined one other third first.order second.order;
}

pub alike_back : (spec : Spec) (exchange : List ClientEvent) (skeleton other : List Mark) → AreAlike spec exchange skeleton other → AreAlike spec exchange other skeleton
alike_back spec exchange skeleton other alike = λ remainder. ((alike remainder).1, (alike remainder).0)

pub alike_itself : (spec : Spec) (exchange : List ClientEvent) (skeleton : List Mark) → AreAlike spec exchange skeleton skeleton
alike_itself spec exchange skeleton = λ remainder. (λ leaves. leaves, λ leaves. leaves)

module _ (dual : DualFields) (is_dual : IsDual dual) (fed : List ClientEvent) (conn : ℕ) (message : List ℕ) where
  -- the exchange with the receipt
  abbrev after : List ClientEvent
  after = with_receipt fed conn message

  -- how many messages were received on the connection before
  abbrev received : ℕ
  received = length (client_receipts conn fed)

  one_more : length (client_receipts conn after) ≡ received + 1
  one_more = ap length (client_receipts-push_same conn fed message) ∙ length_push (client_receipts conn fed) message

  same_elsewhere : (other : ℕ) → (conn ≡ other → ⊥) → client_receipts other after ≡ client_receipts other fed
  same_elsewhere other apart = client_receipts-push_other other conn fed message apart

  sends_more : (skeleton : List Mark) → SkeletonExplains dual.spec after skeleton → received < sends_in conn skeleton
  sends_more skeleton explains = let covers = explains_covers dual.spec after skeleton explains conn in omega (arith, covers, one_more)

  -- What is on its way and explains the receipt is the skeleton of a short run.
  pub kept_on_its_way : (skeleton : List Mark) → IsKeptSkeleton dual.spec fed skeleton ⊎ GoesOnFromReceived fed conn skeleton → SkeletonExplains dual.spec after skeleton
      → IsKeptSkeleton dual.spec after skeleton
  kept_on_its_way skeleton way explains = kept_from_short dual.spec after skeleton explains (by_way way)
    where
      more : received < sends_in conn skeleton
      more = sends_more skeleton explains

      by_conn : (ends : EndsInSend fed skeleton) → (conn ≡ ends.conn) ⊎ (conn ≡ ends.conn → ⊥) → IsShortSkeleton after skeleton
      by_conn ends (inl same) =
          let all_received : sends_in conn skeleton ≡ received = subst (λ c. sends_in c skeleton ≡ length (client_receipts c fed)) (sym same) ends.received in
          absurd (omega (arith, all_received, more))
      by_conn ends (inr apart) =
          inr (record { before = ends.before; conn = ends.conn; ends = ends.ends; received = ends.received ∙ ap length (sym (same_elsewhere ends.conn apart)) })

      by_short : IsShortSkeleton fed skeleton → IsShortSkeleton after skeleton
      by_short (inl none) = absurd (let sends : sends_in conn skeleton ≡ 0 = ap (sends_in conn) none in omega (arith, sends, more))
      by_short (inr ends) = by_conn ends (cases_eq conn ends.conn)

      by_way : IsKeptSkeleton dual.spec fed skeleton ⊎ GoesOnFromReceived fed conn skeleton → IsShortSkeleton after skeleton
      by_way (inl kept) = by_short (kept_is_short dual.spec fed skeleton kept)
      by_way (inr goes_on) =
          let longer : sends_in conn goes_on.before < sends_in conn (goes_on.before ++ goes_on.last ∷ [])
          = subst (λ s. sends_in conn goes_on.before < sends_in conn s) goes_on.whole (omega (arith, goes_on.all_received, more)) in
          let (last, counted) = ends_in_send conn goes_on.before goes_on.last longer in
          inr (record {
            before = goes_on.before;
            conn = conn;
            ends = goes_on.whole ∙ ap (λ mark. goes_on.before ++ mark ∷ []) last;
            received = ap (sends_in conn) goes_on.whole ∙ counted ∙ ap (λ n. n + 1) goes_on.all_received ∙ sym one_more;
          })

  -- Where one of two that send as much is that of a short run with some marks behind it, so is the other with these marks.
  short_alike : (skeleton other : List Mark) {more : List Mark} → Built more → (more ≡ [] → ⊥) → ((c : ℕ) → sends_in c other ≡ sends_in c skeleton)
      → IsShortSkeleton after (skeleton ++ more) → IsShortSkeleton after (other ++ more)
  short_alike skeleton other start some same short = absurd (some refl)
  short_alike skeleton other (then most last known) some same (inl none) =
      absurd (push_not_nil (skeleton ++ most) last (append_assoc skeleton most (last ∷ []) ∙ none))
  short_alike skeleton other (then most last known) some same (inr ends) =
      let (_, is) = same_from_push (skeleton ++ most) ends.before last (marks.Send ends.conn) (append_assoc skeleton most (last ∷ []) ∙ ends.ends) in
      let sends = sends_in-append ends.conn skeleton (most ++ last ∷ []) in
      let other_sends = sends_in-append ends.conn other (most ++ last ∷ []) in
      let received = ends.received in
      inr (record {
        before = other ++ most;
        conn = ends.conn;
        ends = sym (append_assoc other most (last ∷ [])) ∙ ap (λ mark. (other ++ most) ++ mark ∷ []) is;
        received = omega (arith, sends, other_sends, received, same ends.conn);
      })

  -- What is alike to a front of the skeleton of a short run that explains the receipt goes on to one by the marks behind the front, if
  -- there are such, or if it is on its way.
  record GoesOnAlike (skeleton other more : List Mark) : Type 0 where
    kept : IsKeptSkeleton dual.spec after (other ++ more)
    alike : AreAlike dual.spec after (other ++ more) (skeleton ++ more)

  goes_on_alike : (skeleton other more : List Mark) → SkeletonExplains dual.spec fed skeleton → AreAlike dual.spec fed skeleton other → IsKeptSkeleton dual.spec after (skeleton ++ more)
      → (more ≡ []) ⊎ (more ≡ [] → ⊥) → (more ≡ [] → IsKeptSkeleton dual.spec fed other ⊎ GoesOnFromReceived fed conn other) → GoesOnAlike skeleton other more
  goes_on_alike skeleton other more explains alike kept some way = record { kept = by_more some; alike = alike_back dual.spec after (skeleton ++ more) (other ++ more) receives.1 }
    where
      whole : SkeletonExplains dual.spec after (skeleton ++ more)
      whole = kept_explains dual.spec after (skeleton ++ more) kept

      moves : SkeletonExplains dual.spec fed (other ++ more) × AreAlike dual.spec fed (skeleton ++ more) (other ++ more)
      moves = skeletons_move dual is_dual fed skeleton other more explains alike (explains_before dual.spec fed conn message (skeleton ++ more) whole)

      receives : SkeletonExplains dual.spec after (other ++ more) × AreAlike dual.spec after (skeleton ++ more) (other ++ more)
      receives = skeletons_receive dual is_dual fed conn message (skeleton ++ more) (other ++ more) moves.1 whole

      by_more : (more ≡ []) ⊎ (more ≡ [] → ⊥) → IsKeptSkeleton dual.spec after (other ++ more)
      by_more (inl none) =
          let same : other ≡ other ++ more = sym (append-nil other) ∙ ap (λ back. other ++ back) (sym none) in
          subst (IsKeptSkeleton dual.spec after) same (kept_on_its_way other (way none) (subst (SkeletonExplains dual.spec after) (sym same) receives.0))
      by_more (inr some) =
          kept_from_short dual.spec after (other ++ more) receives.0
          (short_alike skeleton other (built more) some (λ c. sym (skeletons_count dual is_dual fed skeleton other explains alike c)) (kept_is_short dual.spec after (skeleton ++ more) kept))

  -- whether there are marks
  some_marks : (more : List Mark) → (more ≡ []) ⊎ (more ≡ [] → ⊥)
  some_marks [] = inl refl
  some_marks (mark ∷ more) = inr (λ none. absurd (cc))

  -- What is said of what covers a skeleton stays true where more is found, or less is ahead.
  abbrev Covered : List (List Mark) → List (List Mark) → List Mark → Type 0
  Covered found ahead skeleton = IsCovered dual.spec after found ahead skeleton

  covered_through : (found ahead : List (List Mark)) (between skeleton : List Mark) → Covered found ahead between → StandsIn dual.spec after between skeleton
      → Covered found ahead skeleton
  covered_through found ahead between skeleton covered stands_in = record {
    by = covered.by;
    kept = covered.kept;
    stands_in = stands_in_joined dual.spec after covered.by between skeleton covered.stands_in stands_in;
    place = covered.place;
  }

  abbrev Begins : List Mark → List Mark → Type 0
  Begins by front = IsPrefixOf front by

  -- The first of those ahead is followed: what it covered is covered otherwise.
  followed : (met found found_after next later : List (List Mark)) (first : List Mark) → Searches dual.spec fed conn message met found (first ∷ later)
      → ((by : List Mark) → Contains found by → Contains found_after by)
      → ((by : List Mark) → IsKeptSkeleton dual.spec after by → IsPrefixOf first by → Covered found_after (next ++ later) by)
      → (skeleton : List Mark) → IsKeptSkeleton dual.spec after skeleton → Covered found_after (next ++ later) skeleton
  followed met found found_after next later first searches still by_first skeleton kept =
      let covered = searches.all skeleton kept in by_place covered covered.place
    where
      by_place : (covered : Covered found (first ∷ later) skeleton) → Contains found covered.by ⊎ Any (Begins covered.by) (first ∷ later) → Covered found_after (next ++ later) skeleton
      by_place covered (inl there) =
          record { by = covered.by; kept = covered.kept; stands_in = covered.stands_in; place = inl (still covered.by there) }
      by_place covered (inr ahead) =
          ⊎_elim
          (λ here. covered_through found_after (next ++ later) covered.by skeleton (by_first covered.by covered.kept here) covered.stands_in)
          (λ behind. record { by = covered.by; kept = covered.kept; stands_in = covered.stands_in; place = inr (Any-append_right (Begins covered.by) next later behind) })
          (Any-cases (Begins covered.by) first later ahead)

  -- A skeleton that goes on from another by one mark, and explains the exchange.
  pub record IsOneMarkFurther (front skeleton : List Mark) : Type 0 where
    pub mark : Mark
    pub whole : skeleton ≡ front ++ mark ∷ []
    pub explains : SkeletonExplains dual.spec fed skeleton

  -- A skeleton covers itself where it is found.
  found_itself : (found ahead : List (List Mark)) (skeleton : List Mark) → IsKeptSkeleton dual.spec after skeleton → Contains found skeleton → Covered found ahead skeleton
  found_itself found ahead skeleton kept there =
      record { by = skeleton; kept = kept; stands_in = record { alike = alike_itself dual.spec after skeleton; order = inl refl }; place = inl there }

  -- what the receipt makes of the first of those ahead
  module _ (met found later : List (List Mark)) (first : List Mark) (searches : Searches dual.spec fed conn message met found (first ∷ later)) where
    first_on_its_way : IsOnItsWay dual.spec fed conn first
    first_on_its_way = All-head (IsOnItsWay dual.spec fed conn) first later searches.on_their_way

    others_on_their_way : All (IsOnItsWay dual.spec fed conn) later
    others_on_their_way = All-tail (IsOnItsWay dual.spec fed conn) first later searches.on_their_way

    ordered_ahead : AllPairs Precedes (first ∷ later)
    ordered_ahead = AllPairs-back Precedes found (first ∷ later) searches.ordered

    before_others : All (Precedes first) later
    before_others = AllPairs-head Precedes first later ordered_ahead

    behind_found : All (λ skeleton. All (Precedes skeleton) (first ∷ later)) found
    behind_found = AllPairs-across Precedes found (first ∷ later) searches.ordered

    -- without the first of those ahead
    ordered_without : AllPairs Precedes (found ++ later)
    ordered_without =
        AllPairs-append Precedes found later (AllPairs-front Precedes found (first ∷ later) searches.ordered) (AllPairs-tail Precedes first later ordered_ahead)
        (All-weaker (λ skeleton. All (Precedes skeleton) (first ∷ later)) (λ skeleton. All (Precedes skeleton) later)
        (λ skeleton all. All-tail (Precedes skeleton) first later all) found behind_found)

    followed_without : All (λ skeleton. All (IsFollowedBy skeleton) later) met
    followed_without =
        All-weaker (λ skeleton. All (IsFollowedBy skeleton) (first ∷ later)) (λ skeleton. All (IsFollowedBy skeleton) later)
        (λ skeleton all. All-tail (IsFollowedBy skeleton) first later all) met searches.followed

    dropped : ((by : List Mark) → IsKeptSkeleton dual.spec after by → IsPrefixOf first by → Covered found later by) → Searches dual.spec fed conn message met found later
    dropped by_first = record {
      found_kept = searches.found_kept;
      on_their_way = others_on_their_way;
      ordered = ordered_without;
      followed = followed_without;
      all = followed met found found [] later first searches (λ by there. there) by_first;
    }

    -- Where the first explains the receipt, no short skeleton that explains it goes on from it.
    module _ (explains : SkeletonExplains dual.spec after first) where
      first_kept : IsKeptSkeleton dual.spec after first
      first_kept = kept_on_its_way first first_on_its_way.way explains

      same_as_first : (by : List Mark) → IsKeptSkeleton dual.spec after by → IsPrefixOf first by → first ≡ by
      same_as_first by kept (rest, whole) =
          let none = kept_goes_on_nowhere dual.spec after first rest first_kept (subst (IsKeptSkeleton dual.spec after) whole kept) in
          sym (append-nil first) ∙ ap (λ back. first ++ back) (sym none) ∙ sym whole

      -- It is found.
      pub finds : Searches dual.spec fed conn message met (found ++ first ∷ []) later
      finds = record {
        found_kept = All-push (IsKeptSkeleton dual.spec after) found first searches.found_kept first_kept;
        on_their_way = others_on_their_way;
        ordered = subst (AllPairs Precedes) (sym (append_assoc found (first ∷ []) later)) searches.ordered;
        followed = followed_without;
        all = followed met found (found ++ first ∷ []) [] later first searches (λ by there. Contains-append_left found (first ∷ []) by there) by_first;
      }
        where
          by_first : (by : List Mark) → IsKeptSkeleton dual.spec after by → IsPrefixOf first by → Covered (found ++ first ∷ []) later by
          by_first by kept front =
              let same = same_as_first by kept front in
              found_itself (found ++ first ∷ []) later by kept (subst (Contains (found ++ first ∷ [])) same (Contains-push found first))

      -- Or one alike was found.
      pub finds_alike : Any (λ skeleton. AreAlike dual.spec after skeleton first) found → Searches dual.spec fed conn message met found later
      finds_alike (place, skeleton, within, at, alike) = dropped by_first
        where
          there : Contains found skeleton
          there = (place, within, at)

          before : Precedes skeleton first
          before = All-head (Precedes skeleton) first later (All-contains (λ skeleton. All (Precedes skeleton) (first ∷ later)) found skeleton behind_found there)

          by_first : (by : List Mark) → IsKeptSkeleton dual.spec after by → IsPrefixOf first by → Covered found later by
          by_first by kept front =
              let stands_in : StandsIn dual.spec after skeleton first = record { alike = alike; order = inr before } in
              record {
                by = skeleton;
                kept = All-contains (IsKeptSkeleton dual.spec after) found skeleton searches.found_kept there;
                stands_in = subst (StandsIn dual.spec after skeleton) (same_as_first by kept front) stands_in;
                place = inl there;
              }

    -- Where the first sends more than was received and does not explain the receipt, nothing that goes on from it does.
    pub refuses : received < sends_in conn first → ¬ SkeletonExplains dual.spec after first → Searches dual.spec fed conn message met found later
    refuses more unexplained = dropped by_first
      where
        by_conn : (other : ℕ) → (conn ≡ other) ⊎ (conn ≡ other → ⊥) → length (client_receipts other after) ≤ sends_in other first
        by_conn other (inl same) = subst (λ c. length (client_receipts c after) ≤ sends_in c first) same (omega (arith, one_more, more))
        by_conn other (inr apart) =
            let covers = explains_covers dual.spec fed first first_on_its_way.explains other in
            let unchanged = ap length (same_elsewhere other apart) in
            omega (arith, covers, unchanged)

        by_first : (by : List Mark) → IsKeptSkeleton dual.spec after by → IsPrefixOf first by → Covered found later by
        by_first by kept (rest, whole) =
            let explains = subst (SkeletonExplains dual.spec after) whole (kept_explains dual.spec after by kept) in
            absurd (unexplained (front_explains dual.spec after first rest explains (λ other. by_conn other (cases_eq conn other))))

    -- Where the first sends as much as was received, what explains the receipt has marks behind it.
    module _ (all_received : sends_in conn first ≡ received) where
      goes_on_behind : (by rest : List Mark) → IsKeptSkeleton dual.spec after by → by ≡ first ++ rest → rest ≡ [] → ⊥
      goes_on_behind by rest kept whole none =
          let more = sends_more by (kept_explains dual.spec after by kept) in
          let same : sends_in conn by ≡ sends_in conn first = ap (sends_in conn) (whole ∙ ap (λ back. first ++ back) none ∙ append-nil first) in
          omega (arith, more, same, all_received)

      -- One alike was met before, from which the first does not go on.
      pub meets_alike : Any (λ skeleton. AreAlike dual.spec fed skeleton first × ((mark : Mark) (more : List Mark) → first ≡ skeleton ++ mark ∷ more → ⊥)) met
          → Searches dual.spec fed conn message met found later
      meets_alike (place, skeleton, within, at, (alike, stays)) = dropped by_first
        where
          before : Precedes skeleton first
          before =
              let follows = All-contains (λ skeleton. All (IsFollowedBy skeleton) (first ∷ later)) met skeleton searches.followed (place, within, at) in
              ⊎_elim (λ precedes. precedes) (λ (mark, more, whole). absurd (stays mark more whole)) (All-head (IsFollowedBy skeleton) first later follows)

          by_first : (by : List Mark) → IsKeptSkeleton dual.spec after by → IsPrefixOf first by → Covered found later by
          by_first by kept (rest, whole) = by_place covered covered.place
            where
              goes_on : GoesOnAlike first skeleton rest
              goes_on =
                  goes_on_alike first skeleton rest first_on_its_way.explains (alike_back dual.spec fed skeleton first alike) (subst (IsKeptSkeleton dual.spec after) whole kept)
                  (inr (goes_on_behind by rest kept whole)) (λ none. absurd (goes_on_behind by rest kept whole none))

              stands_in : StandsIn dual.spec after (skeleton ++ rest) by
              stands_in = record {
                alike = subst (AreAlike dual.spec after (skeleton ++ rest)) (sym whole) goes_on.alike;
                order = subst (λ s. (skeleton ++ rest ≡ s) ⊎ Precedes (skeleton ++ rest) s) (sym whole) (inr (precedes_longer skeleton first rest rest before));
              }

              covered : Covered found (first ∷ later) (skeleton ++ rest)
              covered = searches.all (skeleton ++ rest) goes_on.kept

              not_here : (covered : Covered found (first ∷ later) (skeleton ++ rest)) → IsPrefixOf first covered.by → ⊥
              not_here covered (other, is) =
                  let later_one : Precedes (skeleton ++ rest) covered.by = subst (Precedes (skeleton ++ rest)) (sym is) (precedes_longer skeleton first rest other before) in
                  not_up_to_earlier (skeleton ++ rest) covered.by later_one covered.stands_in.order

              by_place : (covered : Covered found (first ∷ later) (skeleton ++ rest)) → Contains found covered.by ⊎ Any (Begins covered.by) (first ∷ later) → Covered found later by
              by_place covered (inl there) =
                  covered_through found later (skeleton ++ rest) by
                  (record { by = covered.by; kept = covered.kept; stands_in = covered.stands_in; place = inl there }) stands_in
              by_place covered (inr ahead) =
                  ⊎_elim (λ here. absurd (not_here covered here))
                  (λ behind. covered_through found later (skeleton ++ rest) by
                  (record { by = covered.by; kept = covered.kept; stands_in = covered.stands_in; place = inr behind }) stands_in)
                  (Any-cases (Begins covered.by) first later ahead)

      -- It goes on to what is ahead then in its place.
      module _ (next : List (List Mark)) (each : All (IsOneMarkFurther first) next) (next_ordered : AllPairs Precedes next)
          (next_all : (mark : Mark) → SkeletonExplains dual.spec fed (first ++ mark ∷ []) → Contains next (first ++ mark ∷ [])) where
        next_on_its_way : (skeleton : List Mark) → IsOneMarkFurther first skeleton → IsOnItsWay dual.spec fed conn skeleton
        next_on_its_way skeleton further =
            record { explains = further.explains; way = inr (record { before = first; last = further.mark; whole = further.whole; all_received = all_received }) }

        goes_before : (skeleton other : List Mark) → IsOneMarkFurther first skeleton → Precedes first other → Precedes skeleton other
        goes_before skeleton other further before = subst (λ s. Precedes s other) (sym further.whole) (goes_on_before first other (further.mark ∷ []) before)

        comes_behind : (skeleton other : List Mark) → IsOneMarkFurther first skeleton → Precedes other first → Precedes other skeleton
        comes_behind skeleton other further before = subst (Precedes other) (sym further.whole) (precedes_going_on other first (further.mark ∷ []) before)

        next_ordered_ahead : AllPairs Precedes (next ++ later)
        next_ordered_ahead =
            AllPairs-append Precedes next later next_ordered (AllPairs-tail Precedes first later ordered_ahead)
            (All-weaker (IsOneMarkFurther first) (λ skeleton. All (Precedes skeleton) later)
            (λ skeleton further. All-weaker (Precedes first) (Precedes skeleton) (λ other before. goes_before skeleton other further before) later before_others) next each)

        found_before : (skeleton : List Mark) → All (Precedes skeleton) (first ∷ later) → All (Precedes skeleton) (next ++ later)
        found_before skeleton before =
            All-append (Precedes skeleton) next later
            (All-weaker (IsOneMarkFurther first) (Precedes skeleton) (λ other further. comes_behind other skeleton further (All-head (Precedes skeleton) first later before)) next each)
            (All-tail (Precedes skeleton) first later before)

        follows_further : (skeleton other : List Mark) → IsFollowedBy skeleton first → IsOneMarkFurther first other → IsFollowedBy skeleton other
        follows_further skeleton other (inl before) further = inl (comes_behind other skeleton further before)
        follows_further skeleton other (inr (mark, more, whole)) further =
            inr (mark, more ++ further.mark ∷ [], further.whole ∙ ap (λ front. front ++ further.mark ∷ []) whole ∙ append_assoc skeleton (mark ∷ more) (further.mark ∷ []))

        met_followed : (skeleton : List Mark) → All (IsFollowedBy skeleton) (first ∷ later) → All (IsFollowedBy skeleton) (next ++ later)
        met_followed skeleton follows =
            All-append (IsFollowedBy skeleton) next later
            (All-weaker (IsOneMarkFurther first) (IsFollowedBy skeleton)
            (λ other further. follows_further skeleton other (All-head (IsFollowedBy skeleton) first later follows) further) next each)
            (All-tail (IsFollowedBy skeleton) first later follows)

        first_followed : All (IsFollowedBy first) (next ++ later)
        first_followed =
            All-append (IsFollowedBy first) next later
            (All-weaker (IsOneMarkFurther first) (IsFollowedBy first) (λ other further. inr (further.mark, [], further.whole)) next each)
            (All-weaker (Precedes first) (IsFollowedBy first) (λ other before. inl before) later before_others)

        by_mark : (by rest : List Mark) → IsKeptSkeleton dual.spec after by → by ≡ first ++ rest → (rest ≡ [] → ⊥) → Covered found (next ++ later) by
        by_mark by [] kept whole some = absurd (some refl)
        by_mark by (mark ∷ rest) kept whole some =
            let longer : by ≡ (first ++ mark ∷ []) ++ rest = whole ∙ sym (append_assoc first (mark ∷ []) rest) in
            let explains = explains_before dual.spec fed conn message by (kept_explains dual.spec after by kept) in
            let covers : (other : ℕ) → length (client_receipts other fed) ≤ sends_in other (first ++ mark ∷ [])
            = λ other.
            let enough = explains_covers dual.spec fed first first_on_its_way.explains other in
            let counted = sends_in-append other first (mark ∷ []) in
            omega (arith, enough, counted) in
            let one = front_explains dual.spec fed (first ++ mark ∷ []) rest (subst (SkeletonExplains dual.spec fed) longer explains) covers in
            let (place, within, at) = next_all mark one in
            let ahead : Any (Begins by) next = (place, first ++ mark ∷ [], within, at, (rest, longer)) in
            record {
              by = by;
              kept = kept;
              stands_in = record { alike = alike_itself dual.spec after by; order = inl refl };
              place = inr (Any-append_left (Begins by) next later ahead);
            }

        pub goes_on : Searches dual.spec fed conn message (met ++ first ∷ []) found (next ++ later)
        goes_on = record {
          found_kept = searches.found_kept;
          on_their_way = All-append (IsOnItsWay dual.spec fed conn) next later (All-weaker (IsOneMarkFurther first) (IsOnItsWay dual.spec fed conn) next_on_its_way next each)
              others_on_their_way;
          ordered = AllPairs-append Precedes found (next ++ later) (AllPairs-front Precedes found (first ∷ later) searches.ordered) next_ordered_ahead
              (All-weaker (λ skeleton. All (Precedes skeleton) (first ∷ later)) (λ skeleton. All (Precedes skeleton) (next ++ later)) found_before found behind_found);
          followed = All-push (λ skeleton. All (IsFollowedBy skeleton) (next ++ later)) met first
              (All-weaker (λ skeleton. All (IsFollowedBy skeleton) (first ∷ later)) (λ skeleton. All (IsFollowedBy skeleton) (next ++ later)) met_followed met searches.followed)
              first_followed;
          all = followed met found found next later first searches (λ by there. there)
              (λ by kept (rest, whole). by_mark by rest kept whole (goes_on_behind by rest kept whole));
        }

  -- What was met may be forgotten.
  pub forgets : (met more : List (List Mark)) {found ahead : List (List Mark)} → Searches dual.spec fed conn message (met ++ more) found ahead
      → Searches dual.spec fed conn message met found ahead
  forgets met more {found} {ahead} searches = record {
    found_kept = searches.found_kept;
    on_their_way = searches.on_their_way;
    ordered = searches.ordered;
    followed = All-front (λ skeleton. All (IsFollowedBy skeleton) ahead) met more searches.followed;
    all = searches.all;
  }

  -- A search begins with skeletons that stand in for all that explain the exchange.
  pub begins : (roots : List (List Mark)) → All (IsKeptSkeleton dual.spec fed) roots → AllPairs Precedes roots
      → ((skeleton : List Mark) → IsKeptSkeleton dual.spec fed skeleton → Any (λ other. StandsIn dual.spec fed other skeleton) roots)
      → Searches dual.spec fed conn message [] [] roots
  begins roots kept ordered stand_in = record {
    found_kept = All-nil (IsKeptSkeleton dual.spec after);
    on_their_way = All-weaker (IsKeptSkeleton dual.spec fed) (IsOnItsWay dual.spec fed conn)
        (λ skeleton kept. record { explains = kept_explains dual.spec fed skeleton kept; way = inl kept }) roots kept;
    ordered = ordered;
    followed = All-nil (λ skeleton. All (IsFollowedBy skeleton) roots);
    all = covers;
  }
    where
      covers : (skeleton : List Mark) → IsKeptSkeleton dual.spec after skeleton → Covered [] roots skeleton
      covers skeleton kept_after =
          let explains = explains_before dual.spec fed conn message skeleton (kept_explains dual.spec after skeleton kept_after) in
          let (front, more, whole, front_kept) = begins_short dual.spec fed skeleton explains in
          let (place, root, within, at, stands_in) = stand_in front front_kept in
          let root_kept : IsKeptSkeleton dual.spec fed root = All-contains (IsKeptSkeleton dual.spec fed) roots root kept (place, within, at) in
          let goes_on = goes_on_alike front root more (kept_explains dual.spec fed front front_kept) (alike_back dual.spec fed root front stands_in.alike)
          (subst (IsKeptSkeleton dual.spec after) whole kept_after) (some_marks more) (λ none. inl root_kept) in
          let stands_in_after : StandsIn dual.spec after (root ++ more) (front ++ more) = record { alike = goes_on.alike; order = up_to_longer root front more stands_in.order } in
          record {
            by = root ++ more;
            kept = goes_on.kept;
            stands_in = subst (StandsIn dual.spec after (root ++ more)) (sym whole) stands_in_after;
            place = inr (place, root, within, at, (more, refl));
          }

  -- Where nothing is ahead any more, what was found stands in for all.
  pub ends : (met found : List (List Mark)) → Searches dual.spec fed conn message met found [] → (skeleton : List Mark) → IsKeptSkeleton dual.spec after skeleton
      → Any (λ other. StandsIn dual.spec after other skeleton) found
  ends met found searches skeleton kept =
      let covered = searches.all skeleton kept in
      ⊎_elim (λ (place, within, at). (place, covered.by, within, at, covered.stands_in)) (λ ahead. absurd (Any-none (Begins covered.by) ahead)) covered.place
