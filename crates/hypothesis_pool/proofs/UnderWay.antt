-- How the hypotheses of a search go on.
use Rattle.std.proofs.Common.{◌≡◌, ℕ, zero, suc, ◌^◌, ◌<◌, All, AllPairs, Any, Contains, List, [], ◌∷◌, ◌++◌, None, Some, length, option_to_list, reverse, slice_index_or, refl, sym, ◌∙◌, ap, subst, arith, append-nil}
use Rattle.std.proofs.lemmas.List.{map-append, reverse-append, reverse-reverse}
use Rattle.std.proofs.lemmas.List.Elements.{All-append, All-head, All-map, All-nil, All-push, All-tail, All-weaker}
use Rattle.std.proofs.lemmas.List.Quantifiers.{all_pairs_push}
use Rattle.spec_model.specs.declared.event.ClientEvent.{ClientEvent}
use Rattle.spec_model.specs.declared.event.Mark.{Mark}
use Rattle.spec_model.specs.Alike.{AreAlike, SkeletonExplains}
use Rattle.spec_model.specs.Skeleton.{ComesBefore, Precedes, sends_in}
use Rattle.spec_model.specs.World.{IsPrefixOf, client_receipts}
use Rattle.spec_rules.specs.Accepted.{IsAccepted}
use Rattle.dual_tree.specs.Dual.{DualFields, IsDual}
use Rattle.trail_store.specs.Path.{path_at}
use Rattle.hypothesis.specs.declared.hypothesis.Hypothesis.{Hypothesis}
use Rattle.hypothesis.specs.declared.received.Received.TheVariants.{No, Yes}
use Rattle.hypothesis.specs.Expansions.{AreExpansions, GoesOneFurther, MadeBefore}
use Rattle.hypothesis.specs.Left.{IsAlike}
use Rattle.hypothesis.specs.Received.{Tells, with_receipt}
use Rattle.hypothesis.specs.Stands.{StandsFor}
use Rattle.hypothesis.proofs.AlikeSkeletons.{skeletons_alike}
use Rattle.hypothesis_pool.specs.Search.{IsNoted, IsOneFurther, IsUnderWay, ReplacesLast, Searches}
use Rattle.hypothesis_pool.specs.Standing.{StandForAll, Stands, skeleton_in, skeletons_in}
use Rattle.hypothesis_pool.proofs.Covering.{IsOneMarkFurther, begins, ends, finds, finds_alike, forgets, goes_on, meets_alike, refuses}
use Rattle.hypothesis_pool.proofs.Effort.{goes_on_unalike}
use Rattle.hypothesis_pool.proofs.Lists.{AllPairs-map, AllPairs-none, AllPairs-weaker, Any-map}
use Rattle.hypothesis_pool.proofs.Noting.{all_longer, each_within, skeletons_longer, stands_noted}
use Rattle.hypothesis_pool.proofs.Orders.{precedes_by_mark}

alike_turned : (h g : Hypothesis) → IsAlike h g → IsAlike g h
alike_turned h g alike = record { state = sym alike.state; taken = sym alike.taken }

-- what is alike to a hypothesis is so wherever its mark lies
alike_before_noted : (paths new_paths : List (List Mark)) (old new other : Hypothesis) → IsNoted paths new_paths old new → IsAlike other new → IsAlike other old
alike_before_noted paths new_paths old new other noted alike =
    record { state = alike.state ∙ ap (λ (h : Hypothesis). h.state) noted.same; taken = alike.taken ∙ ap (λ (h : Hypothesis). h.taken) noted.same }

-- some item with a fact that it has by one of all
pub some_with_all : {X : Type 0} (P Q R : X → Type 0) (xs : List X) → ((x : X) → P x → Q x → R x) → Any P xs → All Q xs → Any R xs
some_with_all P Q R xs leads (place, x, within, at, holds) all = (place, x, within, at, leads x holds (subst Q at (all place x within)))

-- an item of a list is the same by whichever default
same_default : {X : Type 0} (xs : List X) (place : ℕ) (one other : X) → place < length xs → slice_index_or xs place one ≡ slice_index_or xs place other
same_default [] place one other within = absurd (omega (arith, within))
same_default (x ∷ xs) zero one other within = refl
same_default (x ∷ xs) (suc place) one other within = same_default xs place one other (omega (arith, within))

-- a list contains what some item of it is
contained : {X : Type 0} (x : X) (xs : List X) → Any (λ y. y ≡ x) xs → Contains xs x
contained x xs (place, y, within, at, same) = (place, within, subst (λ z. slice_index_or xs place z ≡ z) same at)

-- In place of the one that was taken stands nothing.
pub replaces_by_none : (dual : DualFields) (fed : List ClientEvent) (taken : Hypothesis) (ahead : List Hypothesis) → ReplacesLast dual fed taken ahead ahead
replaces_by_none dual fed taken ahead =
    record { more = []; whole = sym (append-nil ahead); few = omega arith; further = All-nil (IsOneFurther dual fed taken) }

module _ {dual : DualFields} (is_dual : IsDual dual) (accepted : IsAccepted dual.spec) {fed : List ClientEvent} {conn : ℕ} {message : List ℕ} where
  -- A search begins with hypotheses that stand for all.
  pub under_way_at_first : {paths : List (List Mark)} {hs : List Hypothesis} → StandForAll dual fed paths hs → IsUnderWay dual fed conn message paths [] [] hs
  under_way_at_first {paths} {hs} stand = record {
    met_stand = All-nil (Stands dual fed paths);
    found_stand = All-nil (Stands dual (with_receipt fed conn message) paths);
    ahead_stand = stand.each;
    noted = All-nil (λ (h : Hypothesis). h.mark ≡ None);
    apart = AllPairs-none (λ (h other : Hypothesis). ¬ IsAlike h other);
    searches = begins dual is_dual fed conn message (skeletons_in paths hs) stand.kept stand.ordered stand.all;
  }

  -- Where nothing is ahead any more, those found stand for all.
  pub under_way_at_last : {paths : List (List Mark)} {met found : List Hypothesis} → IsUnderWay dual fed conn message paths met found [] → StandForAll dual (with_receipt fed conn message) paths found
  under_way_at_last {paths} {met} {found} under_way = record {
    each = under_way.found_stand;
    noted = under_way.noted;
    kept = under_way.searches.found_kept;
    ordered = subst (AllPairs Precedes) (append-nil (skeletons_in paths found)) under_way.searches.ordered;
    apart = under_way.apart;
    all = ends dual is_dual fed conn message (skeletons_in paths met) (skeletons_in paths found) under_way.searches;
  }

  module _ {paths : List (List Mark)} {met found later : List Hypothesis} {next : Hypothesis} (under_way : IsUnderWay dual fed conn message paths met found (next ∷ later)) where
    -- the skeleton of the one that was taken
    abbrev taken : List Mark
    taken = skeleton_in paths next

    pub next_stands : Stands dual fed paths next
    next_stands = All-head (Stands dual fed paths) next later under_way.ahead_stand

    others_stand : All (Stands dual fed paths) later
    others_stand = All-tail (Stands dual fed paths) next later under_way.ahead_stand

    -- It is let go.
    without_next : Searches dual.spec fed conn message (skeletons_in paths met) (skeletons_in paths found) (skeletons_in paths later)
        → IsUnderWay dual fed conn message paths met found later
    without_next searches = record {
      met_stand = under_way.met_stand;
      found_stand = under_way.found_stand;
      ahead_stand = others_stand;
      noted = under_way.noted;
      apart = under_way.apart;
      searches = searches;
    }

    pub after_no : {told : Hypothesis} → Tells dual fed taken conn message next told No → IsUnderWay dual fed conn message paths met found later
    after_no (same, more, unexplained) =
        without_next (refuses dual is_dual fed conn message (skeletons_in paths met) (skeletons_in paths found) (skeletons_in paths later) taken under_way.searches more unexplained)

    -- Where it explains the receipt, it stands for its skeleton then.
    module _ {told : Hypothesis} (tells : Tells dual fed taken conn message next told Yes) where
      same_skeleton : skeleton_in paths told ≡ taken
      same_skeleton = ap (λ step. path_at paths step ++ option_to_list told.mark) tells.1 ∙ ap (λ mark. path_at paths next.step ++ option_to_list mark) tells.2

      pub told_stands : Stands dual (with_receipt fed conn message) paths told
      told_stands = record {
        within = subst (λ step. step < length paths) (sym tells.1) next_stands.within;
        stands = subst (λ skeleton. StandsFor dual (with_receipt fed conn message) skeleton told) (sym same_skeleton) tells.0;
      }

      -- It is let go where one alike was found.
      pub after_yes_alike : Any (λ (other : Hypothesis). IsAlike other told) found → IsUnderWay dual fed conn message paths met found later
      after_yes_alike some = without_next (finds_alike dual is_dual fed conn message (skeletons_in paths met) (skeletons_in paths found) (skeletons_in paths later) taken
          under_way.searches tells.0.explains
          (Any-map (skeleton_in paths) (λ skeleton. AreAlike dual.spec (with_receipt fed conn message) skeleton taken) found
          (some_with_all (λ (other : Hypothesis). IsAlike other told) (Stands dual (with_receipt fed conn message) paths) (λ (other : Hypothesis). AreAlike dual.spec (with_receipt fed conn message) (skeleton_in paths other) taken) found
          (λ other alike stands. skeletons_alike dual is_dual (with_receipt fed conn message) other told (skeleton_in paths other) taken stands.stands tells.0 alike) some under_way.found_stand)))

      -- Otherwise it is found.
      pub after_yes : {new_paths : List (List Mark)} {noted : Hypothesis} → IsPrefixOf paths new_paths → IsNoted paths new_paths told noted
          → ¬ Any (λ (other : Hypothesis). IsAlike other told) found → IsUnderWay dual fed conn message new_paths met (found ++ noted ∷ []) later
      after_yes {new_paths} {noted} longer is_noted none_alike = record {
        met_stand = all_longer dual fed paths new_paths met longer under_way.met_stand;
        found_stand = All-push (Stands dual (with_receipt fed conn message) new_paths) found noted (all_longer dual (with_receipt fed conn message) paths new_paths found longer under_way.found_stand)
            (stands_noted dual (with_receipt fed conn message) paths new_paths told noted is_noted told_stands);
        ahead_stand = all_longer dual fed paths new_paths later longer others_stand;
        noted = All-push (λ (h : Hypothesis). h.mark ≡ None) found noted under_way.noted (ap (λ (h : Hypothesis). h.mark) is_noted.same);
        apart = all_pairs_push (λ (h other : Hypothesis). ¬ IsAlike h other) found noted under_way.apart
            (λ place other within alike. none_alike (
              place,
              slice_index_or found place other,
              within,
              refl_at place other within,
              alike_before_noted paths new_paths told noted (slice_index_or found place other) is_noted alike,
            ));
        searches = rw (met_same, found_is, later_same) (finds dual is_dual fed conn message (skeletons_in paths met) (skeletons_in paths found) (skeletons_in paths later) taken
            under_way.searches tells.0.explains);
      }
        where
          refl_at : (place : ℕ) (other : Hypothesis) → place < length found → slice_index_or found place (slice_index_or found place other) ≡ slice_index_or found place other
          refl_at place other within = same_default found place (slice_index_or found place other) other within

          met_same : skeletons_in new_paths met ≡ skeletons_in paths met
          met_same = skeletons_longer paths new_paths met longer (each_within dual fed paths met under_way.met_stand)

          later_same : skeletons_in new_paths later ≡ skeletons_in paths later
          later_same = skeletons_longer paths new_paths later longer (each_within dual fed paths later others_stand)

          found_is : skeletons_in new_paths (found ++ noted ∷ []) ≡ skeletons_in paths found ++ taken ∷ []
          found_is =
              map-append (skeleton_in new_paths) found (noted ∷ [])
              ∙ ap (λ skeletons. skeletons ++ skeleton_in new_paths noted ∷ []) (skeletons_longer paths new_paths found longer (each_within dual (with_receipt fed conn message) paths found under_way.found_stand))
              ∙ ap (λ skeleton. skeletons_in paths found ++ skeleton ∷ []) (is_noted.skeleton ∙ same_skeleton)

    -- One alike was met, from which it does not go on.
    abbrev IsMetAlike : List Mark → Type 0
    IsMetAlike skeleton = AreAlike dual.spec fed skeleton taken × ((mark : Mark) (more : List Mark) → taken ≡ skeleton ++ mark ∷ more → ⊥)

    -- Where it sends as much as was received, it is let go where one alike was met.
    pub after_nothing_alike : sends_in conn taken ≡ length (client_receipts conn fed) → Any (λ (other : Hypothesis). IsAlike other next) met
        → IsUnderWay dual fed conn message paths met found later
    after_nothing_alike all_received some = without_next (meets_alike dual is_dual fed conn message (skeletons_in paths met) (skeletons_in paths found) (skeletons_in paths later) taken
        under_way.searches all_received
        (Any-map (skeleton_in paths) IsMetAlike met
        (some_with_all (λ (other : Hypothesis). IsAlike other next) (Stands dual fed paths) (λ (other : Hypothesis). IsMetAlike (skeleton_in paths other)) met is_met some under_way.met_stand)))
      where
        is_met : (other : Hypothesis) → IsAlike other next → Stands dual fed paths other → IsMetAlike (skeleton_in paths other)
        is_met other alike stands = (
          skeletons_alike dual is_dual fed other next (skeleton_in paths other) taken stands.stands next_stands.stands alike,
          λ mark more whole. goes_on_unalike dual fed is_dual accepted (skeleton_in paths other) mark more other next stands.stands
              (subst (λ skeleton. StandsFor dual fed skeleton next) whole next_stands.stands) alike,
        )

    -- Otherwise its expansions stand in its place.
    module _ (all_received : sends_in conn taken ≡ length (client_receipts conn fed)) {new_paths : List (List Mark)} {noted : Hypothesis} (longer : IsPrefixOf paths new_paths)
        (is_noted : IsNoted paths new_paths next noted) where
      pub noted_stands : Stands dual fed new_paths noted
      noted_stands = stands_noted dual fed paths new_paths next noted is_noted next_stands

      pub noted_stands_for : StandsFor dual fed taken noted
      noted_stands_for = subst (λ skeleton. StandsFor dual fed skeleton noted) is_noted.skeleton noted_stands.stands

      module _ {hs : List Hypothesis} (expansions : AreExpansions dual fed taken noted hs) where
        made_skeleton : (made : Hypothesis) (mark : Mark) → made.step ≡ noted.step → made.mark ≡ Some mark → skeleton_in new_paths made ≡ taken ++ mark ∷ []
        made_skeleton made mark step is =
            let path : path_at new_paths noted.step ≡ taken
            = sym (append-nil _) ∙ ap (λ mark. path_at new_paths noted.step ++ option_to_list mark) (sym (ap (λ (h : Hypothesis). h.mark) is_noted.same)) ∙ is_noted.skeleton in
            ap (λ step. path_at new_paths step ++ option_to_list made.mark) step ∙ ap (λ front. front ++ option_to_list made.mark) path
            ∙ ap (λ mark. taken ++ option_to_list mark) is

        abbrev Further : Hypothesis → Type 0
        Further made = GoesOneFurther dual fed taken noted made

        made_stands : (made : Hypothesis) → Further made → Stands dual fed new_paths made
        made_stands made further = record {
          within = subst (λ step. step < length new_paths) (sym further.step) noted_stands.within;
          stands = subst (λ skeleton. StandsFor dual fed skeleton made) (sym (made_skeleton made further.mark further.step further.by)) further.stands;
        }

        is_one_mark_further : (made : Hypothesis) → Further made → IsOneMarkFurther dual is_dual fed conn message taken (skeleton_in new_paths made)
        is_one_mark_further made further =
            let whole = made_skeleton made further.mark further.step further.by in
            record { mark = further.mark; whole = whole; explains = subst (SkeletonExplains dual.spec fed) (sym whole) further.stands.explains }

        marks_in_order : (made other : Hypothesis) (mark next_mark : Mark) → made.mark ≡ Some mark → other.mark ≡ Some next_mark → MadeBefore made other → ComesBefore mark next_mark
        marks_in_order made other mark next_mark is other_is before = rw (is, other_is) at before

        in_order : (made other : Hypothesis) → Further made → Further other → MadeBefore made other → Precedes (skeleton_in new_paths made) (skeleton_in new_paths other)
        in_order made other further other_further before =
            rw (made_skeleton made further.mark further.step further.by, made_skeleton other other_further.mark other_further.step other_further.by)
            (precedes_by_mark taken further.mark other_further.mark (marks_in_order made other further.mark other_further.mark further.by other_further.by before))

        each_in_order : AllPairs Precedes (skeletons_in new_paths hs)
        each_in_order =
            AllPairs-map (skeleton_in new_paths) Precedes hs
            (AllPairs-weaker Further MadeBefore (λ (made other : Hypothesis). Precedes (skeleton_in new_paths made) (skeleton_in new_paths other)) hs in_order expansions.each expansions.ordered)

        each_made : (mark : Mark) → SkeletonExplains dual.spec fed (taken ++ mark ∷ []) → Contains (skeletons_in new_paths hs) (taken ++ mark ∷ [])
        each_made mark explains =
            let some = some_with_all (λ (made : Hypothesis). made.mark ≡ Some mark) Further (λ (made : Hypothesis). skeleton_in new_paths made ≡ taken ++ mark ∷ []) hs
            (λ made is further. made_skeleton made mark further.step is) (expansions.all mark explains) expansions.each in
            contained (taken ++ mark ∷ []) (skeletons_in new_paths hs) (Any-map (skeleton_in new_paths) (λ skeleton. skeleton ≡ taken ++ mark ∷ []) hs some)

        pub after_nothing : IsUnderWay dual fed conn message new_paths (met ++ noted ∷ []) found (hs ++ later)
        after_nothing = record {
          met_stand = All-push (Stands dual fed new_paths) met noted (all_longer dual fed paths new_paths met longer under_way.met_stand) noted_stands;
          found_stand = all_longer dual (with_receipt fed conn message) paths new_paths found longer under_way.found_stand;
          ahead_stand = All-append (Stands dual fed new_paths) hs later (All-weaker Further (Stands dual fed new_paths) made_stands hs expansions.each)
              (all_longer dual fed paths new_paths later longer others_stand);
          noted = under_way.noted;
          apart = under_way.apart;
          searches = rw (met_is, found_same, ahead_is)
              (goes_on dual is_dual fed conn message (skeletons_in paths met) (skeletons_in paths found) (skeletons_in paths later) taken under_way.searches all_received
              (skeletons_in new_paths hs)
              (All-map (IsOneMarkFurther dual is_dual fed conn message taken) (skeleton_in new_paths) hs
              (All-weaker Further (λ (made : Hypothesis). IsOneMarkFurther dual is_dual fed conn message taken (skeleton_in new_paths made)) is_one_mark_further hs expansions.each))
              each_in_order each_made);
        }
          where
            met_is : skeletons_in new_paths (met ++ noted ∷ []) ≡ skeletons_in paths met ++ taken ∷ []
            met_is =
                map-append (skeleton_in new_paths) met (noted ∷ [])
                ∙ ap (λ skeletons. skeletons ++ skeleton_in new_paths noted ∷ []) (skeletons_longer paths new_paths met longer (each_within dual fed paths met under_way.met_stand))
                ∙ ap (λ skeleton. skeletons_in paths met ++ skeleton ∷ []) is_noted.skeleton

            found_same : skeletons_in new_paths found ≡ skeletons_in paths found
            found_same = skeletons_longer paths new_paths found longer (each_within dual (with_receipt fed conn message) paths found under_way.found_stand)

            ahead_is : skeletons_in new_paths (hs ++ later) ≡ skeletons_in new_paths hs ++ skeletons_in paths later
            ahead_is =
                map-append (skeleton_in new_paths) hs later
                ∙ ap (λ skeletons. skeletons_in new_paths hs ++ skeletons) (skeletons_longer paths new_paths later longer (each_within dual fed paths later others_stand))

        -- So it is where that one is not kept as met.
        pub after_nothing_forgotten : IsUnderWay dual fed conn message new_paths met found (hs ++ later)
        after_nothing_forgotten = record {
          met_stand = all_longer dual fed paths new_paths met longer under_way.met_stand;
          found_stand = after_nothing.found_stand;
          ahead_stand = after_nothing.ahead_stand;
          noted = under_way.noted;
          apart = under_way.apart;
          searches = forgets dual is_dual fed conn message (skeletons_in new_paths met) (skeleton_in new_paths noted ∷ []) (rw (map-append (skeleton_in new_paths) met (noted ∷ [])) at after_nothing.searches);
        }

        -- In place of the one that was taken stand its expansions.
        pub replaces_by_expansions : (ahead : List Hypothesis) → length hs < 2 ^ 64 → ReplacesLast dual fed next ahead (ahead ++ reverse hs)
        replaces_by_expansions ahead few = record {
          more = hs;
          whole = refl;
          few = few;
          further = All-weaker Further (IsOneFurther dual fed next)
              (λ made further. record { skeleton = taken; mark = further.mark; stands = next_stands.stands; further = further.stands }) hs expansions.each;
        }

-- The last of a list comes first where it is turned.
pub turned_behind : (ahead hs : List Hypothesis) → reverse (ahead ++ reverse hs) ≡ hs ++ reverse ahead
turned_behind ahead hs = reverse-append ahead (reverse hs) ∙ ap (λ front. front ++ reverse ahead) (reverse-reverse hs)

pub turned_last : (ahead : List Hypothesis) (last : Hypothesis) → reverse (ahead ++ last ∷ []) ≡ last ∷ reverse ahead
turned_last ahead last = reverse-append ahead (last ∷ [])
