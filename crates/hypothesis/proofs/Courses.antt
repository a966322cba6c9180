-- How a skeleton is followed from the opening to the end of an exchange.
use Rattle.std.proofs.Common.{◌≡◌, ℕ, ◌+◌, ◌<◌, List, [], ◌∷◌, ◌++◌, length, take, drop, get_or, replicate, suc, Option, refl, sym, ap, ◌∙◌, subst, append-nil, arith}
use Rattle.std.proofs.lemmas.List.{get_or-replicate, take_more, take-append-drop}
use Rattle.std.proofs.Math.Seq.{drop-cons}
use Rattle.std.specs.Option.{IsSomeAnd}
use Rattle.spec_model.specs.declared.event.ClientEvent.{ClientEvent}
use Rattle.spec_model.specs.declared.event.Mark.{Mark}
use Rattle.spec_model.specs.declared.event.ServerEvent.{ServerEvent}
use Rattle.spec_model.specs.Alike.{RunWith, SkeletonExplains}
use Rattle.spec_model.specs.Layout.{LaysOutLate, empty}
use Rattle.spec_model.specs.Least.{IsKeptSkeleton}
use Rattle.spec_model.specs.Run.{IsRun}
use Rattle.spec_model.proofs.KeptRuns.{kept_of_nothing}
use Rattle.spec_model.proofs.LegalWorlds.{IsLegal-nil}
use Rattle.dual_tree.specs.Dual.{DualFields}
use Rattle.hypothesis.specs.declared.along.Way.{Way}
use Rattle.hypothesis.specs.Along.{FollowsOn, GoesAlong, IsAt}
use Rattle.hypothesis.specs.Expansions.{HoldsSends}
use Rattle.hypothesis.specs.Judged.{PicksNothing}
use Rattle.hypothesis.specs.Stands.{StandsFor}
use Rattle.hypothesis.proofs.Opening.{no_marks}
use Rattle.hypothesis.proofs.ReachedReceipts.{all_made}

-- an inbox in which nothing was put holds what was sent before any event
pub holds_nothing : (conns : ℕ) → HoldsSends [] conns (replicate conns [])
holds_nothing conns conn below = get_or-replicate conns conn [] [] below

-- Nothing is laid out before any event.
lays_nothing : (dual : DualFields) (events : List ServerEvent) → RunWith dual.spec [] [] events → LaysOutLate [] [] events
lays_nothing dual events run =
    subst (LaysOutLate [] []) (sym (no_marks events run.has))
    (record { one_each = refl; all = refl; arranged = record { legal = IsLegal-nil; clients = refl; server = refl }; late = empty })

-- The server that has not moved made no mark.
pub at_opening : (dual : DualFields) (skeleton : List Mark) (way : Way) → way.made ≡ 0 → way.along.blocks.items ≡ [] → StandsFor dual [] [] way.along.end
    → IsAt dual [] skeleton way
at_opening dual skeleton way none_made no_blocks stands =
    record {
      within = omega (arith, none_made);
      kept = subst (IsKeptSkeleton dual.spec []) (sym front_is) (record { events = []; has = refl; kept = record { kept = (kept_of_nothing []).1 refl; run = opens stands.explains } });
      goes = subst (λ made. GoesAlong dual [] made way.along) (sym front_is) (record { stands = stands; late = late });
    }
  where
    front_is : take way.made skeleton ≡ []
    front_is = ap (λ number. take number skeleton) none_made

    opens : SkeletonExplains dual.spec [] [] → IsRun dual.spec []
    opens (events, run) = subst (IsRun dual.spec) (no_marks events run.has) run.explains.run

    late : (events : List ServerEvent) → RunWith dual.spec [] [] events → LaysOutLate [] way.along.blocks.items events
    late events run = subst (λ counts. LaysOutLate [] counts events) (sym no_blocks) (lays_nothing dual events run)

module _ (dual : DualFields) (exchange : List ClientEvent) (skeleton : List Mark) (kept : IsKeptSkeleton dual.spec exchange skeleton) where
  -- The skeleton is followed along the events up to the next one, where it was along those before.
  pub one_event_on : (place : ℕ) (event : ClientEvent) → place < length exchange → event ≡ get_or exchange place event
      → (inbox new_inbox : List (List (List ℕ))) (way : Way) (next : Option Way) → FollowsOn dual skeleton event inbox new_inbox way next → PicksNothing dual.spec
      → HoldsSends (take place exchange) dual.shape.conns inbox → IsAt dual (take place exchange) skeleton way
      → HoldsSends (take (place + 1) exchange) dual.shape.conns new_inbox × IsSomeAnd next (IsAt dual (take (place + 1) exchange) skeleton)
  one_event_on place event within is inbox new_inbox way next follows picks_nothing holds at =
      subst (λ longer. HoldsSends longer dual.shape.conns new_inbox × IsSomeAnd next (IsAt dual longer skeleton)) (sym longer_is)
      (follows (take place exchange) (drop (suc place) exchange) picks_nothing holds at (subst (λ whole. IsKeptSkeleton dual.spec whole skeleton) whole_is kept))
    where
      longer_is : take (place + 1) exchange ≡ take place exchange ++ event ∷ []
      longer_is = take_more exchange place event within ∙ ap (λ one. take place exchange ++ one ∷ []) (sym is)

      whole_is : exchange ≡ take place exchange ++ event ∷ drop (suc place) exchange
      whole_is =
          sym (take-append-drop place exchange)
          ∙ ap (λ rest. take place exchange ++ rest) (drop-cons exchange place event within ∙ ap (λ one. one ∷ drop (suc place) exchange) (sym is))

  -- At the end of the exchange all marks were made.
  pub goes_along : (way : Way) → IsAt dual exchange skeleton way → GoesAlong dual exchange skeleton way.along
  goes_along way at = subst (λ made. GoesAlong dual exchange made way.along) all at.goes
    where
      none_left : drop way.made skeleton ≡ []
      none_left =
          all_made dual.spec exchange (take way.made skeleton) (drop way.made skeleton) at.kept
          (subst (IsKeptSkeleton dual.spec exchange) (sym (take-append-drop way.made skeleton)) kept)

      all : take way.made skeleton ≡ skeleton
      all = sym (append-nil (take way.made skeleton)) ∙ ap (λ rest. take way.made skeleton ++ rest) (sym none_left) ∙ take-append-drop way.made skeleton
