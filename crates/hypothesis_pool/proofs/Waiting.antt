-- What hypotheses stand for before any event, where a client sends, and where nothing is left.
use Rattle.std.proofs.Common.{◌≡◌, ℕ, ◌<◌, inl, All, List, [], ◌∷◌, ◌++◌, None, length, option_to_list, refl, sym, ◌∙◌, ap, subst, arith}
use Rattle.std.proofs.lemmas.List.Elements.{All-cons, All-head, All-nil, All-weaker}
use Rattle.std.proofs.lemmas.List.Kept.{AllPairs-cons}
use Rattle.spec_model.specs.declared.event.ClientEvent.{ClientEvent}
use Rattle.spec_model.specs.declared.event.ClientEvent.TheVariants as clients
use Rattle.spec_model.specs.declared.event.Mark.{Mark}
use Rattle.spec_model.specs.declared.event.WorldEvent.{WorldEvent}
use Rattle.spec_model.specs.declared.tree.Spec.{Spec}
use Rattle.spec_model.specs.Alike.{RunWith}
use Rattle.spec_model.specs.Least.{IsKeptSkeleton}
use Rattle.spec_model.specs.Run.{IsRun}
use Rattle.spec_model.specs.Skeleton.{Precedes, skeleton_of}
use Rattle.spec_model.specs.World.{Explains, IsExplained, server_of}
use Rattle.spec_model.proofs.KeptRuns.{kept_after_send, kept_of_nothing, none_kept_after_garbles}
use Rattle.dual_tree.specs.Dual.{DualFields, IsDual}
use Rattle.trail_store.specs.Path.{path_at}
use Rattle.hypothesis.specs.declared.hypothesis.Hypothesis.{Hypothesis}
use Rattle.hypothesis.specs.Left.{IsAlike}
use Rattle.hypothesis.specs.Stands.{StandsFor}
use Rattle.hypothesis.proofs.AlikeSkeletons.{skeletons_wait, stands_waits}
use Rattle.hypothesis_pool.specs.Standing.{StandForAll, Stands, StandsIn, skeleton_in, skeletons_in}
use Rattle.hypothesis_pool.proofs.Covering.{alike_itself}
use Rattle.hypothesis_pool.proofs.Lists.{AllPairs-none, Any-head, Any-none}
use Rattle.hypothesis_pool.proofs.ShortSkeletons.{begins_short, kept_explains, kept_from_short}
use Rattle.hypothesis_pool.proofs.UnderWay.{some_with_all}

-- What is kept explains the exchange, and where the exchange is explained something is kept.
pub kept_is_explanation : (spec : Spec) (exchange : List ClientEvent) (skeleton : List Mark) → IsKeptSkeleton spec exchange skeleton → IsExplained spec exchange
kept_is_explanation spec exchange skeleton known =
    let arranged = known.kept.kept.arranged in (
      known.kept.kept.world,
      record { legal = arranged.legal; clients = arranged.clients; run = subst (IsRun spec) (sym arranged.server) known.kept.run },
    )

run_of_world : (spec : Spec) (exchange : List ClientEvent) (world : List WorldEvent) → Explains spec world exchange
    → RunWith spec exchange (skeleton_of (server_of world)) (server_of world)
run_of_world spec exchange world explains = record {
  has = refl;
  explains = record { run = explains.run; world = world; arranged = record { legal = explains.legal; clients = explains.clients; server = refl } };
}

pub none_explains : (dual : DualFields) (exchange : List ClientEvent) (paths : List (List Mark)) → StandForAll dual exchange paths [] → ¬ IsExplained dual.spec exchange
none_explains dual exchange paths stand (world, explains) =
    let run = run_of_world dual.spec exchange world explains in
    let (front, more, whole, kept) = begins_short dual.spec exchange (skeleton_of (server_of world)) (server_of world, run) in
    Any-none (λ other. StandsIn dual.spec exchange other front) (stand.all front kept)

-- The first hypothesis explains the exchange.
pub some_explains : (dual : DualFields) (exchange : List ClientEvent) (paths : List (List Mark)) (hs : List Hypothesis) → StandForAll dual exchange paths hs → 0 < length hs
    → IsExplained dual.spec exchange
some_explains dual exchange paths [] stand some = absurd (omega (arith, some))
some_explains dual exchange paths (h ∷ hs) stand some =
    kept_is_explanation dual.spec exchange (skeleton_in paths h)
    (All-head (IsKeptSkeleton dual.spec exchange) (skeleton_in paths h) (skeletons_in paths hs) stand.kept)

-- Garbled bytes explain nothing.
pub garbles_unexplained : (spec : Spec) (exchange : List ClientEvent) (conn : ℕ) → ¬ IsExplained spec (exchange ++ clients.Garbles conn ∷ [])
garbles_unexplained spec exchange conn (world, explains) =
    let run = run_of_world spec (exchange ++ clients.Garbles conn ∷ []) world explains in
    let (front, more, whole, kept) = begins_short spec (exchange ++ clients.Garbles conn ∷ []) (skeleton_of (server_of world)) (server_of world, run) in
    none_kept_after_garbles exchange conn kept.events kept.kept.kept

-- Before any event the empty skeleton is kept, and no other.
module _ (dual : DualFields) (is_dual : IsDual dual) where
  pub at_first : (h : Hypothesis) → StandsFor dual [] [] h → h.step ≡ 0 → h.mark ≡ None → StandForAll dual [] ([] ∷ []) (h ∷ [])
  at_first h stands step mark = record {
    each = All-cons (Stands dual [] ([] ∷ [])) h []
        (record { within = subst (λ step. step < 1) (sym step) (omega arith); stands = subst (λ skeleton. StandsFor dual [] skeleton h) (sym empty) stands })
        (All-nil (Stands dual [] ([] ∷ [])));
    noted = All-cons (λ (h : Hypothesis). h.mark ≡ None) h [] mark (All-nil (λ (h : Hypothesis). h.mark ≡ None));
    kept = subst (λ skeleton. All (IsKeptSkeleton dual.spec []) (skeleton ∷ [])) (sym empty)
        (All-cons (IsKeptSkeleton dual.spec []) [] [] (kept_from_short dual.spec [] [] stands.explains (inl refl)) (All-nil (IsKeptSkeleton dual.spec [])));
    ordered = AllPairs-cons Precedes (skeleton_in ([] ∷ []) h) [] (All-nil (Precedes (skeleton_in ([] ∷ []) h))) (AllPairs-none Precedes);
    apart = AllPairs-cons (λ h other. ¬ IsAlike h other) h [] (All-nil (λ other. ¬ IsAlike h other)) (AllPairs-none (λ h other. ¬ IsAlike h other));
    all = λ skeleton kept. Any-head (λ other. StandsIn dual.spec [] other skeleton) (skeleton_in ([] ∷ []) h) [] (only skeleton kept);
  }
    where
      empty : skeleton_in ([] ∷ []) h ≡ []
      empty = ap (λ step. path_at ([] ∷ []) step ++ option_to_list h.mark) step ∙ ap (λ mark. option_to_list mark) mark

      only : (skeleton : List Mark) → IsKeptSkeleton dual.spec [] skeleton → StandsIn dual.spec [] (skeleton_in ([] ∷ []) h) skeleton
      only skeleton kept =
          let none : skeleton ≡ [] = sym kept.has ∙ ap skeleton_of ((kept_of_nothing kept.events).0 kept.kept.kept) in
          let itself : StandsIn dual.spec [] [] [] = record { alike = alike_itself dual.spec [] []; order = inl refl } in
          subst (StandsIn dual.spec [] (skeleton_in ([] ∷ []) h)) (sym none) (subst (λ first. StandsIn dual.spec [] first []) (sym empty) itself)

  -- Where a client sends, hypotheses wait.
  module _ (fed : List ClientEvent) (conn : ℕ) (message : List ℕ) where
    abbrev sends : ClientEvent
    sends = clients.Sends conn message

    kept_still : (skeleton : List Mark) → IsKeptSkeleton dual.spec fed skeleton → IsKeptSkeleton dual.spec (fed ++ sends ∷ []) skeleton
    kept_still skeleton known = record {
      events = known.events;
      has = known.has;
      kept = record { kept = (kept_after_send fed conn message known.events).1 known.kept.kept; run = known.kept.run };
    }

    kept_before : (skeleton : List Mark) → IsKeptSkeleton dual.spec (fed ++ sends ∷ []) skeleton → IsKeptSkeleton dual.spec fed skeleton
    kept_before skeleton known = record {
      events = known.events;
      has = known.has;
      kept = record { kept = (kept_after_send fed conn message known.events).0 known.kept.kept; run = known.kept.run };
    }

    stands_still : (paths : List (List Mark)) (h : Hypothesis) → Stands dual fed paths h → Stands dual (fed ++ sends ∷ []) paths h
    stands_still paths h stands = record { within = stands.within; stands = stands_waits dual is_dual fed conn message (skeleton_in paths h) h stands.stands }

    stands_in_still : (other skeleton : List Mark) → StandsIn dual.spec fed other skeleton → IsKeptSkeleton dual.spec fed other → StandsIn dual.spec (fed ++ sends ∷ []) other skeleton
    stands_in_still other skeleton stands_in kept = record {
      alike = (skeletons_wait dual is_dual fed conn message other skeleton (kept_explains dual.spec fed other kept) stands_in.alike).1;
      order = stands_in.order;
    }

    pub after_send : (paths : List (List Mark)) (hs : List Hypothesis) → StandForAll dual fed paths hs → StandForAll dual (fed ++ sends ∷ []) paths hs
    after_send paths hs stand = record {
      each = All-weaker (Stands dual fed paths) (Stands dual (fed ++ sends ∷ []) paths) (stands_still paths) hs stand.each;
      noted = stand.noted;
      kept = All-weaker (IsKeptSkeleton dual.spec fed) (IsKeptSkeleton dual.spec (fed ++ sends ∷ [])) kept_still (skeletons_in paths hs) stand.kept;
      ordered = stand.ordered;
      apart = stand.apart;
      all = λ skeleton kept.
          some_with_all (λ other. StandsIn dual.spec fed other skeleton) (IsKeptSkeleton dual.spec fed) (λ other. StandsIn dual.spec (fed ++ sends ∷ []) other skeleton)
          (skeletons_in paths hs) (λ other. stands_in_still other skeleton) (stand.all skeleton (kept_before skeleton kept)) stand.kept;
    }
