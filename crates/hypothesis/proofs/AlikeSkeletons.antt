-- Alike skeletons go on alike, and are told by what hypotheses show.
use Rattle.std.proofs.Common.{◌≡◌, ◌↔◌, ℕ, List, [], ◌∷◌, ◌++◌, refl, sym, ◌∙◌, ap, subst}
use Rattle.std.proofs.lemmas.List.{map-append}
use Rattle.spec_model.specs.declared.config.Config.{Config}
use Rattle.spec_model.specs.declared.event.ClientEvent.{ClientEvent}
use Rattle.spec_model.specs.declared.event.ClientEvent.TheVariants as clients
use Rattle.spec_model.specs.declared.event.Mark.{Mark}
use Rattle.spec_model.specs.declared.event.ServerEvent.{ServerEvent}
use Rattle.spec_model.specs.Alike.{AreAlike, Leaves, RunWith, SkeletonExplains}
use Rattle.spec_model.specs.Layout.{RunExplains}
use Rattle.spec_model.specs.Remainder.{Remainder, remainder_of}
use Rattle.spec_model.specs.Run.{RunsTo}
use Rattle.spec_model.specs.Skeleton.{mark_of, sends_in, skeleton_of}
use Rattle.spec_model.proofs.Skeletons.{run_before_receipt, run_with_front, run_with_sends, sends_counted}
use Rattle.itree_data.specs.Marks.{IsTree}
use Rattle.itree_data.specs.Standing.{Standing}
use Rattle.dual_tree.specs.Dual.{DualFields, tree_of}
use Rattle.hypothesis.specs.declared.hypothesis.Hypothesis.{Hypothesis}
use Rattle.hypothesis.specs.Left.{IsAlike, left_of}
use Rattle.hypothesis.specs.Received.{with_receipt}
use Rattle.hypothesis.specs.Stands.{StandsFor}
use Rattle.hypothesis.proofs.Alike.{alike_counts, alike_moves, alike_receives, explains_send}
use Rattle.hypothesis.proofs.SameToDo.{alike_from_remainder, same_remainder, same_remainders}
use Rattle.hypothesis.proofs.Shown.{EndAlike, alike_from_left, left_from_alike, same_left, shows_at, stands_shows}
use Rattle.hypothesis.proofs.Unreceived.{unreceived-client_send}

-- Where a client sends, what is left stays.
remainder_with_send : (exchange : List ClientEvent) (conn : ℕ) (message : List ℕ) (c : Config)
    → remainder_of (exchange ++ clients.Sends conn message ∷ []) c ≡ remainder_of exchange c
remainder_with_send exchange conn message c =
    same_remainders (remainder_of (exchange ++ clients.Sends conn message ∷ []) c) (remainder_of exchange c) refl refl refl refl refl
    (unreceived-client_send exchange conn message 0 c.sent)

left_with_send : (exchange : List ClientEvent) (conn : ℕ) (message : List ℕ) (t : Standing) → left_of (exchange ++ clients.Sends conn message ∷ []) t ≡ left_of exchange t
left_with_send exchange conn message t =
    same_left (left_of (exchange ++ clients.Sends conn message ∷ []) t) (left_of exchange t) refl refl refl refl refl refl
    (unreceived-client_send exchange conn message 0 t.sent)

module _ (dual : DualFields) (tree : IsTree (tree_of dual)) (exchange : List ClientEvent) where
  -- where a run that explains the exchange ends, some remainder is left
  abbrev leaves_some : (skeleton : List Mark) (events : List ServerEvent) (run : RunWith dual.spec exchange skeleton events)
      → Leaves dual.spec exchange skeleton (remainder_of exchange run.explains.run.0)
  leaves_some skeleton events run = record { events = events; run = run; end = run.explains.run.0; ends = run.explains.run.1; leaves = refl }

  -- Runs with two skeletons that leave the same end alike.
  both_end_alike : (skeleton other : List Mark) (remainder : Remainder) (one : Leaves dual.spec exchange skeleton remainder) (another : Leaves dual.spec exchange other remainder)
      → EndAlike dual exchange one.events another.events
  both_end_alike skeleton other remainder one another =
      alike_from_remainder dual tree exchange one.events another.events one.end another.end one.ends another.ends (one.leaves ∙ sym another.leaves)

  -- Of a run that explains the exchange and ends alike as one of which something is left, the same is left.
  leaves_alike : (exchange : List ClientEvent) (other : List Mark) (events others : List ServerEvent) (end : Config) → RunsTo dual.spec events end
      → RunWith dual.spec exchange other others → EndAlike dual exchange events others → Leaves dual.spec exchange other (remainder_of exchange end)
  leaves_alike exchange other events others end ends run alike = record {
    events = others;
    run = run;
    end = run.explains.run.0;
    ends = run.explains.run.1;
    leaves = sym (same_remainder dual tree exchange events others end run.explains.run.0 ends run.explains.run.1 alike);
  }

  -- What explains the exchange and is alike explains it too.
  also_explains : (skeleton other : List Mark) → SkeletonExplains dual.spec exchange skeleton → AreAlike dual.spec exchange skeleton other → SkeletonExplains dual.spec exchange other
  also_explains skeleton other (events, run) alike = let leaves = (alike _).0 (leaves_some skeleton events run) in (leaves.events, leaves.run)

  alike_back : (skeleton other : List Mark) → AreAlike dual.spec exchange skeleton other → AreAlike dual.spec exchange other skeleton
  alike_back skeleton other alike = λ remainder. ((alike remainder).1, (alike remainder).0)

  -- What may follow a skeleton may follow one that is alike.
  follows : (skeleton other more : List Mark) (remainder : Remainder) → SkeletonExplains dual.spec exchange skeleton → AreAlike dual.spec exchange skeleton other
      → Leaves dual.spec exchange (skeleton ++ more) remainder → Leaves dual.spec exchange (other ++ more) remainder
  follows skeleton other more remainder explains alike whole =
      let fronted = run_with_front dual.spec exchange skeleton more whole.events whole.run explains in
      let one = leaves_some skeleton fronted.front fronted.run in
      let another = (alike _).0 one in
      let ends : RunsTo dual.spec (fronted.front ++ fronted.back) whole.end = subst (λ events. RunsTo dual.spec events whole.end) fronted.whole whole.ends in
      let goes_on : RunExplains dual.spec exchange (fronted.front ++ fronted.back) = subst (RunExplains dual.spec exchange) fronted.whole whole.run.explains in
      let moved = alike_moves dual tree exchange fronted.front another.events fronted.back fronted.run.explains another.run.explains
      (both_end_alike skeleton other _ one another) goes_on in
      let has : skeleton_of (another.events ++ fronted.back) ≡ other ++ more
      = map-append mark_of another.events fronted.back ∙ ap (λ front. front ++ skeleton_of fronted.back) another.run.has ∙ ap (λ back. other ++ back) fronted.rest in
      subst (Leaves dual.spec exchange (other ++ more)) whole.leaves
      (leaves_alike exchange (other ++ more) (fronted.front ++ fronted.back) (another.events ++ fronted.back) whole.end ends (record { has = has; explains = moved.0 }) moved.1)

  pub skeletons_move : (skeleton other more : List Mark) → SkeletonExplains dual.spec exchange skeleton → AreAlike dual.spec exchange skeleton other
      → SkeletonExplains dual.spec exchange (skeleton ++ more)
      → SkeletonExplains dual.spec exchange (other ++ more) × AreAlike dual.spec exchange (skeleton ++ more) (other ++ more)
  skeletons_move skeleton other more explains alike (events, run) =
      let also = also_explains skeleton other explains alike in
      let forth = follows skeleton other more _ explains alike (leaves_some (skeleton ++ more) events run) in (
        (forth.events, forth.run),
        λ remainder. (follows skeleton other more remainder explains alike, follows other skeleton more remainder also (alike_back skeleton other alike)),
      )

  -- Where a client sends, the runs of a skeleton that explain the exchange stay those that do.
  same_runs : (conn : ℕ) (message : List ℕ) (skeleton : List Mark) (events : List ServerEvent) → SkeletonExplains dual.spec exchange skeleton
      → RunWith dual.spec (exchange ++ clients.Sends conn message ∷ []) skeleton events ↔ RunWith dual.spec exchange skeleton events
  same_runs conn message skeleton events explains = (
    run_with_sends dual.spec exchange conn message skeleton events explains,
    λ run. record { has = run.has; explains = explains_send dual.spec exchange events conn message run.explains },
  )

  leaves_with_send : (conn : ℕ) (message : List ℕ) (skeleton : List Mark) (remainder : Remainder) → SkeletonExplains dual.spec exchange skeleton
      → Leaves dual.spec (exchange ++ clients.Sends conn message ∷ []) skeleton remainder ↔ Leaves dual.spec exchange skeleton remainder
  leaves_with_send conn message skeleton remainder explains = (
    λ leaves. record {
      events = leaves.events;
      run = (same_runs conn message skeleton leaves.events explains).0 leaves.run;
      end = leaves.end;
      ends = leaves.ends;
      leaves = sym (remainder_with_send exchange conn message leaves.end) ∙ leaves.leaves;
    },
    λ leaves. record {
      events = leaves.events;
      run = (same_runs conn message skeleton leaves.events explains).1 leaves.run;
      end = leaves.end;
      ends = leaves.ends;
      leaves = remainder_with_send exchange conn message leaves.end ∙ leaves.leaves;
    },
  )

  pub skeletons_wait : (conn : ℕ) (message : List ℕ) (skeleton other : List Mark) → SkeletonExplains dual.spec exchange skeleton → AreAlike dual.spec exchange skeleton other
      → SkeletonExplains dual.spec (exchange ++ clients.Sends conn message ∷ []) other × AreAlike dual.spec (exchange ++ clients.Sends conn message ∷ []) skeleton other
  skeletons_wait conn message skeleton other explains alike =
      let also = also_explains skeleton other explains alike in
      let (others, run) = also in
      let here = λ (remainder : Remainder). leaves_with_send conn message skeleton remainder explains in
      let there = λ (remainder : Remainder). leaves_with_send conn message other remainder also in (
        (others, (same_runs conn message other others also).1 run),
        λ remainder. (
          λ leaves. (there remainder).1 ((alike remainder).0 ((here remainder).0 leaves)),
          λ leaves. (here remainder).1 ((alike remainder).1 ((there remainder).0 leaves)),
        ),
      )

  receives_alike : (conn : ℕ) (message : List ℕ) (skeleton other : List Mark) (remainder : Remainder) → AreAlike dual.spec exchange skeleton other
      → Leaves dual.spec (with_receipt exchange conn message) skeleton remainder → Leaves dual.spec (with_receipt exchange conn message) other remainder
  receives_alike conn message skeleton other remainder alike leaves =
      let run = run_before_receipt dual.spec exchange conn message skeleton leaves.events leaves.run in
      let one = leaves_some skeleton leaves.events run in
      let another = (alike _).0 one in
      let received = alike_receives dual tree exchange conn message leaves.events another.events run.explains another.run.explains
      (both_end_alike skeleton other _ one another) leaves.run.explains in
      subst (Leaves dual.spec (with_receipt exchange conn message) other) leaves.leaves
      (leaves_alike (with_receipt exchange conn message) other leaves.events another.events leaves.end leaves.ends (record { has = another.run.has; explains = received.0 }) received.1)

  pub skeletons_receive : (conn : ℕ) (message : List ℕ) (skeleton other : List Mark) → AreAlike dual.spec exchange skeleton other
      → SkeletonExplains dual.spec (with_receipt exchange conn message) skeleton
      → SkeletonExplains dual.spec (with_receipt exchange conn message) other × AreAlike dual.spec (with_receipt exchange conn message) skeleton other
  skeletons_receive conn message skeleton other alike (events, run) =
      let end = run.explains.run in
      let first = receives_alike conn message skeleton other (remainder_of (with_receipt exchange conn message) end.0) alike
      (record { events = events; run = run; end = end.0; ends = end.1; leaves = refl }) in (
        (first.events, first.run),
        λ remainder. (receives_alike conn message skeleton other remainder alike, receives_alike conn message other skeleton remainder (alike_back skeleton other alike)),
      )

  pub skeletons_count : (skeleton other : List Mark) → SkeletonExplains dual.spec exchange skeleton → AreAlike dual.spec exchange skeleton other
      → (conn : ℕ) → sends_in conn skeleton ≡ sends_in conn other
  skeletons_count skeleton other (events, run) alike conn =
      let one = leaves_some skeleton events run in
      let another = (alike _).0 one in
      let same = alike_counts dual tree exchange conn events another.events run.explains another.run.explains (both_end_alike skeleton other _ one another) in
      ap (sends_in conn) (sym run.has) ∙ sends_counted conn events ∙ same ∙ sym (sends_counted conn another.events) ∙ ap (sends_in conn) another.run.has

  -- Where hypotheses show the same, what runs with the one skeleton leave is left by a run with the other.
  leaves_as_shown : (h g : Hypothesis) (skeleton other : List Mark) → StandsFor dual exchange skeleton h → StandsFor dual exchange other g → IsAlike h g
      → (remainder : Remainder) → Leaves dual.spec exchange skeleton remainder → Leaves dual.spec exchange other remainder
  leaves_as_shown h g skeleton other stands other_stands alike remainder leaves =
      let (others, other_run) = other_stands.explains in
      let one = stands_shows dual tree exchange skeleton h leaves.events stands leaves.run in
      let another = stands_shows dual tree exchange other g others other_stands other_run in
      let ended : EndAlike dual exchange leaves.events others
      = record {
        end = one.end;
        other_end = another.end;
        ends = one.ends;
        other_ends = another.ends;
        same = left_from_alike exchange one.end another.end h g one.shows another.shows alike;
      } in
      subst (Leaves dual.spec exchange other) leaves.leaves (leaves_alike exchange other leaves.events others leaves.end leaves.ends other_run ended)

  -- Hypotheses are alike exactly where their skeletons are.
  module _ (h g : Hypothesis) (skeleton other : List Mark) (stands : StandsFor dual exchange skeleton h) (other_stands : StandsFor dual exchange other g) where
    pub skeletons_alike : IsAlike h g → AreAlike dual.spec exchange skeleton other
    skeletons_alike alike =
        λ remainder. (
          leaves_as_shown h g skeleton other stands other_stands alike remainder,
          leaves_as_shown g h other skeleton other_stands stands (record { state = sym alike.state; taken = sym alike.taken }) remainder,
        )

    pub alike_skeletons : AreAlike dual.spec exchange skeleton other → IsAlike h g
    alike_skeletons alike =
        let (events, run) = stands.explains in
        let one = leaves_some skeleton events run in
        let another = (alike _).0 one in
        let ended = both_end_alike skeleton other _ one another in
        alike_from_left exchange ended.end ended.other_end h g
        (shows_at dual tree exchange h events ended.end (stands_shows dual tree exchange skeleton h events stands run) ended.ends)
        (shows_at dual tree exchange g another.events ended.other_end (stands_shows dual tree exchange other g another.events other_stands another.run) ended.other_ends)
        ended.same

  -- A hypothesis stands for its skeleton where a client sent more.
  pub stands_waits : (conn : ℕ) (message : List ℕ) (skeleton : List Mark) (h : Hypothesis) → StandsFor dual exchange skeleton h
      → StandsFor dual (exchange ++ clients.Sends conn message ∷ []) skeleton h
  stands_waits conn message skeleton h stands = record {
    explains = let (events, run) = stands.explains in (events, (same events).1 run);
    solved = λ events run. stands.solved events ((same events).0 run);
    picked = λ texts solution. let (events, run, picks) = stands.picked texts solution in (events, (same events).1 run, picks);
    shows = λ events end run ends. left_with_send exchange conn message end ∙ stands.shows events end ((same events).0 run) ends;
    asked = stands.asked;
  }
    where
      same : (events : List ServerEvent) → RunWith dual.spec (exchange ++ clients.Sends conn message ∷ []) skeleton events ↔ RunWith dual.spec exchange skeleton events
      same events = same_runs conn message skeleton events stands.explains
