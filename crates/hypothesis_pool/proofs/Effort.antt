-- A search ends: what may still be done falls with every mark.
use Rattle.std.proofs.Common.{◌≡◌, ℕ, zero, suc, ◌+◌, ◌-◌, ◌*◌, ◌<◌, ◌≤◌, ◌⊎◌, inl, inr, List, [], ◌∷◌, ◌++◌, length, map, slice_index_or, refl, sym, ◌∙◌, ap, subst, arith, append_assoc, append-nil}
use Rattle.std.proofs.lemmas.Bool.{cases_lt}
use Rattle.std.proofs.lemmas.List.{length_push}
use Rattle.std.proofs.Math.Nat.{mul-le-mul_right}
use Rattle.spec_model.specs.declared.event.ClientEvent.{ClientEvent}
use Rattle.spec_model.specs.declared.event.Mark.{Mark}
use Rattle.spec_model.specs.declared.event.ServerEvent.{ServerEvent}
use Rattle.spec_model.specs.declared.event.ServerEvent.TheVariants as servers
use Rattle.spec_model.specs.Alike.{RunWith}
use Rattle.spec_model.specs.Skeleton.{picks_of, skeleton_of}
use Rattle.spec_model.specs.World.{IsPrefixOf, client_sends, server_takes, taken_by_server}
use Rattle.spec_model.proofs.KeptRuns.{Arranges-takes}
use Rattle.spec_model.proofs.PassedMessages.{server_takes-push_same}
use Rattle.spec_model.proofs.Prefix.{IsPrefixOf-append, IsPrefixOf-filter_map, IsPrefixOf-trans, length-IsPrefixOf}
use Rattle.spec_model.proofs.Skeletons.{InParts, run_with_front}
use Rattle.spec_rules.specs.Accepted.{IsAccepted}
use Rattle.spec_rules.proofs.Standing.{begins}
use Rattle.itree_data.specs.Run.{TreeRunsTo, TreeStep, TreeSteps}
use Rattle.itree_data.specs.Standing.{Standing}
use Rattle.dual_tree.specs.Dual.{DualFields, IsDual, tree_of}
use Rattle.hypothesis.specs.declared.hypothesis.Hypothesis.{Hypothesis}
use Rattle.hypothesis.specs.Left.{IsAlike, Left, left_of, shown_by}
use Rattle.hypothesis.specs.Stands.{StandsFor}
use Rattle.hypothesis.proofs.Passing.{Passed, run_passed, step_takes, tree_runs_join, tree_runs_split}
use Rattle.hypothesis.proofs.Shown.{run_ends}
use Rattle.hypothesis_pool.proofs.Work.{Progress, most_work, place_work, step_progress, takes, work, works}

-- Of two numbers the first counts for more than all of the second.
first_falls : (most before after to_do : ℕ) → after + 1 ≤ before → to_do ≤ most → after * (most + 1) + to_do < before * (most + 1)
first_falls most before after to_do less within =
    let grown : (after + 1) * (most + 1) ≤ before * (most + 1) = mul-le-mul_right (most + 1) less in
    let split : (after + 1) * (most + 1) ≡ after * (most + 1) + (most + 1) = omega arith in
    omega (arith, grown, split, within)

second_falls : (most before after to_do_before to_do : ℕ) → after ≤ before → to_do < to_do_before
    → after * (most + 1) + to_do < before * (most + 1) + to_do_before
second_falls most before after to_do_before to_do no_more less =
    let grown : after * (most + 1) ≤ before * (most + 1) = mul-le-mul_right (most + 1) no_more in omega (arith, grown, less)

-- the length of the list at a place, from the list of the lengths
length_at : (lists : List (List (List ℕ))) (place : ℕ) → slice_index_or (map length lists) place 0 ≡ length (slice_index_or lists place [])
length_at [] place = refl
length_at (list ∷ lists) zero = refl
length_at (list ∷ lists) (suc place) = length_at lists place

module _ (dual : DualFields) (fed : List ClientEvent) where
  -- how many messages of a connection the server may still take, where it took so many of each, and how many of the first so many
  -- connections
  abbrev left_on : (ℕ → ℕ) → ℕ → ℕ
  left_on taken conn = length (client_sends conn fed) - taken conn

  abbrev left_below : (ℕ → ℕ) → ℕ → ℕ
  left_below taken zero = 0
  left_below taken (suc conn) = left_below taken conn + left_on taken conn

  -- What the server may still do: for each message that it may take all that may be to do behind it, and what is to do before.
  abbrev left_to_do : (ℕ → ℕ) → ℕ → ℕ
  left_to_do taken before = left_below taken dual.shape.conns * (most_work (tree_of dual) + 1) + before

  -- what it may still do where a hypothesis stands
  abbrev pub effort : Hypothesis → ℕ
  effort h = left_to_do (λ conn. slice_index_or h.taken conn 0) (place_work (tree_of dual) h.state.node h.state.compared)

  -- what it may still do behind a run
  abbrev takes_of : List ServerEvent → ℕ → ℕ
  takes_of run conn = length (server_takes conn run)

  abbrev left_behind : List ServerEvent → Standing → ℕ
  left_behind run t = left_to_do (takes_of run) (work (tree_of dual) t)

  -- Alike hypotheses may still do as much.
  pub alike_effort : (h g : Hypothesis) → IsAlike h g → effort h ≡ effort g
  alike_effort h g alike =
      ap (λ (taken : List ℕ). left_to_do (λ conn. slice_index_or taken conn 0) (place_work (tree_of dual) h.state.node h.state.compared)) alike.taken
      ∙ ap (λ state. effort (record g { state = state })) alike.state

  same_below : (taken other : ℕ → ℕ) (count : ℕ) → ((conn : ℕ) → taken conn ≡ other conn) → left_below taken count ≡ left_below other count
  same_below taken other zero same = refl
  same_below taken other (suc conn) same =
      ap (λ n. n + left_on taken conn) (same_below taken other conn same) ∙ ap (λ n. left_below other conn + (length (client_sends conn fed) - n)) (same conn)

  left_no_more : (run : List ServerEvent) (event : ServerEvent) (conn : ℕ) → left_on (takes_of (run ++ event ∷ [])) conn ≤ left_on (takes_of run) conn
  left_no_more run event conn =
      let longer = length-IsPrefixOf _ _ (IsPrefixOf-filter_map (taken_by_server conn) run (run ++ event ∷ []) (event ∷ [], refl)) in omega (arith, longer)

  all_no_more : (run : List ServerEvent) (event : ServerEvent) (count : ℕ) → left_below (takes_of (run ++ event ∷ [])) count ≤ left_below (takes_of run) count
  all_no_more run event zero = omega arith
  all_no_more run event (suc conn) =
      let others = all_no_more run event conn in let one = left_no_more run event conn in omega (arith, others, one)

  -- a take of a message that was sent leaves one less on its connection
  one_taken : (run : List ServerEvent) (conn : ℕ) (message : List ℕ) → length (server_takes conn (run ++ servers.Take conn message ∷ [])) ≤ length (client_sends conn fed)
      → left_on (takes_of (run ++ servers.Take conn message ∷ [])) conn + 1 ≤ left_on (takes_of run) conn
  one_taken run conn message sent =
      let longer = ap length (server_takes-push_same conn run message) ∙ length_push (server_takes conn run) message in omega (arith, longer, sent)

  all_less : (run : List ServerEvent) (conn : ℕ) (message : List ℕ) (count : ℕ) → length (server_takes conn (run ++ servers.Take conn message ∷ [])) ≤ length (client_sends conn fed)
      → conn < count → left_below (takes_of (run ++ servers.Take conn message ∷ [])) count + 1 ≤ left_below (takes_of run) count
  all_less run conn message zero sent below = absurd (omega arith)
  all_less run conn message (suc last) sent below = by_case (λ earlier. all_less run conn message last sent earlier) (cases_lt conn last)
    where
      by_case : (conn < last → left_below (takes_of (run ++ servers.Take conn message ∷ [])) last + 1 ≤ left_below (takes_of run) last) → (conn < last) ⊎ (last ≤ conn)
          → left_below (takes_of (run ++ servers.Take conn message ∷ [])) (suc last) + 1 ≤ left_below (takes_of run) (suc last)
      by_case less_before (inl earlier) =
          let others = less_before earlier in
          let one = left_no_more run (servers.Take conn message) last in
          omega (arith, others, one)
      by_case less_before (inr past) =
          let same : conn ≡ last = omega (arith, past, below) in
          let others = all_no_more run (servers.Take conn message) last in
          let one : left_on (takes_of (run ++ servers.Take conn message ∷ [])) last + 1 ≤ left_on (takes_of run) last
          = subst (λ k. left_on (takes_of (run ++ servers.Take conn message ∷ [])) k + 1 ≤ left_on (takes_of run) k) same (one_taken run conn message sent) in
          omega (arith, others, one)

  -- All that was taken on each connection was sent first.
  abbrev IsSent : List ServerEvent → Type 0
  IsSent run = (conn : ℕ) → IsPrefixOf (server_takes conn run) (client_sends conn fed)

  sent_before : (run more : List ServerEvent) → IsSent (run ++ more) → IsSent run
  sent_before run more sent conn =
      IsPrefixOf-trans _ _ _ (IsPrefixOf-filter_map (taken_by_server conn) run (run ++ more) (IsPrefixOf-append run more)) (sent conn)

  module _ (is_dual : IsDual dual) (accepted : IsAccepted dual.spec) where
    -- A step leaves less to do, where what is taken was sent.
    step_falls : (run : List ServerEvent) (event : ServerEvent) (t u : Standing) → Passed (tree_of dual) run t → TreeStep (tree_of dual) t event u
        → IsSent (run ++ event ∷ []) → left_behind (run ++ event ∷ []) u < left_behind run t
    step_falls run event t u passed step sent =
        by_progress (step_progress (tree_of dual) is_dual.compiled (begins dual.spec accepted) t u event passed.few_pairs step)
      where
        by_progress : Progress (tree_of dual) is_dual.compiled t event u → left_behind (run ++ event ∷ []) u < left_behind run t
        by_progress (takes conn message is most) =
            let within = step_takes (tree_of dual) t u conn message (subst (λ event. TreeStep (tree_of dual) t event u) is step) in
            let was_sent = subst (λ event. length (server_takes conn (run ++ event ∷ [])) ≤ length (client_sends conn fed)) is (length-IsPrefixOf _ _ (sent conn)) in
            let less : left_below (takes_of (run ++ event ∷ [])) dual.shape.conns + 1 ≤ left_below (takes_of run) dual.shape.conns
            = subst (λ event. left_below (takes_of (run ++ event ∷ [])) dual.shape.conns + 1 ≤ left_below (takes_of run) dual.shape.conns) (sym is)
            (all_less run conn message dual.shape.conns was_sent within) in
            let falls = first_falls (most_work (tree_of dual)) (left_below (takes_of run) dual.shape.conns) (left_below (takes_of (run ++ event ∷ [])) dual.shape.conns)
            (work (tree_of dual) u) less most in
            omega (arith, falls)
        by_progress (works less) =
            second_falls (most_work (tree_of dual)) (left_below (takes_of run) dual.shape.conns) (left_below (takes_of (run ++ event ∷ [])) dual.shape.conns) (work (tree_of dual) t)
            (work (tree_of dual) u) (all_no_more run event dual.shape.conns) less

    -- So do more steps, unless there are none.
    steps_leave : (run more : List ServerEvent) (t u : Standing) → TreeRunsTo (tree_of dual) run t → TreeSteps (tree_of dual) t more u → IsSent (run ++ more)
        → left_behind (run ++ more) u ≤ left_behind run t
    steps_leave run [] t u ends same sent =
        let behind : left_behind (run ++ []) t ≡ left_behind run t = ap (λ events. left_behind events t) (append-nil run) in
        let there : left_behind (run ++ []) u ≡ left_behind (run ++ []) t = ap (λ v. left_behind (run ++ []) v) (sym same) in
        omega (arith, behind, there)
    steps_leave run (event ∷ more) t u ends (middle, step, steps) sent =
        let whole : run ++ event ∷ more ≡ (run ++ event ∷ []) ++ more = sym (append_assoc run (event ∷ []) more) in
        let sent_all = subst IsSent whole sent in
        let longer : TreeRunsTo (tree_of dual) (run ++ event ∷ []) middle = tree_runs_join (tree_of dual) run t (event ∷ []) middle ends (middle, step, refl) in
        let first = step_falls run event t middle (run_passed (tree_of dual) run t ends) step (sent_before (run ++ event ∷ []) more sent_all) in
        let rest = steps_leave (run ++ event ∷ []) more middle u longer steps sent_all in
        let same : left_behind (run ++ event ∷ more) u ≡ left_behind ((run ++ event ∷ []) ++ more) u = ap (λ events. left_behind events u) whole in
        omega (arith, first, rest, same)

    some_steps_fall : (run : List ServerEvent) (event : ServerEvent) (more : List ServerEvent) (t u : Standing) → TreeRunsTo (tree_of dual) run t
        → TreeSteps (tree_of dual) t (event ∷ more) u → IsSent (run ++ event ∷ more) → left_behind (run ++ event ∷ more) u < left_behind run t
    some_steps_fall run event more t u ends (middle, step, steps) sent =
        let whole : run ++ event ∷ more ≡ (run ++ event ∷ []) ++ more = sym (append_assoc run (event ∷ []) more) in
        let sent_all = subst IsSent whole sent in
        let longer : TreeRunsTo (tree_of dual) (run ++ event ∷ []) middle = tree_runs_join (tree_of dual) run t (event ∷ []) middle ends (middle, step, refl) in
        let first = step_falls run event t middle (run_passed (tree_of dual) run t ends) step (sent_before (run ++ event ∷ []) more sent_all) in
        let rest = steps_leave (run ++ event ∷ []) more middle u longer steps sent_all in
        let same : left_behind (run ++ event ∷ more) u ≡ left_behind ((run ++ event ∷ []) ++ more) u = ap (λ events. left_behind events u) whole in
        omega (arith, first, rest, same)

    -- A hypothesis shows how much may be done behind a run for which it stands.
    shown_effort : (skeleton : List Mark) (h : Hypothesis) (events : List ServerEvent) (t : Standing) → StandsFor dual fed skeleton h → RunWith dual.spec fed skeleton events
        → TreeRunsTo (tree_of dual) events t → effort h ≡ left_behind events t
    shown_effort skeleton h events t stands run ends =
        let shows : left_of fed t ≡ shown_by h (picks_of events) = stands.shows events t run ends in
        let passed = run_passed (tree_of dual) events t ends in
        let node : t.node ≡ h.state.node = ap (λ (left : Left). left.node) shows in
        let compared : t.compared ≡ h.state.compared = ap (λ (left : Left). left.compared) shows in
        let taken : map length t.taken ≡ h.taken = ap (λ (left : Left). left.taken) shows in
        let counted : (conn : ℕ) → slice_index_or h.taken conn 0 ≡ takes_of events conn
        = λ conn. ap (λ counts. slice_index_or counts conn 0) (sym taken) ∙ length_at t.taken conn ∙ ap length (passed.takes conn) in
        let below = same_below (λ conn. slice_index_or h.taken conn 0) (takes_of events) dual.shape.conns counted in
        let place : place_work (tree_of dual) h.state.node h.state.compared ≡ work (tree_of dual) t
        = ap (λ number. place_work (tree_of dual) number h.state.compared) (sym node) ∙ ap (place_work (tree_of dual) t.node) (sym compared) in
        ap (λ n. n * (most_work (tree_of dual) + 1) + place_work (tree_of dual) h.state.node h.state.compared) below
        ∙ ap (λ n. left_below (takes_of events) dual.shape.conns * (most_work (tree_of dual) + 1) + n) place

    -- By each mark more there is less to do.
    pub effort_falls : (skeleton : List Mark) (mark : Mark) (more : List Mark) (h g : Hypothesis) → StandsFor dual fed skeleton h
        → StandsFor dual fed (skeleton ++ mark ∷ more) g → effort g < effort h
    effort_falls skeleton mark more h g stands further =
        let (events, run) = further.explains in
        let parts = run_with_front dual.spec fed skeleton (mark ∷ more) events run stands.explains in
        by_rest events run parts parts.back refl
      where
        by_rest : (events : List ServerEvent) (run : RunWith dual.spec fed (skeleton ++ mark ∷ more) events) (parts : InParts dual.spec fed skeleton (mark ∷ more) events)
            → (back : List ServerEvent) → parts.back ≡ back → effort g < effort h
        by_rest events run parts [] is = absurd (let none : mark ∷ more ≡ [] = sym parts.rest ∙ ap skeleton_of is in cc)
        by_rest events run parts (event ∷ back) is =
            let (end, ends) = run_ends dual is_dual events run.explains.run in
            let whole : events ≡ parts.front ++ event ∷ back = parts.whole ∙ ap (λ rest. parts.front ++ rest) is in
            let (middle, front_ends, steps) = tree_runs_split (tree_of dual) parts.front (event ∷ back) end (subst (λ events. TreeRunsTo (tree_of dual) events end) whole ends) in
            let sent : IsSent (parts.front ++ event ∷ back) = subst IsSent whole (λ conn. Arranges-takes run.explains.arranged conn) in
            let falls = some_steps_fall parts.front event back middle end front_ends steps sent in
            let before = shown_effort skeleton h parts.front middle stands parts.run front_ends in
            let behind = shown_effort (skeleton ++ mark ∷ more) g events end further run ends ∙ ap (λ events. left_behind events end) whole in
            omega (arith, falls, before, behind)

    -- So what goes on from a skeleton is not alike to it.
    pub goes_on_unalike : (skeleton : List Mark) (mark : Mark) (more : List Mark) (h g : Hypothesis) → StandsFor dual fed skeleton h
        → StandsFor dual fed (skeleton ++ mark ∷ more) g → IsAlike h g → ⊥
    goes_on_unalike skeleton mark more h g stands further alike =
        let less = effort_falls skeleton mark more h g stands further in let same = alike_effort h g alike in omega (arith, less, same)
