-- There is one reason at most why a world does not explain an exchange, and where it explains it there is none.
use Rattle.std.proofs.Common.{◌≡◌, ◌≢◌, ◌⊎◌, ℕ, ◌-◌, ◌<◌, ◌≤◌, List, ◌++◌, take, drop, slice_get, refl, sym, ◌∙◌, ap, subst, inl, inr, Result, Err, arith}
use Rattle.std.proofs.lemmas.Bool.{cases_order}
use Rattle.std.proofs.lemmas.List.{take-append-drop, take-take}
use Rattle.spec_model.specs.declared.event.ClientEvent.{ClientEvent}
use Rattle.spec_model.specs.declared.event.WorldEvent.{WorldEvent}
use Rattle.spec_model.specs.declared.tree.Spec.{Spec}
use Rattle.spec_model.specs.Run.{IsRun}
use Rattle.spec_model.specs.World.{Explains, server_of}
use Rattle.spec_model.proofs.RunSteps.{run_front}
use Rattle.spec_model.proofs.WorldEvents.{server_of-append}
use Rattle.net_world.proofs.Ends.{one_place}
use Rattle.net_world.proofs.Following.{not_legal}
use Rattle.explain_replay.proofs.Differences.{slice_get-take}
use Rattle.explain_replay.specs.Replay.{FirstDifference, FirstNoStep, IsRefused}
use Rattle.explain_replay.specs.declared.replay.ReplayRefusal.{ReplayRefusal}
use Rattle.explain_replay.specs.declared.replay.ReplayRefusal.TheVariants.{NotLegal, NotServer, NotExchange, Memory}

-- two places of which neither stands before the other
same_place : (first second : ℕ) → (first < second → ⊥) → (second < first → ⊥) → first ≡ second
same_place first second not_before not_behind = elim (cases_order first second) [
  | inl same ↦ same
  | inr (inl before) ↦ absurd (not_before before)
  | inr (inr behind) ↦ absurd (not_behind behind)
]

-- what the server did in the beginning of a world is a run, where all that it did is
pub run_of_front : (spec : Spec) (front back : List WorldEvent) → IsRun spec (server_of (front ++ back)) → IsRun spec (server_of front)
run_of_front spec front back run = run_front spec (server_of front) (server_of back) (subst (IsRun spec) (server_of-append front back) run)

run_of_fewer : (spec : Spec) (world : List WorldEvent) (few many : ℕ) → few ≤ many → IsRun spec (server_of (take many world)) → IsRun spec (server_of (take few world))
run_of_fewer spec world few many less run =
    let shorter : take few (take many world) ≡ take few world = take-take few many world less in
    rw (← shorter) (run_of_front spec (take few (take many world)) (drop few (take many world)) (rw (take-append-drop few (take many world)) run))

-- where a server event is no step, all of them are no run
pub no_run : (spec : Spec) (world : List WorldEvent) (place : ℕ) → FirstNoStep spec world place → IsRun spec (server_of world) → ⊥
no_run spec world place first run = first.ends (run_of_front spec (take place world) (drop place world) (rw (take-append-drop place world) run))

no_step_before : (spec : Spec) (world : List WorldEvent) (place other : ℕ) → FirstNoStep spec world place → FirstNoStep spec world other → place < other → ⊥
no_step_before spec world place other first too before = first.ends (run_of_fewer spec world place (other - 1) (omega arith) too.before)

one_no_step : (spec : Spec) (world : List WorldEvent) (place other : ℕ) → FirstNoStep spec world place → FirstNoStep spec world other → place ≡ other
one_no_step spec world place other first too =
    same_place place other (no_step_before spec world place other first too) (no_step_before spec world other place too first)

-- lists that differ are two
pub not_same : {A : Type 0} (first second : List A) (place : ℕ) → FirstDifference first second place → first ≡ second → ⊥
not_same first second place difference same = difference.differs (ap (λ list. slice_get list (place - 1)) same)

difference_before : {A : Type 0} (first second : List A) (place other : ℕ) → FirstDifference first second place → FirstDifference first second other → place < other → ⊥
difference_before first second place other here too before =
    let from_one = here.from_one in
    let within : place - 1 < other - 1 = omega arith in
    here.differs (sym (slice_get-take first (other - 1) (place - 1) within) ∙ ap (λ list. slice_get list (place - 1)) too.before ∙ slice_get-take second (other - 1) (place - 1) within)

one_difference : {A : Type 0} (first second : List A) (place other : ℕ) → FirstDifference first second place → FirstDifference first second other → place ≡ other
one_difference first second place other here too =
    same_place place other (difference_before first second place other here too) (difference_before first second other place too here)

-- where the world explains the exchange, there is no reason
pub none_refused : (spec : Spec) (exchange : List ClientEvent) (world : List WorldEvent) (refusal : ReplayRefusal) → IsRefused spec exchange world refusal → refusal ≢ Memory
    → Explains spec world exchange → ⊥
none_refused spec exchange world (NotLegal place) (why, ends) not_memory explains = not_legal world place ends.ends explains.legal
none_refused spec exchange world (NotServer place) (legal, first) not_memory explains = no_run spec world place first explains.run
none_refused spec exchange world (NotExchange place) (legal, run, difference) not_memory explains = not_same _ _ place difference (sym explains.clients)
none_refused spec exchange world Memory refused not_memory explains = not_memory refl

-- there is one reason at most
pub one_refusal : (spec : Spec) (exchange : List ClientEvent) (world : List WorldEvent) (refusal other : ReplayRefusal) → IsRefused spec exchange world refusal → IsRefused spec exchange world other
    → refusal ≢ Memory → other ≢ Memory → refusal ≡ other
one_refusal spec exchange world Memory other refused too not_memory nor = absurd (not_memory refl)
one_refusal spec exchange world refusal Memory refused too not_memory nor = absurd (nor refl)
one_refusal spec exchange world (NotLegal place) (NotLegal other) (why, ends) (reason, ends_too) not_memory nor = ap NotLegal (one_place world place other why reason ends ends_too)
one_refusal spec exchange world (NotLegal place) (NotServer other) (why, ends) (legal, first) not_memory nor = absurd (not_legal world place ends.ends legal)
one_refusal spec exchange world (NotLegal place) (NotExchange other) (why, ends) (legal, run, difference) not_memory nor = absurd (not_legal world place ends.ends legal)
one_refusal spec exchange world (NotServer place) (NotLegal other) (legal, first) (why, ends) not_memory nor = absurd (not_legal world other ends.ends legal)
one_refusal spec exchange world (NotServer place) (NotServer other) (legal, first) (_, too) not_memory nor = ap NotServer (one_no_step spec world place other first too)
one_refusal spec exchange world (NotServer place) (NotExchange other) (legal, first) (_, run, difference) not_memory nor = absurd (no_run spec world place first run)
one_refusal spec exchange world (NotExchange place) (NotLegal other) (legal, run, difference) (why, ends) not_memory nor = absurd (not_legal world other ends.ends legal)
one_refusal spec exchange world (NotExchange place) (NotServer other) (legal, run, difference) (_, first) not_memory nor = absurd (no_run spec world other first run)
one_refusal spec exchange world (NotExchange place) (NotExchange other) (legal, run, difference) (_, run_too, difference_too) not_memory nor =
    ap NotExchange (one_difference _ _ place other difference difference_too)

-- where this reason is answered, any reason is
pub only_this : (spec : Spec) (exchange : List ClientEvent) (world : List WorldEvent) (refusal other : ReplayRefusal) → IsRefused spec exchange world refusal → refusal ≢ Memory
    → IsRefused spec exchange world other → other ≢ Memory → (answer : Result (Unit {0}) ReplayRefusal) → answer ≡ Err refusal → (answer ≡ Err other) ⊎ (answer ≡ Err Memory)
only_this spec exchange world refusal other refused not_memory too nor answer is =
    inl (is ∙ ap Err (one_refusal spec exchange world refusal other refused too not_memory nor))
