-- Runs that are computed.
use Rattle.std.proofs.Common.{◌≡◌, ℕ, zero, suc, Bool, true, false, is_some, List, [], ◌∷◌, Option, Some, None, unwrap_or, refl, subst}
use Rattle.spec_model.specs.declared.config.Config.{Config}
use Rattle.spec_model.specs.declared.event.ServerEvent.{ServerEvent}
use Rattle.spec_model.specs.declared.tree.Spec.{Spec}
use Rattle.spec_model.specs.Config.{first_config}
use Rattle.spec_model.specs.Run.{Settles, settled, passes, Steps, RunsTo, IsRun}
use Rattle.spec_model.specs.Step.{after_event, after_silent_work}
use Rattle.spec_model.specs.Value.{◌>>=◌}
use Rattle.spec_model.proofs.Partial.{bind_gave}
use Rattle.spec_model.proofs.RunSteps.{settles_once}
use Rattle.model_examples.specs.RunEnds.{EndsWhere}

-- the configuration with its silent work done, where that is less than so many pieces
abbrev pub silent_end_within : ℕ → Spec → Config → Option Config
silent_end_within zero spec c = None
silent_end_within (suc pieces) spec c = elim (after_silent_work spec c) [ None ↦ Some c | Some d ↦ silent_end_within pieces spec d ]

-- more pieces than stand in one place of any run here
abbrev pub enough : ℕ
enough = 16

abbrev pub silent_end : Spec → Config → Option Config
silent_end spec c = silent_end_within enough spec c

-- the configuration to which these steps lead
abbrev pub steps_end : Spec → List ServerEvent → Config → Option Config
steps_end spec [] c = Some c
steps_end spec (event ∷ events) c = do
  middle ← after_event spec c event
  new ← silent_end spec middle
  steps_end spec events new

-- the configuration in which this run ends
abbrev pub run_end : Spec → List ServerEvent → Option Config
run_end spec events = do
  opening ← silent_end spec (first_config spec)
  steps_end spec events opening

-- What is computed is what the definitions say.
settles_by : (spec : Spec) (c d : Config) (pieces : ℕ) → ((e : Config) → silent_end_within pieces spec e ≡ Some d → Settles spec e d)
    → (work : Option Config) → after_silent_work spec c ≡ work
    → elim work as (λ _. Option Config) [ None ↦ Some c | Some e ↦ silent_end_within pieces spec e ] ≡ Some d → Settles spec c d
settles_by spec c d pieces later None none is = let same : c ≡ d = cc in subst (λ e. Settles spec c e) same (settled none)
settles_by spec c d pieces later (Some e) goes is = passes goes (later e is)

settles_within : (pieces : ℕ) (spec : Spec) (c d : Config) → silent_end_within pieces spec c ≡ Some d → Settles spec c d
settles_within zero spec c d is = absurd (cc)
settles_within (suc pieces) spec c d is = settles_by spec c d pieces (λ e. settles_within pieces spec e d) (after_silent_work spec c) refl is

settles_to : (spec : Spec) (c d : Config) → silent_end spec c ≡ Some d → Settles spec c d
settles_to = settles_within enough

steps_to : (spec : Spec) (c : Config) (events : List ServerEvent) (end : Config) → steps_end spec events c ≡ Some end → Steps spec c events end
steps_to spec c [] end is = cc
steps_to spec c (event ∷ events) end is =
    let (middle, goes, more) = bind_gave (after_event spec c event) _ end is in
    let (new, settles, later) = bind_gave (silent_end spec middle) _ end more in
    (new, (middle, goes, settles_to spec middle new settles), steps_to spec new events end later)

runs_to : (spec : Spec) (events : List ServerEvent) (end : Config) → run_end spec events ≡ Some end → RunsTo spec events end
runs_to spec events end is =
    let (opening, opens, steps) = bind_gave (silent_end spec (first_config spec)) _ end is in
    (opening, settles_to spec (first_config spec) opening opens, steps_to spec opening events end steps)

-- the end that is computed for a run
abbrev pub computed_end : Spec → List ServerEvent → Config
computed_end spec events = unwrap_or (run_end spec events) (first_config spec)

runs_to_computed : (spec : Spec) (events : List ServerEvent) → is_some (run_end spec events) ≡ true → RunsTo spec events (computed_end spec events)
runs_to_computed spec events ended = by_end (run_end spec events) refl ended
  where
    by_end : (end : Option Config) → run_end spec events ≡ end → is_some end ≡ true → RunsTo spec events (unwrap_or end (first_config spec))
    by_end None is none = absurd (cc)
    by_end (Some end) is some = runs_to spec events end is

pub is_run : (spec : Spec) (events : List ServerEvent) → is_some (run_end spec events) ≡ true → IsRun spec events
is_run spec events ended = (computed_end spec events, runs_to_computed spec events ended)

pub ends_where : {spec : Spec} {events : List ServerEvent} {Holds : Config → Type 0} → is_some (run_end spec events) ≡ true
    → Holds (computed_end spec events) → EndsWhere spec events Holds
ends_where {spec} {events} ended holds = record { end = computed_end spec events; run = runs_to_computed spec events ended; holds = holds }

-- A run leads on from the one opening that is computed.
pub steps_from_opening : (spec : Spec) (opening : Config) (events : List ServerEvent) (end : Config)
    → silent_end spec (first_config spec) ≡ Some opening → RunsTo spec events end → Steps spec opening events end
steps_from_opening spec opening events end is (other, opens, steps) =
    let same = settles_once spec (first_config spec) other opening opens (settles_to spec (first_config spec) opening is) in
    subst (λ from. Steps spec from events end) same steps

-- The steps behind an event lead on from the one configuration that is computed from what the event leaves.
pub steps_behind : (spec : Spec) (c : Config) (event : ServerEvent) (events : List ServerEvent) (end left new : Config)
    → Steps spec c (event ∷ events) end → ((middle : Config) → after_event spec c event ≡ Some middle → middle ≡ left)
    → silent_end spec left ≡ Some new → Steps spec new events end
steps_behind spec c event events end left new (other, (middle, goes, settles), later) leaves is =
    let from_left = subst (λ from. Settles spec from other) (leaves middle goes) settles in
    let same = settles_once spec left other new from_left (settles_to spec left new is) in
    subst (λ from. Steps spec from events end) same later

-- whether one of the events is no step of the server, behind those before it
abbrev pub is_refused : Spec → List ServerEvent → Config → Bool
is_refused spec [] c = false
is_refused spec (event ∷ events) c =
    elim (after_event spec c event) [
      | None ↦ true
      | Some left ↦ elim (silent_end spec left) [ None ↦ false | Some new ↦ is_refused spec events new ]
    ]

refused_behind : (spec : Spec) (events : List ServerEvent) (end_left : Option Config)
    → elim end_left as (λ _. Bool) [ None ↦ false | Some new ↦ is_refused spec events new ] ≡ true
    → (new : Config) × (end_left ≡ Some new) × (is_refused spec events new ≡ true)
refused_behind spec events None refused = absurd (cc)
refused_behind spec events (Some new) refused = (new, refl, refused)

refused_then : (spec : Spec) (events : List ServerEvent) (after : Option Config) (middle : Config) → after ≡ Some middle
    → elim after as (λ _. Bool) [ None ↦ true | Some left ↦ elim (silent_end spec left) as (λ _. Bool) [ None ↦ false | Some new ↦ is_refused spec events new ] ] ≡ true
    → (new : Config) × (silent_end spec middle ≡ Some new) × (is_refused spec events new ≡ true)
refused_then spec events None middle is refused = absurd (cc)
refused_then spec events (Some left) middle is refused =
    let same : left ≡ middle = cc (is) in
    subst (λ d. (new : Config) × (silent_end spec d ≡ Some new) × (is_refused spec events new ≡ true)) same
    (refused_behind spec events (silent_end spec left) refused)

no_steps : (spec : Spec) (events : List ServerEvent) (c end : Config) → is_refused spec events c ≡ true → Steps spec c events end → ⊥
no_steps spec [] c end refused steps = absurd (cc)
no_steps spec (event ∷ events) c end refused (new, (middle, goes, settles), later) =
    let (computed, is, refused_later) = refused_then spec events (after_event spec c event) middle goes refused in
    let same = settles_once spec middle new computed settles (settles_to spec middle computed is) in
    no_steps spec events computed end refused_later (subst (λ from. Steps spec from events end) same later)

pub is_no_run : (spec : Spec) (opening : Config) (events : List ServerEvent) → silent_end spec (first_config spec) ≡ Some opening
    → is_refused spec events opening ≡ true → ¬ IsRun spec events
is_no_run spec opening events is refused (end, run) = no_steps spec events opening end refused (steps_from_opening spec opening events end is run)
