-- Runs go on one step at a time, each to one configuration.
use Rattle.std.proofs.Common.{◌≡◌, List, [], ◌∷◌, ◌++◌, None, refl, sym, ◌∙◌, subst}
use Rattle.spec_model.specs.declared.config.Config.{Config}
use Rattle.spec_model.specs.declared.event.ServerEvent.{ServerEvent}
use Rattle.spec_model.specs.declared.tree.Spec.{Spec}
use Rattle.spec_model.specs.Run.{Settles, settled, passes, Step, Steps, RunsTo, IsRun}
use Rattle.spec_model.specs.Step.{after_silent_work}

-- steps through a list joined of two are steps through the first, and then through the second
pub steps_split : (spec : Spec) (c : Config) (events more : List ServerEvent) (d : Config) → Steps spec c (events ++ more) d → (middle : Config) × Steps spec c events middle × Steps spec middle more d
steps_split spec c [] more d steps = (c, refl, steps)
steps_split spec c (event ∷ events) more d steps =
    let later = steps_split spec steps.0 events more d steps.2 in
    (later.0, (steps.0, steps.1, later.1), later.2)

pub steps_join : (spec : Spec) (c : Config) (events : List ServerEvent) (middle : Config) (more : List ServerEvent) (d : Config) → Steps spec c events middle → Steps spec middle more d → Steps spec c (events ++ more) d
steps_join spec c [] middle more d first then = subst (λ from. Steps spec from more d) (sym first) then
steps_join spec c (event ∷ events) middle more d first then =
    (first.0, first.1, steps_join spec first.0 events middle more d first.2 then)

-- the silent work of a configuration has one outcome
pub settles_once : (spec : Spec) (c d e : Config) → Settles spec c d → Settles spec c e → d ≡ e
settles_once spec c d e (settled none) (settled _) = refl
settles_once spec c d e (settled none) (passes goes _) = absurd (cc)
settles_once spec c d e (passes goes _) (settled none) = absurd (cc)
settles_once spec c d e (passes {d = f} goes later) (passes {d = g} also other) =
    let same : g ≡ f = cc in settles_once spec f d e later (subst (λ from. Settles spec from e) same other)

-- a step leads to one configuration
pub step_once : (spec : Spec) (c : Config) (event : ServerEvent) (d e : Config) → Step spec c event d → Step spec c event e → d ≡ e
step_once spec c event d e first second =
    let same : second.0 ≡ first.0 = cc in settles_once spec first.0 d e first.2 (subst (λ from. Settles spec from e) same second.2)

pub steps_once : (spec : Spec) (c : Config) (events : List ServerEvent) (d e : Config) → Steps spec c events d → Steps spec c events e → d ≡ e
steps_once spec c [] d e first second = sym first ∙ second
steps_once spec c (event ∷ events) d e first second =
    let same = step_once spec c event second.0 first.0 second.1 first.1 in
    steps_once spec first.0 events d e first.2 (subst (λ from. Steps spec from events e) same second.2)

-- what begins a run is a run
pub run_front : (spec : Spec) (events more : List ServerEvent) → IsRun spec (events ++ more) → IsRun spec events
run_front spec events more run =
    let split = steps_split spec run.1.0 events more run.0 run.1.2 in
    (split.0, (run.1.0, run.1.1, split.1))

-- a run ends in one configuration
pub runs_to_once : (spec : Spec) (events : List ServerEvent) (d e : Config) → RunsTo spec events d → RunsTo spec events e → d ≡ e
runs_to_once spec events d e first second =
    let same = settles_once spec _ second.0 first.0 second.1 first.1 in
    steps_once spec first.0 events d e first.2 (subst (λ from. Steps spec from events e) same second.2)

-- a run that goes on from its end
pub runs_to_join : (spec : Spec) (events : List ServerEvent) (middle : Config) (more : List ServerEvent) (d : Config) → RunsTo spec events middle → Steps spec middle more d → RunsTo spec (events ++ more) d
runs_to_join spec events middle more d first then =
    (first.0, first.1, steps_join spec first.0 events middle more d first.2 then)

-- a run of a list joined of two ends where the second leads from the end of the first
pub runs_to_split : (spec : Spec) (events more : List ServerEvent) (d : Config) → RunsTo spec (events ++ more) d → (middle : Config) × RunsTo spec events middle × Steps spec middle more d
runs_to_split spec events more d run =
    let split = steps_split spec run.0 events more d run.2 in
    (split.0, (run.0, run.1, split.1), split.2)

-- where no silent work is left, settling changes nothing
pub settles_still : (spec : Spec) (c d : Config) → after_silent_work spec c ≡ None → Settles spec c d → d ≡ c
settles_still spec c d none settles = settles_once spec c d c settles (settled none)
