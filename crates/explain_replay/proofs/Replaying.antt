-- A world replayed event by event.
use Rattle.std.proofs.Common.{◌≡◌, ℕ, ◌+◌, ◌-◌, ◌<◌, List, [], ◌∷◌, ◌++◌, take, get_or, length, sym, ◌∙◌, ap, subst, arith}
use Rattle.std.proofs.lemmas.List.{take_more}
use Rattle.spec_model.specs.declared.config.Config.{Config}
use Rattle.spec_model.specs.declared.event.WorldEvent.{WorldEvent}
use Rattle.spec_model.specs.declared.tree.Spec.{Spec}
use Rattle.spec_model.specs.Run.{RunsTo, Steps}
use Rattle.spec_model.specs.World.{server_of}
use Rattle.spec_model.proofs.RunSteps.{runs_to_join, runs_to_once, runs_to_split}
use Rattle.spec_model.proofs.WorldEvents.{server_of-append}
use Rattle.explain_replay.specs.Replay.{FirstNoStep}

-- one event more of a world, and what the server did in it
pub server_of-more : (world : List WorldEvent) (number : ℕ) (event : WorldEvent) → number < length world → event ≡ get_or world number event
    → server_of (take (number + 1) world) ≡ server_of (take number world) ++ server_of (event ∷ [])
server_of-more world number event within is =
    ap server_of (take_more world number event within ∙ ap (λ last. take number world ++ last ∷ []) (sym is))
    ∙ server_of-append (take number world) (event ∷ [])

-- where the event is a step, what the server did is a run with it
pub run_with : (spec : Spec) (world : List WorldEvent) (number : ℕ) (event : WorldEvent) (from to : Config) → number < length world → event ≡ get_or world number event
    → RunsTo spec (server_of (take number world)) from → Steps spec from (server_of (event ∷ [])) to → RunsTo spec (server_of (take (number + 1) world)) to
run_with spec world number event from to within is run steps =
    subst (λ events. RunsTo spec events to) (sym (server_of-more world number event within is)) (runs_to_join spec _ from _ to run steps)

one_back : (number : ℕ) → number + 1 - 1 ≡ number
one_back number = omega arith

-- where it is none, it is the first that is none
pub no_step_at : (spec : Spec) (world : List WorldEvent) (number : ℕ) (event : WorldEvent) (from : Config) → number < length world → event ≡ get_or world number event
    → RunsTo spec (server_of (take number world)) from → ((to : Config) → Steps spec from (server_of (event ∷ [])) to → ⊥) → FirstNoStep spec world (number + 1)
no_step_at spec world number event from within is run none = record {
  from_one = omega arith;
  before = rw (one_back number) (from, run);
  ends = λ whole.
      let split = runs_to_split spec (server_of (take number world)) (server_of (event ∷ [])) whole.0
      (subst (λ events. RunsTo spec events whole.0) (server_of-more world number event within is) whole.1) in
      let same = runs_to_once spec (server_of (take number world)) split.0 from split.1 run in
      none whole.0 (subst (λ middle. Steps spec middle (server_of (event ∷ [])) whole.0) same split.2);
}
