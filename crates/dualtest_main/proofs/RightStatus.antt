-- The status that is due is the right one, and the only one.
use Rattle.std.proofs.Common.{◌≡◌, ◌≢◌, ◌↔◌, ℕ, ◌<◌, ◌^◌, List, Some, Result, Ok, Err, refl, sym, ◌∙◌, ap, subst}
use Rattle.spec_model.specs.declared.event.ClientEvent.{ClientEvent}
use Rattle.spec_model.specs.declared.event.Shape.{Shape}
use Rattle.spec_model.specs.declared.event.WorldEvent.{WorldEvent}
use Rattle.spec_model.specs.declared.tree.Spec.{Spec}
use Rattle.spec_model.specs.Verdict.{IsRejectedAt}
use Rattle.spec_model.specs.World.{Explains}
use Rattle.spec_model.proofs.Explanations.{rejected_once, rejected_not_explained}
use Rattle.exchange_text.proofs.ExchangeReading.{IsExchangeOutcome, one_exchange_outcome}
use Rattle.exchange_text.proofs.WorldReading.{IsWorldOutcome, one_world_outcome}
use Rattle.explain_replay.specs.Replay.{IsRefused}
use Rattle.explain_replay.specs.declared.replay.ReplayRefusal.TheVariants as replay_refusals
use Rattle.explain_replay.proofs.OneRefusal.{none_refused, one_refusal}
use Rattle.dt_ports.specs.declared.files.FileCounts.{FileCounts}
use Rattle.dt_ports.specs.Files.{one_read_more}
use Rattle.dualtest_main.specs.declared.recipe.Recipe.{Recipe}
use Rattle.dualtest_main.specs.declared.replay_fault.ReplayFault.{ReplayFault}
use Rattle.dualtest_main.specs.declared.replay_fault.ReplayFault.TheVariants.{NotLegal, NotServer, NotExchange}
use Rattle.dualtest_main.specs.declared.status.Status.{Status}
use Rattle.dualtest_main.specs.declared.status.Status.TheVariants as statuses
use Rattle.dualtest_main.specs.declared.stop.Stop.{Stop}
use Rattle.dualtest_main.specs.Headline.{IsRightReplay, IsRightStatus, IsUnhindered, PrintsRejection}
use Rattle.dualtest_main.specs.Outcome.{AsksForScript, AsksToJudge, AsksToReplay, ExchangeStops, GoesOnWith, HoldsSpec, IsDue, IsJudgement, IsReplay, Ports, StopsCommand, TookAll, WorldStops, accepted, exchange_stops, explained, judged, no_memory, printed, refused, rejected, replay_refusal_of, replayed, scripted, spec_stops, usage, world_stops}
use Rattle.dualtest_main.specs.declared.reading.TheConstants.{EXCHANGE_LIMIT, SPEC_LIMIT, WORLD_LIMIT}
use Rattle.dualtest_main.specs.Report.{script_report, status_of}
use Rattle.dualtest_main.specs.Words.{Asks, Command, IsCommand, NamesExchange, check, judge, replay, script, spec_of}
use Rattle.dualtest_main.proofs.OneEnd.{EndsAt, Files, ends_at, few_conns, one_command}
use Rattle.dualtest_main.proofs.Stages.{AtLines, AtSpec, Stage, one_at_lines, one_at_spec, stage_at, stage_once}

-- one judgement has one status
one_judgement : (spec : Spec) (exchange : List ClientEvent) (status other : Status) (report other_report : List ℕ)
    → IsJudgement spec exchange status report → IsJudgement spec exchange other other_report → status ≡ other
one_judgement spec exchange _ _ _ _ (accepted world least) (accepted other others) = refl
one_judgement spec exchange _ _ _ _ (accepted world least) (rejected number event at_event is) = absurd (rejected_not_explained spec exchange number at_event (world, least.least_world.explains))
one_judgement spec exchange _ _ _ _ (rejected number event at_event is) (accepted world least) = absurd (rejected_not_explained spec exchange number at_event (world, least.least_world.explains))
one_judgement spec exchange _ _ _ _ (rejected number event at_event is) (rejected other_number other at_other other_is) =
    ap statuses.Reject (rejected_once spec exchange number other_number at_event at_other)

-- what a status tells of a world is no want of memory
told_cause : (fault : ReplayFault) (place : ℕ) → replay_refusal_of fault place ≢ replay_refusals.Memory
told_cause NotLegal place same = cc same
told_cause NotServer place same = cc same
told_cause NotExchange place same = cc same

same_status : (fault other : ReplayFault) (place other_place : ℕ) → replay_refusal_of fault place ≡ replay_refusal_of other other_place
    → statuses.NotReplayed fault place ≡ statuses.NotReplayed other other_place
same_status NotLegal NotLegal place other_place same = ap (statuses.NotReplayed NotLegal) (cc same)
same_status NotServer NotServer place other_place same = ap (statuses.NotReplayed NotServer) (cc same)
same_status NotExchange NotExchange place other_place same = ap (statuses.NotReplayed NotExchange) (cc same)
same_status NotLegal NotServer place other_place same = absurd (cc same)
same_status NotLegal NotExchange place other_place same = absurd (cc same)
same_status NotServer NotLegal place other_place same = absurd (cc same)
same_status NotServer NotExchange place other_place same = absurd (cc same)
same_status NotExchange NotLegal place other_place same = absurd (cc same)
same_status NotExchange NotServer place other_place same = absurd (cc same)

module _ (spec : Spec) (exchange : List ClientEvent) (world : List WorldEvent) where
  -- a world that explains the exchange is refused nowhere
  not_refused : (fault : ReplayFault) (place : ℕ) → IsRefused spec exchange world (replay_refusal_of fault place) → Explains spec world exchange → ⊥
  not_refused fault place cause explains = none_refused spec exchange world (replay_refusal_of fault place) cause (told_cause fault place) explains

  one_cause : (fault other : ReplayFault) (place other_place : ℕ) → IsRefused spec exchange world (replay_refusal_of fault place)
      → IsRefused spec exchange world (replay_refusal_of other other_place) → statuses.NotReplayed fault place ≡ statuses.NotReplayed other other_place
  one_cause fault other place other_place cause others =
      same_status fault other place other_place
      (one_refusal spec exchange world (replay_refusal_of fault place) (replay_refusal_of other other_place) cause others (told_cause fault place) (told_cause other other_place))

  -- one replay has one status
  one_replay : (status other : Status) (report other_report : List ℕ) → IsReplay spec exchange world status report → IsReplay spec exchange world other other_report → status ≡ other
  one_replay _ _ _ _ (explained explains) (explained others) = refl
  one_replay _ _ _ _ (explained explains) (refused fault place cause) = absurd (not_refused fault place cause explains)
  one_replay _ _ _ _ (refused fault place cause) (explained explains) = absurd (not_refused fault place cause explains)
  one_replay _ _ _ _ (refused fault place cause) (refused other other_place others) = one_cause fault other place other_place cause others

  -- A replay is right.
  pub right_replay : (status : Status) (report : List ℕ) → IsReplay spec exchange world status report → IsRightReplay spec exchange world status
  right_replay _ _ (explained explains) = record {
    explains = (λ _. explains, λ _. refl);
    refuses = λ fault place. (λ same. absurd (cc), λ cause. absurd (not_refused fault place cause explains));
  }
  right_replay _ _ (refused fault place cause) = record {
    explains = (λ same. absurd (cc), λ explains. absurd (not_refused fault place cause explains));
    refuses = λ other other_place. (λ same. subst (IsRefused spec exchange world) (told fault other place other_place same) cause, λ others. one_cause fault other place other_place cause others);
  }
    where
      told : (fault other : ReplayFault) (place other_place : ℕ) → statuses.NotReplayed fault place ≡ statuses.NotReplayed other other_place
          → replay_refusal_of fault place ≡ replay_refusal_of other other_place
      told fault other place other_place same =
          let faults : fault ≡ other = cc same in
          let places : place ≡ other_place = cc same in
          rw (faults, places) refl

module _ (files : Files) where
  abbrev AtExchange : List ℕ → Spec → Result (List ClientEvent) Stop → Type 0
  AtExchange name spec outcome = AtLines files (IsExchangeOutcome spec.shape) name EXCHANGE_LIMIT 2 outcome

  abbrev AtWorld : List ℕ → Spec → Result (List WorldEvent) Stop → Type 0
  AtWorld name spec outcome = AtLines files (IsWorldOutcome spec.shape) name WORLD_LIMIT 3 outcome

  one_at_exchange : (name : List ℕ) (spec : Spec) → spec.shape.conns < 2 ^ 16 → (outcome other : Result (List ClientEvent) Stop) → AtExchange name spec outcome → AtExchange name spec other → outcome ≡ other
  one_at_exchange name spec few = one_at_lines files (IsExchangeOutcome spec.shape) name EXCHANGE_LIMIT 2 (one_exchange_outcome spec.shape few)

  one_at_world : (name : List ℕ) (spec : Spec) → spec.shape.conns < 2 ^ 16 → (outcome other : Result (List WorldEvent) Stop) → AtWorld name spec outcome → AtWorld name spec other → outcome ≡ other
  one_at_world name spec few = one_at_lines files (IsWorldOutcome spec.shape) name WORLD_LIMIT 3 (one_world_outcome spec.shape few)

  -- what comes of a specification that is checked, or of which a script is made, and what of one and an exchange, or of these and a world
  abbrev IsChecked : Spec → Status → List ℕ → Type 0
  IsChecked spec status report = status ≡ statuses.Done

  abbrev pub IsScripted : Recipe → Spec → Status → List ℕ → Type 0
  IsScripted recipe spec status report = (status ≡ statuses.Done) × (report ≡ script_report spec recipe)

  abbrev Judges : List ℕ → Spec → Status → List ℕ → Type 0
  Judges exchange_name spec status report = Stage (AtExchange exchange_name spec) (IsJudgement spec) status report

  abbrev ReplaysWorld : List ℕ → Spec → List ClientEvent → Status → List ℕ → Type 0
  ReplaysWorld world_name spec exchange status report = Stage (AtWorld world_name spec) (IsReplay spec exchange) status report

  abbrev Replays : List ℕ → List ℕ → Spec → Status → List ℕ → Type 0
  Replays exchange_name world_name spec status report = Stage (AtExchange exchange_name spec) (ReplaysWorld world_name spec) status report

  -- what a command comes to
  abbrev Becomes : Command → Status → List ℕ → Type 0
  Becomes (check name) status report = Stage (AtSpec files (check name)) IsChecked status report
  Becomes (judge name exchange) status report = Stage (AtSpec files (judge name exchange)) (Judges exchange) status report
  Becomes (replay name exchange world) status report = Stage (AtSpec files (replay name exchange world)) (Replays exchange world) status report
  Becomes (script name recipe) status report = Stage (AtSpec files (script name recipe)) (IsScripted recipe) status report

  one_becomes : (command : Command) (status other : Status) (report other_report : List ℕ) → Becomes command status report → Becomes command other other_report → status ≡ other
  one_becomes (check name) status other report other_report =
      stage_once (AtSpec files (check name)) (one_at_spec files (check name)) IsChecked status other report other_report (λ spec at done others. done ∙ sym others)
  one_becomes (judge name exchange_name) status other report other_report =
      stage_once (AtSpec files (judge name exchange_name)) (one_at_spec files (judge name exchange_name)) (Judges exchange_name) status other report other_report (λ spec at.
      stage_once (AtExchange exchange_name spec) (one_at_exchange exchange_name spec (few_conns spec at.0.accepted)) (IsJudgement spec) status other report other_report (λ exchange at_exchange.
      one_judgement spec exchange status other report other_report))
  one_becomes (replay name exchange_name world_name) status other report other_report =
      stage_once (AtSpec files (replay name exchange_name world_name)) (one_at_spec files (replay name exchange_name world_name)) (Replays exchange_name world_name) status other report other_report (λ spec at.
      let few = few_conns spec at.0.accepted in
      stage_once (AtExchange exchange_name spec) (one_at_exchange exchange_name spec few) (ReplaysWorld world_name spec) status other report other_report (λ exchange at_exchange.
      stage_once (AtWorld world_name spec) (one_at_world world_name spec few) (IsReplay spec exchange) status other report other_report (λ world at_world.
      one_replay spec exchange world status other report other_report)))
  one_becomes (script name recipe) status other report other_report =
      stage_once (AtSpec files (script name recipe)) (one_at_spec files (script name recipe)) (IsScripted recipe) status other report other_report (λ spec at made others. made.0 ∙ sym others.0)

  -- a command that ends at its first file, and one that ends at its second
  ends_first : (command : Command) (stop : Stop) (report : List ℕ) → EndsAt files (spec_of command) SPEC_LIMIT (StopsCommand command) 1 stop → Becomes command (status_of stop) report
  ends_first (check name) stop report ends = record { outcome = Err stop; at = ends; behind = refl }
  ends_first (judge name exchange) stop report ends = record { outcome = Err stop; at = ends; behind = refl }
  ends_first (replay name exchange world) stop report ends = record { outcome = Err stop; at = ends; behind = refl }
  ends_first (script name recipe) stop report ends = record { outcome = Err stop; at = ends; behind = refl }

  ends_second : (command : Command) (name : List ℕ) (spec : Spec) (stop : Stop) (report : List ℕ) → NamesExchange command name → HoldsSpec (Some files) (spec_of command) spec → GoesOnWith command spec
      → EndsAt files name EXCHANGE_LIMIT (ExchangeStops spec.shape) 2 stop → Becomes command (status_of stop) report
  ends_second (check spec_name) name spec stop report names holds goes_on ends = absurd names
  ends_second (script spec_name recipe) name spec stop report names holds goes_on ends = absurd names
  ends_second (judge spec_name exchange) name spec stop report names holds goes_on ends =
      let here = subst (λ n. EndsAt files n EXCHANGE_LIMIT (ExchangeStops spec.shape) 2 stop) names ends in
      record { outcome = Ok spec; at = (holds, goes_on); behind = record { outcome = Err stop; at = here; behind = refl } }
  ends_second (replay spec_name exchange world) name spec stop report names holds goes_on ends =
      let here = subst (λ n. EndsAt files n EXCHANGE_LIMIT (ExchangeStops spec.shape) 2 stop) names ends in
      record { outcome = Ok spec; at = (holds, goes_on); behind = record { outcome = Err stop; at = here; behind = refl } }

  module _ (words : List (List ℕ)) where
    -- What is due to words, where nothing hinders: the usage, or what a command comes to.
    data Due : Status → List ℕ → Type 0 where
      misused : {report : List ℕ} → ¬ IsCommand words → Due statuses.Usage report
      of_command : {status : Status} {report : List ℕ} (command : Command) → Asks words command → Becomes command status report → Due status report

    due : (old new : FileCounts) (status : Status) (report : List ℕ) → IsUnhindered status → IsDue (Some files) words old new status report → Due status report
    due old _ _ _ unhindered (usage none) = misused none
    due old new _ _ unhindered (spec_stops command stop asks at_file) =
        of_command command asks (ends_first command stop _ (ends_at files (spec_of command) SPEC_LIMIT (StopsCommand command) 1 old new stop unhindered at_file))
    due old _ _ _ unhindered (printed spec asks) =
        of_command (check asks.spec_name) asks.asks (record { outcome = Ok spec; at = (asks.holds_spec, tt); behind = refl })
    due old _ _ _ unhindered (scripted spec recipe asks) =
        of_command (script asks.spec_name recipe) asks.asks (record { outcome = Ok spec; at = (asks.holds_spec, tt); behind = (refl, refl) })
    due old new _ _ unhindered (exchange_stops command name spec stop asks names holds goes_on at_file) =
        of_command command asks (ends_second command name spec stop _ names holds goes_on
        (ends_at files name EXCHANGE_LIMIT (ExchangeStops spec.shape) 2 (one_read_more old) new stop unhindered at_file))
    due old new _ _ unhindered (world_stops spec_name exchange_name world_name spec exchange stop asks holds holds_exchange at_file) =
        let ends = ends_at files world_name WORLD_LIMIT (WorldStops spec.shape) 3 (one_read_more (one_read_more old)) new stop unhindered at_file in
        of_command (replay spec_name exchange_name world_name) asks (record {
          outcome = Ok spec;
          at = (holds, tt);
          behind = record {
            outcome = Ok exchange;
            at = (holds_exchange.text, holds_exchange.held, holds_exchange.spells);
            behind = record { outcome = Err stop; at = ends; behind = refl };
          };
        })
    due old _ _ _ unhindered (judged spec exchange asks judgement) =
        let holds = asks.holds_exchange in
        of_command (judge asks.spec_name asks.exchange_name) asks.asks (record {
          outcome = Ok spec;
          at = (asks.holds_spec, asks.picks_nothing);
          behind = record { outcome = Ok exchange; at = (holds.text, holds.held, holds.spells); behind = judgement };
        })
    due old _ _ _ unhindered (replayed spec exchange world asks is_replay) =
        let holds = asks.holds_exchange in
        let holds_world = asks.holds_world in
        of_command (replay asks.spec_name asks.exchange_name asks.world_name) asks.asks (record {
          outcome = Ok spec;
          at = (asks.holds_spec, tt);
          behind = record {
            outcome = Ok exchange;
            at = (holds.text, holds.held, holds.spells);
            behind = record { outcome = Ok world; at = (holds_world.text, holds_world.held, holds_world.spells); behind = is_replay };
          };
        })
    due old new _ _ unhindered (no_memory counts) = absurd unhindered

    -- what words of a command come to is what that command does
    of_this : (command : Command) (status : Status) (report : List ℕ) → Asks words command → Due status report → Becomes command status report
    of_this command _ _ asks (misused none) = absurd (none (command, asks))
    of_this command status report asks (of_command other others becomes) =
        subst (λ c. Becomes c status report) (one_command words other command others asks) becomes

    one_of_these : (status other : Status) (report other_report : List ℕ) → Due status report → Due other other_report → status ≡ other
    one_of_these _ _ _ _ (misused none) (misused others) = refl
    one_of_these _ _ _ _ (misused none) (of_command command asks becomes) = absurd (none (command, asks))
    one_of_these status other report other_report (of_command command asks becomes) others =
        one_becomes command status other report other_report becomes (of_this command other other_report asks others)

    -- What is due to words that ask to judge, where nothing hinders, is the judgement.
    pub judgement_due : (old new : FileCounts) (status : Status) (report : List ℕ) (spec : Spec) (exchange : List ClientEvent)
        → AsksToJudge (Some files) words spec exchange → IsUnhindered status → IsDue (Some files) words old new status report → IsJudgement spec exchange status report
    judgement_due old new status report spec exchange asks unhindered is_due =
        let command = judge asks.spec_name asks.exchange_name in
        let becomes = of_this command status report asks.asks (due old new status report unhindered is_due) in
        let judges = stage_at (AtSpec files command) (one_at_spec files command) (Judges asks.exchange_name) spec status report (asks.holds_spec, asks.picks_nothing) becomes in
        let holds = asks.holds_exchange in
        stage_at (AtExchange asks.exchange_name spec) (one_at_exchange asks.exchange_name spec (few_conns spec asks.holds_spec.accepted)) (IsJudgement spec) exchange status report
        (holds.text, holds.held, holds.spells) judges

    -- What is due to words that ask to replay, where nothing hinders, is the replay.
    pub replay_due : (old new : FileCounts) (status : Status) (report : List ℕ) (spec : Spec) (exchange : List ClientEvent) (world : List WorldEvent)
        → AsksToReplay (Some files) words spec exchange world → IsUnhindered status → IsDue (Some files) words old new status report → IsReplay spec exchange world status report
    replay_due old new status report spec exchange world asks unhindered is_due =
        let command = replay asks.spec_name asks.exchange_name asks.world_name in
        let becomes = of_this command status report asks.asks (due old new status report unhindered is_due) in
        let few = few_conns spec asks.holds_spec.accepted in
        let replays = stage_at (AtSpec files command) (one_at_spec files command) (Replays asks.exchange_name asks.world_name) spec status report (asks.holds_spec, tt) becomes in
        let holds = asks.holds_exchange in
        let at_world = stage_at (AtExchange asks.exchange_name spec) (one_at_exchange asks.exchange_name spec few) (ReplaysWorld asks.world_name spec) exchange status report
        (holds.text, holds.held, holds.spells) replays in
        let holds_world = asks.holds_world in
        stage_at (AtWorld asks.world_name spec) (one_at_world asks.world_name spec few) (IsReplay spec exchange) world status report
        (holds_world.text, holds_world.held, holds_world.spells) at_world

    -- What is due to words that ask for a script, where nothing hinders, is the script.
    pub script_due : (old new : FileCounts) (status : Status) (report : List ℕ) (spec : Spec) (recipe : Recipe)
        → AsksForScript (Some files) words spec recipe → IsUnhindered status → IsDue (Some files) words old new status report → IsScripted recipe spec status report
    script_due old new status report spec recipe asks unhindered is_due =
        let command = script asks.spec_name recipe in
        let becomes = of_this command status report asks.asks (due old new status report unhindered is_due) in
        stage_at (AtSpec files command) (one_at_spec files command) (IsScripted recipe) spec status report (asks.holds_spec, tt) becomes

    -- One status is due.
    pub one_due : (old new other_new : FileCounts) (status other : Status) (report other_report : List ℕ) → IsUnhindered status → IsUnhindered other
        → IsDue (Some files) words old new status report → IsDue (Some files) words old other_new other other_report → status ≡ other
    one_due old new other_new status other report other_report unhindered others is_due other_due =
        one_of_these status other report other_report (due old new status report unhindered is_due) (due old other_new other other_report others other_due)

reject_event : (number other : ℕ) → statuses.Reject number ≡ statuses.Reject other → number ≡ other
reject_event number other same = cc same

-- A judgement that is written is right.
pub right_status : (spec : Spec) (exchange : List ClientEvent) (old new : Ports) (status : Status) (report : List ℕ)
    → IsJudgement spec exchange status report → TookAll report old new → IsRightStatus spec exchange old new status
right_status spec exchange old new status report (accepted world least) took = record {
  rejects = λ number. (λ same. absurd (cc), λ at_event. absurd (rejected_not_explained spec exchange number at_event (world, least.least_world.explains)));
  rejection = λ number same. absurd (cc);
  accepts = (λ _. (world, least.least_world.explains), λ _. refl);
  world = λ _. record { world = world; least = least; printed = took.taken };
}
right_status spec exchange old new status report (rejected number event at_event is) took = record {
  rejects = λ other. (
    λ same. subst (IsRejectedAt spec exchange) (reject_event number other same) at_event,
    λ at_other. ap statuses.Reject (rejected_once spec exchange number other at_event at_other),
  );
  rejection = λ other same. subst (λ k. PrintsRejection exchange k old new) (reject_event number other same) (record { event = event; is = is; printed = took.taken });
  accepts = (λ same. absurd (cc), λ explained. absurd (rejected_not_explained spec exchange number at_event explained));
  world = λ same. absurd (cc);
}
