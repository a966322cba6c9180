-- The headline: what the program answers to an exchange, to a world, and where a script is asked for, where its memory suffices and no read and no write fails.
use Rattle.std.specs.Prelude.{◌≡◌, ◌↔◌, ℕ, ◌-◌, List, Some, slice_get}
use Rattle.spec_model.specs.declared.event.ClientEvent.{ClientEvent}
use Rattle.spec_model.specs.declared.event.WorldEvent.{WorldEvent}
use Rattle.spec_model.specs.declared.tree.Spec.{Spec}
use Rattle.spec_model.specs.Verdict.{IsRejectedAt}
use Rattle.spec_model.specs.World.{Explains, IsExplained}
use Rattle.explain_replay.specs.Replay.{IsRefused}
use Rattle.spec_model.specs.Least.{IsLeastExplanation}
use Rattle.dt_ports.specs.Told.{told_with}
use Rattle.dualtest_main.specs.declared.recipe.Recipe.{Recipe}
use Rattle.dualtest_main.specs.declared.replay_fault.ReplayFault.{ReplayFault}
use Rattle.dualtest_main.specs.declared.status.Status.{Status}
use Rattle.dualtest_main.specs.declared.status.Status.TheVariants.{Done, Memory, NotReplayed, ReadFault, Reject, WriteFault}
use Rattle.dt_ports.specs.declared.files.FileCounts.{FileCounts}
use Rattle.dualtest_main.specs.Outcome.{AsksForScript, AsksToJudge, AsksToReplay, IsDue, Ports, ToldFiles, replay_refusal_of}
use Rattle.dualtest_main.specs.Report.{accept_report, reject_report, script_report}

-- memory sufficed, and no read and no write failed
abbrev pub IsUnhindered : Status → Type 0
IsUnhindered Memory = ⊥
IsUnhindered (ReadFault file) = ⊥
IsUnhindered WriteFault = ⊥
IsUnhindered _ = Unit {0}

-- A world is printed, the least that explains the exchange.
pub record PrintsWorld (spec : Spec) (exchange : List ClientEvent) (old new : Ports) : Type 0 where
  pub world : List WorldEvent
  pub least : IsLeastExplanation spec world exchange
  pub printed : new.taken ≡ told_with (accept_report exchange world) old.taken

-- The event that is rejected is printed.
pub record PrintsRejection (exchange : List ClientEvent) (number : ℕ) (old new : Ports) : Type 0 where
  pub event : ClientEvent
  pub is : slice_get exchange (number - 1) ≡ Some event
  pub printed : new.taken ≡ told_with (reject_report exchange number event) old.taken

-- Reject comes at an event exactly where the events before it are explained, and with it they are not, and that event is printed then. Done
-- comes exactly where all are explained, and then the least world that explains them is printed.
pub record IsRightStatus (spec : Spec) (exchange : List ClientEvent) (old new : Ports) (status : Status) : Type 0 where
  pub rejects : (number : ℕ) → (status ≡ Reject number) ↔ IsRejectedAt spec exchange number
  pub rejection : (number : ℕ) → status ≡ Reject number → PrintsRejection exchange number old new
  pub accepts : (status ≡ Done) ↔ IsExplained spec exchange
  pub world : status ≡ Done → PrintsWorld spec exchange old new

-- Whichever specification and exchange the files tell to hold, the status is right.
abbrev pub Headline : List (List ℕ) → Ports → Ports → Status → Type 0
Headline words old new status =
    (files : List (List ℕ × List ℕ)) (spec : Spec) (exchange : List ClientEvent) → old.told ≡ Some files
    → AsksToJudge (Some files) words spec exchange → IsUnhindered status
    → IsRightStatus spec exchange old new status

-- Done comes exactly where the world explains the exchange, and a refusal of the world exactly where that is why it does not.
pub record IsRightReplay (spec : Spec) (exchange : List ClientEvent) (world : List WorldEvent) (status : Status) : Type 0 where
  pub explains : (status ≡ Done) ↔ Explains spec world exchange
  pub refuses : (fault : ReplayFault) (place : ℕ) → (status ≡ NotReplayed fault place) ↔ IsRefused spec exchange world (replay_refusal_of fault place)

-- Whichever specification, exchange and world the files tell to hold, the status of their replay is right.
abbrev pub ReplayHeadline : List (List ℕ) → ToldFiles → Status → Type 0
ReplayHeadline words told status =
    (files : List (List ℕ × List ℕ)) (spec : Spec) (exchange : List ClientEvent) (world : List WorldEvent) → told ≡ Some files
    → AsksToReplay (Some files) words spec exchange world → IsUnhindered status
    → IsRightReplay spec exchange world status

-- Done came, and the text of the script was printed.
pub record PrintsScript (spec : Spec) (recipe : Recipe) (old new : Ports) (status : Status) : Type 0 where
  pub done : status ≡ Done
  pub printed : new.taken ≡ told_with (script_report spec recipe) old.taken

-- Of whichever specification the files tell to hold, the script of these numbers is printed.
abbrev pub ScriptHeadline : List (List ℕ) → Ports → Ports → Status → Type 0
ScriptHeadline words old new status =
    (files : List (List ℕ × List ℕ)) (spec : Spec) (recipe : Recipe) → old.told ≡ Some files
    → AsksForScript (Some files) words spec recipe → IsUnhindered status → PrintsScript spec recipe old new status

-- Where files are told, no other status than this one is due, whatever the counts of the files become, unless memory is wanting or a
-- read fails. So each status comes exactly where it is due.
abbrev pub IsOnlyDue : List (List ℕ) → ToldFiles → FileCounts → Status → Type 0
IsOnlyDue words told old status =
    (files : List (List ℕ × List ℕ)) (new : FileCounts) (other : Status) (report : List ℕ) → told ≡ Some files
    → IsUnhindered status → IsUnhindered other → IsDue told words old new other report → status ≡ other
