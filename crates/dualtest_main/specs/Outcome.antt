-- What a call answers.
use Rattle.std.specs.Prelude.{◌≡◌, ◌⊎◌, ℕ, ◌-◌, ◌<◌, ◌≤◌, List, [], length, take, slice_get, Option, IfSome, IsSomeAnd, Some}
use Rattle.spec_model.specs.declared.event.ClientEvent.{ClientEvent}
use Rattle.spec_model.specs.declared.event.Shape.{Shape}
use Rattle.spec_model.specs.declared.event.WorldEvent.{WorldEvent}
use Rattle.spec_model.specs.declared.tree.Spec.{Spec}
use Rattle.spec_model.specs.Verdict.{IsRejectedAt}
use Rattle.spec_model.specs.Canonical.{canonical}
use Rattle.spec_rules.specs.Accepted.{IsAccepted, IsFirstBad}
use Rattle.hypothesis.specs.Judged.{PicksNothing}
use Rattle.spec_model.specs.Least.{IsLeastExplanation}
use Rattle.spec_model.specs.World.{Explains}
use Rattle.spec_model.specs.Spelling.{IsRefusedAt}
use Rattle.spec_syntax.specs.Readable.{IsReadable}
use Rattle.exchange_text.specs.ExchangeText as ExchangeTexts
use Rattle.exchange_text.specs.ExchangeText.{FitsShape, IsExchangeRefused}
use Rattle.exchange_text.specs.WorldText.{FitsWorld, IsWorldRefused, SpellsWorld}
use Rattle.explain_replay.specs.Replay.{IsRefused}
use Rattle.explain_replay.specs.declared.replay.ReplayRefusal.{ReplayRefusal}
use Rattle.explain_replay.specs.declared.replay.ReplayRefusal.TheVariants as replay_refusals
use Rattle.exchange_text.specs.declared.refusal.TextRefusal.{TextRefusal}
use Rattle.exchange_text.specs.declared.refusal.TextRefusal.TheVariants as refusals
use Rattle.dt_ports.specs.declared.files.FileCounts.{FileCounts}
use Rattle.dt_ports.specs.declared.files.FileFault.TheVariants as faults
use Rattle.dt_ports.specs.Count.{next_count}
use Rattle.dt_ports.specs.Files.{NoFileCountFell, bytes_of, counts_after_fault, one_read_more}
use Rattle.dt_ports.specs.Told.{told_with}
use Rattle.dualtest_main.specs.declared.recipe.Recipe.{Recipe}
use Rattle.dualtest_main.specs.declared.reading.TheConstants.{EXCHANGE_LIMIT, SPEC_LIMIT, WORLD_LIMIT}
use Rattle.dualtest_main.specs.declared.replay_fault.ReplayFault.{ReplayFault}
use Rattle.dualtest_main.specs.declared.replay_fault.ReplayFault.TheVariants as replay_faults
use Rattle.dualtest_main.specs.declared.status.Status.{Status}
use Rattle.dualtest_main.specs.declared.status.Status.TheVariants as statuses
use Rattle.dualtest_main.specs.declared.stop.TextFault.{TextFault}
use Rattle.dualtest_main.specs.declared.stop.TextFault.TheVariants as text_faults
use Rattle.dualtest_main.specs.declared.stop.Stop.{Stop}
use Rattle.dualtest_main.specs.declared.stop.Stop.TheVariants as stops
use Rattle.dualtest_main.specs.Report.{accept_report, not_replayed_report, notice_of, reject_report, replayed_report, script_report, status_of, usage_text}
use Rattle.dualtest_main.specs.Words.{Asks, Command, IsCommand, NamesExchange, check, judge, replay, script, spec_of}

-- the files that are told, each with its name
abbrev pub ToldFiles : Type 0
ToldFiles = Option (List (List ℕ × List ℕ))

-- The file of this name may hold this text, which is within the limit: if files are told, it does.
pub record Holds (told : ToldFiles) (name : List ℕ) (limit : ℕ) (text : List ℕ) : Type 0 where
  pub within : length text ≤ limit
  pub as_told : IfSome told (λ files. bytes_of files name ≡ Some text)

-- Why each command ends at the text of a specification: it is refused at a place, or it spells one in which this is the first
-- that is bad.
abbrev pub SpecStops : List ℕ → Stop → Type 0
SpecStops text (stops.Syntax place) = IsRefusedAt text place
SpecStops text (stops.Bad fault place) = (spec : Spec) × IsReadable text spec × IsFirstBad spec fault place
SpecStops text _ = ⊥

-- Why `judge` does: also where it spells one that is accepted and has a pick, which is not judged yet.
abbrev pub JudgedSpecStops : List ℕ → Stop → Type 0
JudgedSpecStops text (stops.Unbuilt file) = (file ≡ 1) × ((spec : Spec) × IsReadable text spec × IsAccepted spec × ¬ PicksNothing spec)
JudgedSpecStops text stop = SpecStops text stop

abbrev pub StopsCommand : Command → List ℕ → Stop → Type 0
StopsCommand (check spec) text stop = SpecStops text stop
StopsCommand (judge spec exchange) text stop = JudgedSpecStops text stop
StopsCommand (replay spec exchange world) text stop = SpecStops text stop
StopsCommand (script spec recipe) text stop = SpecStops text stop

-- what a command asks of a specification that is accepted: `judge`, that it picks nothing
abbrev pub GoesOnWith : Command → Spec → Type 0
GoesOnWith (judge spec exchange) tree = PicksNothing tree
GoesOnWith _ tree = Unit {0}

-- The text is that of this exchange, which fits the shape.
abbrev pub SpellsExchange : Shape → List ℕ → List ClientEvent → Type 0
SpellsExchange shape text exchange = FitsShape shape exchange × ExchangeTexts.Spells text exchange

abbrev pub refusal_of : TextFault → ℕ → TextRefusal
refusal_of text_faults.BadLine line = refusals.BadLine line
refusal_of text_faults.NoEnd line = refusals.NoEnd line
refusal_of text_faults.Limit line = refusals.Limit line

-- Why a command ends at the text of the file of this number, which is one of lines: it is refused so at this line.
abbrev pub LinesStop : ℕ → (TextRefusal → Type 0) → Stop → Type 0
LinesStop number IsTextRefused (stops.Text file fault line) = (file ≡ number) × IsTextRefused (refusal_of fault line)
LinesStop number IsTextRefused _ = ⊥

-- the text of an exchange, which is the second file
abbrev pub ExchangeStops : Shape → List ℕ → Stop → Type 0
ExchangeStops shape text stop = LinesStop 2 (IsExchangeRefused shape text) stop

-- The text is that of this world, which fits the shape.
abbrev pub SpellsFittingWorld : Shape → List ℕ → List WorldEvent → Type 0
SpellsFittingWorld shape text world = FitsWorld shape world × SpellsWorld text world

-- the text of a world, which is the third file
abbrev pub WorldStops : Shape → List ℕ → Stop → Type 0
WorldStops shape text stop = LinesStop 3 (IsWorldRefused shape text) stop

-- The file is told to be longer than the limit, if files are told.
abbrev pub IsLonger : ToldFiles → List ℕ → ℕ → Type 0
IsLonger told name limit = IfSome told (λ files. IsSomeAnd (bytes_of files name) (λ text. limit < length text))

-- Why a command ends at the file of this number, and what the files keep then: the read failed; or the file is longer than the
-- limit; or there was no memory; or the file may hold a text at which a command ends so.
abbrev pub Stops : ToldFiles → List ℕ → ℕ → (List ℕ → Stop → Type 0) → ℕ → FileCounts → FileCounts → Stop → Type 0
Stops told name limit TextStops file old new (stops.ReadFault number) =
    (number ≡ file) × (new ≡ counts_after_fault limit faults.Failed old)
Stops told name limit TextStops file old new (stops.TooLong number) =
    (number ≡ file) × IsLonger told name limit × (new ≡ counts_after_fault limit faults.TooLong old)
Stops told name limit TextStops file old new stops.Memory = new ≡ one_read_more old
Stops told name limit TextStops file old new stop =
    (text : List ℕ) × Holds told name limit text × TextStops text stop × (new ≡ one_read_more old)

-- The file of this name holds the text of this specification, which is accepted.
pub record HoldsSpec (told : ToldFiles) (name : List ℕ) (spec : Spec) : Type 0 where
  pub text : List ℕ
  pub held : Holds told name SPEC_LIMIT text
  pub spells : IsReadable text spec
  pub accepted : IsAccepted spec

-- The file of this name holds the text of this exchange.
pub record HoldsExchange (told : ToldFiles) (name : List ℕ) (shape : Shape) (exchange : List ClientEvent) : Type 0 where
  pub text : List ℕ
  pub held : Holds told name EXCHANGE_LIMIT text
  pub spells : SpellsExchange shape text exchange

-- The file of this name holds the text of this world.
pub record HoldsWorld (told : ToldFiles) (name : List ℕ) (shape : Shape) (world : List WorldEvent) : Type 0 where
  pub text : List ℕ
  pub held : Holds told name WORLD_LIMIT text
  pub spells : SpellsFittingWorld shape text world

-- The words ask to check this specification: the file that they name holds it.
pub record AsksToCheck (told : ToldFiles) (words : List (List ℕ)) (spec : Spec) : Type 0 where
  pub spec_name : List ℕ
  pub asks : Asks words (check spec_name)
  pub holds_spec : HoldsSpec told spec_name spec

-- The words ask to judge this exchange by this specification, which has no pick: the files that they name hold them.
pub record AsksToJudge (told : ToldFiles) (words : List (List ℕ)) (spec : Spec) (exchange : List ClientEvent) : Type 0 where
  pub spec_name : List ℕ
  pub exchange_name : List ℕ
  pub asks : Asks words (judge spec_name exchange_name)
  pub holds_spec : HoldsSpec told spec_name spec
  pub picks_nothing : PicksNothing spec
  pub holds_exchange : HoldsExchange told exchange_name spec.shape exchange

-- The words ask to replay this world for this exchange, by this specification: the files that they name hold them.
pub record AsksToReplay (told : ToldFiles) (words : List (List ℕ)) (spec : Spec) (exchange : List ClientEvent) (world : List WorldEvent) : Type 0 where
  pub spec_name : List ℕ
  pub exchange_name : List ℕ
  pub world_name : List ℕ
  pub asks : Asks words (replay spec_name exchange_name world_name)
  pub holds_spec : HoldsSpec told spec_name spec
  pub holds_exchange : HoldsExchange told exchange_name spec.shape exchange
  pub holds_world : HoldsWorld told world_name spec.shape world

-- The words ask for the script of these numbers by this specification: the file that they name holds it.
pub record AsksForScript (told : ToldFiles) (words : List (List ℕ)) (spec : Spec) (recipe : Recipe) : Type 0 where
  pub spec_name : List ℕ
  pub asks : Asks words (script spec_name recipe)
  pub holds_spec : HoldsSpec told spec_name spec

-- The status and the report of an exchange that is judged: with its least explanation, or with the event that nothing explains.
pub data IsJudgement (spec : Spec) (exchange : List ClientEvent) : Status → List ℕ → Type 0 where
  accepted : (world : List WorldEvent) → IsLeastExplanation spec world exchange
      → IsJudgement spec exchange statuses.Done (accept_report exchange world)
  rejected : (number : ℕ) (event : ClientEvent) → IsRejectedAt spec exchange number → slice_get exchange (number - 1) ≡ Some event
      → IsJudgement spec exchange (statuses.Reject number) (reject_report exchange number event)

-- why a world does not explain an exchange, as the status tells it
abbrev pub replay_refusal_of : ReplayFault → ℕ → ReplayRefusal
replay_refusal_of replay_faults.NotLegal place = replay_refusals.NotLegal place
replay_refusal_of replay_faults.NotServer place = replay_refusals.NotServer place
replay_refusal_of replay_faults.NotExchange place = replay_refusals.NotExchange place

-- The status and the report of a world that is replayed: it explains the exchange, or this is why it does not.
pub data IsReplay (spec : Spec) (exchange : List ClientEvent) (world : List WorldEvent) : Status → List ℕ → Type 0 where
  explained : Explains spec world exchange → IsReplay spec exchange world statuses.Done (replayed_report exchange)
  refused : (fault : ReplayFault) (place : ℕ) → IsRefused spec exchange world (replay_refusal_of fault place)
      → IsReplay spec exchange world (statuses.NotReplayed fault place) (not_replayed_report fault place)

-- The status and the report that are due, and what the files keep then: words of no command read no file, and a command reads
-- each of its files once, in order, up to the one at which it ends.
pub data IsDue (told : ToldFiles) (words : List (List ℕ)) (old : FileCounts) : FileCounts → Status → List ℕ → Type 0 where
  usage : ¬ IsCommand words → IsDue told words old old statuses.Usage usage_text
  spec_stops : {new : FileCounts} (command : Command) (stop : Stop) → Asks words command
      → Stops told (spec_of command) SPEC_LIMIT (StopsCommand command) 1 old new stop
      → IsDue told words old new (status_of stop) (notice_of stop)
  printed : (spec : Spec) → AsksToCheck told words spec → IsDue told words old (one_read_more old) statuses.Done (canonical spec)
  scripted : (spec : Spec) (recipe : Recipe) → AsksForScript told words spec recipe
      → IsDue told words old (one_read_more old) statuses.Done (script_report spec recipe)
  exchange_stops : {new : FileCounts} (command : Command) (exchange_name : List ℕ) (spec : Spec) (stop : Stop) → Asks words command
      → NamesExchange command exchange_name → HoldsSpec told (spec_of command) spec → GoesOnWith command spec
      → Stops told exchange_name EXCHANGE_LIMIT (ExchangeStops spec.shape) 2 (one_read_more old) new stop
      → IsDue told words old new (status_of stop) (notice_of stop)
  world_stops : {new : FileCounts} (spec_name exchange_name world_name : List ℕ) (spec : Spec) (exchange : List ClientEvent) (stop : Stop)
      → Asks words (replay spec_name exchange_name world_name) → HoldsSpec told spec_name spec → HoldsExchange told exchange_name spec.shape exchange
      → Stops told world_name WORLD_LIMIT (WorldStops spec.shape) 3 (one_read_more (one_read_more old)) new stop
      → IsDue told words old new (status_of stop) (notice_of stop)
  judged : {status : Status} {report : List ℕ} (spec : Spec) (exchange : List ClientEvent) → AsksToJudge told words spec exchange
      → IsJudgement spec exchange status report
      → IsDue told words old (one_read_more (one_read_more old)) status report
  replayed : {status : Status} {report : List ℕ} (spec : Spec) (exchange : List ClientEvent) (world : List WorldEvent)
      → AsksToReplay told words spec exchange world → IsReplay spec exchange world status report
      → IsDue told words old (one_read_more (one_read_more (one_read_more old))) status report
  no_memory : {new : FileCounts} → NoFileCountFell old new → IsDue told words old new statuses.Memory []

-- What files and sink tell and keep.
pub record Ports : Type 0 where
  pub told : ToldFiles
  pub counts : FileCounts
  pub taken : Option (List ℕ)
  pub faults : ℕ

-- The sink took all of the report.
pub record TookAll (report : List ℕ) (old new : Ports) : Type 0 where
  pub taken : new.taken ≡ told_with report old.taken
  pub faults : new.faults ≡ old.faults

-- A write failed when the sink had taken a part of the report, and not all.
pub record TookPart (report : List ℕ) (old new : Ports) : Type 0 where
  pub count : ℕ
  pub not_all : count < length report
  pub taken : new.taken ≡ told_with (take count report) old.taken
  pub faults : new.faults ≡ next_count old.faults

-- Of a report and the status that is due, what is answered: that status, or WriteFault.
abbrev pub IsWritten : Status → List ℕ → Ports → Ports → Status → Type 0
IsWritten due report old new status =
    ((status ≡ due) × TookAll report old new) ⊎ ((status ≡ statuses.WriteFault) × TookPart report old new)

-- The words are answered by this status: what is due is written.
pub record IsAnswered (words : List (List ℕ)) (old new : Ports) (status : Status) : Type 0 where
  pub due : Status
  pub report : List ℕ
  pub is_due : IsDue old.told words old.counts new.counts due report
  pub written : IsWritten due report old new status
  pub told : new.told ≡ old.told
