-- What is printed, and the numbers with which the program ends.
use Rattle.std.specs.Prelude.{ℕ, List, [], ◌∷◌, ◌++◌, length, min, codes, decimal}
use Rattle.spec_model.specs.declared.event.ClientEvent.{ClientEvent}
use Rattle.spec_model.specs.declared.event.WorldEvent.{WorldEvent}
use Rattle.spec_model.specs.declared.tree.Spec.{Spec}
use Rattle.spec_rules.specs.declared.fault.Fault.{Fault}
use Rattle.spec_rules.specs.declared.fault.Fault.TheVariants as faults
use Rattle.spec_rules.specs.Fault.{kind_number, limit_number}
use Rattle.spec_model.specs.Message.{line_feed}
use Rattle.exchange_text.specs.EventLine.{client_line}
use Rattle.exchange_text.specs.ScriptText.{script_text}
use Rattle.exchange_text.specs.WorldText.{world_text}
use Rattle.script_gen.specs.Generator.{script_of}
use Rattle.dualtest_main.specs.declared.recipe.Recipe.{Recipe}
use Rattle.dualtest_main.specs.declared.replay_fault.ReplayFault.{ReplayFault}
use Rattle.dualtest_main.specs.declared.replay_fault.ReplayFault.TheVariants.{NotLegal, NotServer, NotExchange}
use Rattle.dualtest_main.specs.declared.status.Status.{Status}
use Rattle.dualtest_main.specs.declared.status.Status.TheVariants as statuses
use Rattle.dualtest_main.specs.declared.stop.TextFault.{TextFault}
use Rattle.dualtest_main.specs.declared.stop.TextFault.TheVariants as text_faults
use Rattle.dualtest_main.specs.declared.stop.Stop.{Stop}
use Rattle.dualtest_main.specs.declared.stop.Stop.TheVariants as stops

abbrev pub status_number : Status → ℕ
status_number statuses.Done = 0
status_number (statuses.Reject event) = 1
status_number statuses.Usage = 3
status_number (statuses.Syntax place) = 4
status_number (statuses.Check fault place) = 5
status_number (statuses.Text file fault line) = 6
status_number (statuses.ReadFault file) = 7
status_number statuses.WriteFault = 8
status_number statuses.Memory = 10
status_number (statuses.NotReplayed fault place) = 11
status_number (statuses.FileTooLong file) = 12
status_number (statuses.Unbuilt file) = 13

abbrev pub status_of : Stop → Status
status_of (stops.ReadFault file) = statuses.ReadFault file
status_of (stops.TooLong file) = statuses.FileTooLong file
status_of (stops.Syntax place) = statuses.Syntax place
status_of (stops.Bad fault place) = statuses.Check fault place
status_of (stops.Text file fault line) = statuses.Text file fault line
status_of (stops.Unbuilt file) = statuses.Unbuilt file
status_of stops.Memory = statuses.Memory

abbrev pub usage_text : List ℕ
usage_text = codes "usage:\ndualtest check SPEC\ndualtest judge SPEC EXCHANGE\ndualtest replay SPEC EXCHANGE WORLD\ndualtest script SPEC SEED CONNS STEPS\n"

-- a line about a file, of which this is the end
abbrev pub file_line : ℕ → List ℕ → List ℕ
file_line file end = codes "file " ++ (decimal file ++ end)

-- a line of a word and a number
abbrev pub number_line : List ℕ → ℕ → List ℕ
number_line word number = word ++ (decimal number ++ line_feed ∷ [])

-- the number of a fault of a text
abbrev pub text_fault_number : TextFault → ℕ
text_fault_number text_faults.BadLine = 1
text_fault_number text_faults.NoEnd = 2
text_fault_number text_faults.Limit = 3

-- the limit of a fault, where its kind is that
abbrev pub limit_words : Fault → List ℕ
limit_words (faults.Limit limit) = codes " limit " ++ decimal (limit_number limit)
limit_words _ = []

-- the line of a fault and its place
abbrev pub check_line : Fault → ℕ → List ℕ
check_line fault place = codes "check " ++ (decimal (kind_number fault) ++ (limit_words fault ++ number_line (codes " at ") place))

-- the line of a fault of a text
abbrev pub text_line : ℕ → TextFault → ℕ → List ℕ
text_line file fault line = codes "file " ++ (decimal file ++ (codes " text " ++ (decimal (text_fault_number fault) ++ number_line (codes " line ") line)))

-- what is printed of why a command ended early
abbrev pub notice_of : Stop → List ℕ
notice_of (stops.ReadFault file) = file_line file (codes " read fault\n")
notice_of (stops.TooLong file) = file_line file (codes " too long\n")
notice_of (stops.Syntax place) = number_line (codes "syntax at ") place
notice_of (stops.Bad fault place) = check_line fault place
notice_of (stops.Text file fault line) = text_line file fault line
notice_of (stops.Unbuilt file) = file_line file (codes " not built\n")
notice_of stops.Memory = []

-- the report of an explained exchange, and the world that explains it
abbrev pub accept_report : List ClientEvent → List WorldEvent → List ℕ
accept_report exchange world = codes "ACCEPT\n" ++ (number_line (codes "events ") (length exchange) ++ world_text world)

-- the report of an exchange that is rejected at the event of this number
abbrev pub reject_report : List ClientEvent → ℕ → ClientEvent → List ℕ
reject_report exchange number event =
    number_line (codes "REJECT ") number ++ (number_line (codes "events ") (length exchange)
    ++ (codes "event " ++ (client_line event ++ line_feed ∷ [])))

-- the report of a world that explains the exchange
abbrev pub replayed_report : List ClientEvent → List ℕ
replayed_report exchange = codes "REPLAYED\n" ++ number_line (codes "events ") (length exchange)

abbrev pub replay_fault_words : ReplayFault → List ℕ
replay_fault_words NotLegal = codes "NOT LEGAL "
replay_fault_words NotServer = codes "NOT SERVER "
replay_fault_words NotExchange = codes "NOT EXCHANGE "

-- the report of a world that does not
abbrev pub not_replayed_report : ReplayFault → ℕ → List ℕ
not_replayed_report fault place = number_line (replay_fault_words fault) place

-- the report of a script that is made of a specification: its text. Where the specification has fewer connections than are asked for, the
-- script has all of them.
abbrev pub script_report : Spec → Recipe → List ℕ
script_report spec recipe = script_text (script_of spec recipe.seed (min recipe.conns spec.shape.conns) recipe.steps)
