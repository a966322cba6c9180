-- Why nothing can be made of a file. No contract of a public function cites it.
use Rattle.std.specs.Prelude.{ℕ, List}
use Rattle.dt_ports.specs.declared.files.FileFault.{FileFault}
use Rattle.dt_ports.specs.declared.files.FileFault.TheVariants as faults
use Rattle.exchange_text.specs.declared.refusal.TextRefusal.{TextRefusal}
use Rattle.exchange_text.specs.declared.refusal.TextRefusal.TheVariants as refusals
use Rattle.dualtest_main.specs.declared.stop.TextFault.TheVariants.{BadLine, NoEnd, Limit}
use Rattle.dualtest_main.specs.declared.stop.Stop.{Stop}
use Rattle.dualtest_main.specs.declared.stop.Stop.TheVariants as stops

-- why a command ends where the file of this number could not be read
abbrev pub stop_of : FileFault → ℕ → Stop
stop_of faults.Failed file = stops.ReadFault file
stop_of faults.TooLong file = stops.TooLong file
stop_of faults.Memory file = stops.Memory

-- why a command ends where the text of the file of this number was refused
abbrev pub text_stop_of : TextRefusal → ℕ → Stop
text_stop_of (refusals.BadLine line) file = stops.Text file BadLine line
text_stop_of (refusals.NoEnd line) file = stops.Text file NoEnd line
text_stop_of (refusals.Limit line) file = stops.Text file Limit line
text_stop_of refusals.Memory file = stops.Memory

-- Why a command ends at a text: a command ends so there, or there was no memory.
abbrev pub StopsAtText : (List ℕ → Stop → Type 0) → List ℕ → Stop → Type 0
StopsAtText TextStops text (stops.ReadFault number) = ⊥
StopsAtText TextStops text (stops.TooLong number) = ⊥
StopsAtText TextStops text stops.Memory = Unit {0}
StopsAtText TextStops text stop = TextStops text stop
