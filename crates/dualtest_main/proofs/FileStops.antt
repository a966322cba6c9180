-- Why a command ends at a file.
use Rattle.std.proofs.Common.{ℕ, List, Result, Ok, Err, IfErr, IfSome, refl}
use Rattle.dt_ports.specs.declared.files.FileCounts.{FileCounts}
use Rattle.dt_ports.specs.declared.files.FileFault.{FileFault}
use Rattle.dt_ports.specs.declared.files.FileFault.TheVariants as faults
use Rattle.dt_ports.specs.Files.{MayFault, bytes_of, counts_after_fault, one_read_more}
use Rattle.dualtest_main.specs.declared.stop.Stop.{Stop}
use Rattle.dualtest_main.specs.declared.stop.Stop.TheVariants as stops
use Rattle.dualtest_main.specs.Outcome.{Holds, Stops, ToldFiles}
use Rattle.dualtest_main.specs.Stops.{StopsAtText, stop_of}

-- a read that gave no bytes
pub stops_at_fault : (told : ToldFiles) (name : List ℕ) (limit : ℕ) (TextStops : List ℕ → Stop → Type 0) (file : ℕ) (old : FileCounts) (fault : FileFault)
    → IfSome told (λ files. MayFault (bytes_of files name) limit fault)
    → Stops told name limit TextStops file old (counts_after_fault limit fault old) (stop_of fault file)
stops_at_fault told name limit TextStops file old faults.Failed may = (refl, refl)
stops_at_fault told name limit TextStops file old faults.TooLong may = (refl, may, refl)
stops_at_fault told name limit TextStops file old faults.Memory may = refl

-- a text of which nothing is made
pub stops_at_text : (told : ToldFiles) (name : List ℕ) (limit : ℕ) (TextStops : List ℕ → Stop → Type 0) (file : ℕ) (old : FileCounts) (text : List ℕ)
    → Holds told name limit text → (stop : Stop) → StopsAtText TextStops text stop → Stops told name limit TextStops file old (one_read_more old) stop
stops_at_text told name limit TextStops file old text held (stops.ReadFault number) at_text = absurd at_text
stops_at_text told name limit TextStops file old text held (stops.TooLong number) at_text = absurd at_text
stops_at_text told name limit TextStops file old text held stops.Memory at_text = refl
stops_at_text told name limit TextStops file old text held (stops.Syntax place) at_text = (text, held, at_text, refl)
stops_at_text told name limit TextStops file old text held (stops.Bad fault place) at_text = (text, held, at_text, refl)
stops_at_text told name limit TextStops file old text held (stops.Text number fault line) at_text = (text, held, at_text, refl)
stops_at_text told name limit TextStops file old text held (stops.Unbuilt number) at_text = (text, held, at_text, refl)

-- what holds of an error holds of what it leads to
pub error_leads : {A : Type 0} {E : Type 0} {P Q : E → Type 0} → (result : Result A E) → IfErr result P → ((error : E) → P error → Q error) → IfErr result Q
error_leads (Ok value) holds leads = tt
error_leads (Err error) holds leads = leads error holds
