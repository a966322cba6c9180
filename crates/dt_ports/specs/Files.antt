-- What files tell, and what they keep of their answers.
use Rattle.std.specs.Prelude.{ℕ, ◌<◌, ◌≤◌, length, bytes_eq, IsSomeAnd, List, find, Option, option_map, Some, None, Result, Ok, Err}
use Rattle.dt_ports.specs.declared.files.FileCounts.{FileCounts}
use Rattle.dt_ports.specs.declared.files.FileFault.{FileFault}
use Rattle.dt_ports.specs.declared.files.FileFault.TheVariants.{Failed, TooLong, Memory}
use Rattle.dt_ports.specs.Count.{next_count}

-- the bytes told of a name: those of the first file of that name
abbrev pub bytes_of : List (List ℕ × List ℕ) → List ℕ → Option (List ℕ)
bytes_of files name = option_map (λ file. file.1) (find (λ file. bytes_eq file.0 name) files)

-- In which faults a read within this limit may end, of a name of which these bytes are told. Any read may fail.
abbrev pub MayFault : Option (List ℕ) → ℕ → FileFault → Type 0
MayFault file limit Failed = Unit {0}
MayFault file limit TooLong = IsSomeAnd file (λ bytes. limit < length bytes)
MayFault file limit Memory = IsSomeAnd file (λ bytes. length bytes ≤ limit)

-- what is kept before any read
abbrev pub no_reads : FileCounts
no_reads = record { reads = 0; faults = 0; too_longs = 0; last_failed = None; last_too_long = None }

-- what is kept after a read that gave all bytes
abbrev pub one_read_more : FileCounts → FileCounts
one_read_more counts = record counts { reads = next_count counts.reads }

-- what is kept after a read within a limit that gave no bytes
abbrev pub counts_after_fault : ℕ → FileFault → FileCounts → FileCounts
counts_after_fault limit Failed counts =
    record (one_read_more counts) { faults = next_count counts.faults; last_failed = Some limit }
counts_after_fault limit TooLong counts =
    record (one_read_more counts) { too_longs = next_count counts.too_longs; last_too_long = Some limit }
counts_after_fault limit Memory counts = one_read_more counts

-- what is kept after any read within a limit
abbrev pub counts_after_read : {A : Type 0} → ℕ → Result A FileFault → FileCounts → FileCounts
counts_after_read limit (Ok bytes) counts = one_read_more counts
counts_after_read limit (Err fault) counts = counts_after_fault limit fault counts

-- No count of files fell.
pub record NoFileCountFell (old new : FileCounts) : Type 0 where
  pub reads : old.reads ≤ new.reads
  pub faults : old.faults ≤ new.faults
  pub too_longs : old.too_longs ≤ new.too_longs
