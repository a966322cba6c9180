-- Files in memory.
use Rattle.std.specs.Prelude.{ℕ, string_bytes, List}
use Rattle.dt_ports.specs.declared.files.FileCounts.{FileCounts}
use Rattle.dt_ports.specs.declared.mem_files.MemFile.{MemFile}

-- Files in memory: the names and bytes that they hold, the numbers of the calls that fail, how many calls were made,
-- and what is kept of those that gave no bytes.
pub record FilesInMemory : Type 0 where
  pub files : List (List ℕ × List ℕ)
  pub failing : List ℕ
  pub made : ℕ
  pub counts : FileCounts

abbrev pub named_bytes : MemFile → List ℕ × List ℕ
named_bytes file = (string_bytes file.name, file.bytes)
