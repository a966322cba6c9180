-- An output in memory.
use Rattle.std.specs.Prelude.{ℕ, ◌-◌, min, nat_lt, if◌then◌else◌, length, take, List, ◌++◌, Result, Ok, Err}
use Rattle.dt_ports.specs.declared.count.Failed.{Failed}
use Rattle.dt_ports.specs.Count.{next_count}

-- the bytes taken, how many there may ever be, and how many writes failed
pub record SinkInMemory : Type 0 where
  pub taken : List ℕ
  pub room : ℕ
  pub faults : ℕ

-- how many bytes of a piece a write takes: as many as there is room for, and where there is no room it fails
abbrev pub written : SinkInMemory → List ℕ → Result ℕ Failed
written sink piece =
    if nat_lt (length sink.taken) sink.room
    then Ok (min (sink.room - length sink.taken) (length piece))
    else Err (record {})

-- the output after that write
abbrev pub sink_after : SinkInMemory → List ℕ → SinkInMemory
sink_after sink piece =
    if nat_lt (length sink.taken) sink.room
    then record sink { taken = sink.taken ++ take (min (sink.room - length sink.taken) (length piece)) piece }
    else record sink { faults = next_count sink.faults }
