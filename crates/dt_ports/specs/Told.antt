-- What an object tells of the bytes that passed through it. An object over the outside tells nothing.
use Rattle.std.specs.Prelude.{ℕ, List, ◌++◌, take, Option, option_map, Result, Ok, Err}
use Rattle.dt_ports.specs.declared.count.Failed.{Failed}

-- what is told, with these bytes at its end
abbrev pub told_with : List ℕ → Option (List ℕ) → Option (List ℕ)
told_with bytes told = option_map (λ before. before ++ bytes) told

-- what a sink tells after a write: the bytes of the piece that it took are at the end
abbrev pub taken_after : List ℕ → Result ℕ Failed → Option (List ℕ) → Option (List ℕ)
taken_after piece (Ok count) told = told_with (take count piece) told
taken_after piece (Err failed) told = told
