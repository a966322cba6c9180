use Rattle.std.proofs.Common.{◌≡◌, take, map}
use Rattle.dt_ports.specs.MemFiles.{named_bytes}
use Rattle.dt_ports.proofs.mem_files.MemFiles.new.Given as goal

-- the files so far are the first of those given
abbrev pub invariant-loop-name : goal.invariant-loop-name
invariant-loop-name l = map named_bytes l.held.items ≡ map (λ file. (file.0.now, file.1.now)) (take l.name-index l.files)
