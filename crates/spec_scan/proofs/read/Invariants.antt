use Rattle.std.proofs.Common.{◌≡◌, drop}
use Rattle.spec_model.specs.Spelling.{greatest_open}
use Rattle.spec_scan.specs.Scan.{first_state, scan}
use Rattle.spec_scan.specs.View.{state_of}
use Rattle.spec_scan.proofs.read.Given as goal

abbrev pub invariant-loop-place : goal.invariant-loop-place
invariant-loop-place l = scan greatest_open l.text 0 first_state ≡ scan greatest_open (drop l.place l.text) l.place (state_of l.scanner)
