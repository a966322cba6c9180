use Rattle.std.proofs.Common.{◌≡◌, ◌≤◌, drop}
use Rattle.spec_model.specs.Pattern.{number_written}
use Rattle.spec_model.specs.Value.{greatest}
use Rattle.spec_model.proofs.WrittenNumbers.{number_behind}
use Rattle.spec_model.proofs.cut.number_written.Given as goal

-- the digits still to come make the whole number of the number so far
abbrev pub invariant-loop-digit : goal.invariant-loop-digit
invariant-loop-digit l = record {
  whole : number_behind l.number (drop l.digit-index l.digits) ≡ number_written l.digits;
  fits : l.number ≤ greatest;
}
