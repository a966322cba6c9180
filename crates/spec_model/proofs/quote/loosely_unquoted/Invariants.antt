use Rattle.std.proofs.Common.{◌≡◌, ◌++◌, drop}
use Rattle.spec_model.specs.declared.quote.Progress.TheVariants.{Between}
use Rattle.spec_model.specs.Reading.{IsProgress, read_on}
use Rattle.spec_model.proofs.quote.loosely_unquoted.Given as goal

-- what was read, and what is still to come, is the text
abbrev pub invariant-loop-byte : goal.invariant-loop-byte
invariant-loop-byte l = record {
  whole : l.text.items ++ read_on l.progress (drop l.byte-index l.inside) ≡ read_on Between l.inside;
  known : IsProgress l.progress;
}
