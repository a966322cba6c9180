use Rattle.std.proofs.Common.{◌≡◌, ◌-◌, ◌++◌}
use Rattle.script_gen.specs.Parts.{letters}
use Rattle.script_gen.proofs.part.literal.Given as goal

-- With the letters that are still to be drawn these are all of them.
abbrev pub invariant-loop : goal.invariant-loop
invariant-loop l = record {
  text : l.text.items ++ (letters (l.count - l.counter) l.words).0 ≡ (letters l.count l.fn.words).0;
  left : (letters (l.count - l.counter) l.words).1 ≡ (letters l.count l.fn.words).1;
}
