use Rattle.std.proofs.Common.{◌≡◌, ◌++◌, ◌≤◌, drop, length}
use Rattle.constraint_set.specs.Characters.{size_of, text_numbered}
use Rattle.constraint_set.proofs.characters.text_numbered.Given as goal

-- The characters from a place on are the last of the text, and what is left is the number of those before it.
abbrev pub invariant-loop-place : goal.invariant-loop-place
invariant-loop-place l = record {
  long : length l.text.items ≡ l.len;
  within : l.place ≤ l.len;
  size : l.size ≡ size_of l.framing l.alphabet;
  is : text_numbered l.framing l.alphabet l.len l.number ≡ text_numbered l.framing l.alphabet l.place l.left ++ drop l.place l.text.items;
}
