use Rattle.std.proofs.Common.{◌≡◌, ◌<◌, ◌≤◌, ◌^◌}
use Rattle.constraint_set.specs.Characters.{size_of}
use Rattle.constraint_set.proofs.characters.has_more_texts.Given as goal

-- so many texts there are of the length passed so far
abbrev pub invariant-loop-place : goal.invariant-loop-place
invariant-loop-place l = record { found : l.found ≡ l.size ^ l._place; size : l.size ≡ size_of l.fn.framing l.fn.alphabet; some : 0 < l.size; small : l.size ≤ 256 }
