use Rattle.std.proofs.Common.{◌≡◌, ◌-◌}
use Rattle.spec_build.specs.Parts.{further_parts, parts_from}
use Rattle.spec_build.proofs.parts.further_parts.Given as goal

-- what is read in all turns is read in those that are left
abbrev pub invariant-loop-turn : goal.invariant-loop-turn
invariant-loop-turn l = further_parts l.fn.parts l.fn.tokens ≡ parts_from l.parts (l._turn-end - l._turn) l.tokens
