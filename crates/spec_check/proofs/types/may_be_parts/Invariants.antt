use Rattle.std.proofs.Common.{◌≡◌, drop}
use Rattle.std.specs.List.{list_all}
use Rattle.spec_check.specs.Parts.{may_be_part}
use Rattle.spec_check.proofs.types.may_be_parts.Given as goal

-- the parts that are left decide
abbrev pub invariant-loop-part : goal.invariant-loop-part
invariant-loop-part l = list_all (may_be_part l.known) (drop l.part-index l.parts) ≡ list_all (may_be_part l.known) l.parts
