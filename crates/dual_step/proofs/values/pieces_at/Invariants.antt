use Rattle.std.proofs.Common.{◌≡◌, ◌++◌, drop, option_map}
use Rattle.itree_data.specs.Value.{pieces_at}
use Rattle.dual_step.specs.State.{standing_of}
use Rattle.dual_step.proofs.values.pieces_at.Given as goal

-- the pieces so far, and those of the parts still to come
abbrev pub invariant-loop-part : goal.invariant-loop-part
invariant-loop-part l = option_map (λ later. l.pieces ++ later) (pieces_at (standing_of l.state) (drop l.part-index l.parts)) ≡ pieces_at (standing_of l.state) l.parts
