use Rattle.std.proofs.Common.{◌≡◌, drop, map, option_map}
use Rattle.spec_model.specs.Pattern.{pieces_of}
use Rattle.itree_data.specs.Step.{item_of, with_holes}
use Rattle.dual_step.proofs.Fitting.{fitted}
use Rattle.dual_step.proofs.taking.with_holes.Given as goal

abbrev pub invariant-loop-item : goal.invariant-loop-item
invariant-loop-item l = fitted l.bound (drop l.item-index l.items) l.left ≡ option_map (with_holes l.locals l.items) (pieces_of (map item_of l.items) l.message)
