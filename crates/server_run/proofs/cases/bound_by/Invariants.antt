use Rattle.std.proofs.Common.{◌≡◌, drop, option_map}
use Rattle.spec_model.specs.Pattern.{bindings_of, pieces_of}
use Rattle.server_run.proofs.Matching.{bound_behind}
use Rattle.server_run.proofs.cases.bound_by.Given as goal

abbrev pub invariant-loop-item : goal.invariant-loop-item
invariant-loop-item l = bound_behind l.bound (drop l.item-index l.items) l.left ≡ option_map (bindings_of l.items) (pieces_of l.items l.message)
