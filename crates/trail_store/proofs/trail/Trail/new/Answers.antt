use Rattle.std.proofs.Common.{◌∙◌, ap}
use Rattle.trail_store.specs.Steps.{paths_of}
use Rattle.trail_store.proofs.PathsOfSteps.{paths_of-nil}
use Rattle.trail_store.proofs.trail.Trail.new.Goals as goal

pub returns : goal.returns
returns c = ap paths_of c.new.ensures.items ∙ paths_of-nil
