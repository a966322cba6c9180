use Rattle.std.proofs.Common.{[], subst, sym}
use Rattle.spec_paths.specs.Bounds.{IsLeast}
use Rattle.spec_paths.specs.Crowded.{IsCrowdedInStart}
use Rattle.spec_paths.proofs.CrowdedSpecs.{least_in_start, nothing_left}
use Rattle.spec_paths.proofs.crowded.crowded_in_start.Goals as goal

pub returns-in-Some : goal.returns-in-Some
returns-in-Some c =
    subst (λ start. IsLeast (IsCrowdedInStart start) c.crowded_from.result) (sym c.in-Some.is)
    (subst (IsLeast _) (sym c.crowded_from.ensures) (least_in_start c.in-Some.block c.ahead_of_block.result (c.ahead_of_block.ensures [] nothing_left)))
