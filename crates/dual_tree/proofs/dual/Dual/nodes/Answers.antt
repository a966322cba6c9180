use Rattle.std.proofs.Common.{subst}
use Rattle.spec_rules.specs.Accepted.{IsAccepted}
use Rattle.dual_tree.specs.Dual.{DualFields}
use Rattle.dual_tree.proofs.dual.Dual.nodes.Goals as goal

pub returns-clause-accepted : goal.returns-clause-accepted
returns-clause-accepted c = subst (λ (dual : DualFields). IsAccepted dual.spec) c.self.view_is c.spec.ensures.accepted
