use Rattle.std.proofs.Common.{refl, [], arith}
use Rattle.model_examples.proofs.ComputedWorld.{explains}
use Rattle.model_examples.proofs.Trees.{trees}
use Rattle.model_examples.proofs.Unexplained as unexplained
use Rattle.model_examples.proofs.refused.receipt_of_nothing.Goals as goal

pub returns-clause-unexplained : goal.returns-clause-unexplained
returns-clause-unexplained c = unexplained.receipt_of_nothing

pub returns-clause-rejected : goal.returns-clause-rejected
unfolding trees
returns-clause-rejected c = record {
  first = omega arith;
  within = omega arith;
  before = ([], explains refl refl refl);
  unexplained = unexplained.receipt_of_nothing;
}
