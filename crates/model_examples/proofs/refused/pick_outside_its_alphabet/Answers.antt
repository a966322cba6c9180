use Rattle.std.proofs.Common.{refl, [], ◌∷◌, arith}
use Rattle.spec_model.specs.declared.event.WorldEvent.TheVariants.{Client}
use Rattle.model_examples.specs.Events.{sends}
use Rattle.model_examples.proofs.ComputedWorld.{explains}
use Rattle.model_examples.proofs.Trees.{trees}
use Rattle.model_examples.proofs.Unexplained as unexplained
use Rattle.model_examples.proofs.refused.pick_outside_its_alphabet.Goals as goal

pub returns-clause-unexplained : goal.returns-clause-unexplained
returns-clause-unexplained c = unexplained.pick_outside_its_alphabet

pub returns-clause-rejected : goal.returns-clause-rejected
unfolding trees
returns-clause-rejected c = record {
  first = omega arith;
  within = omega arith;
  before = (Client (sends 0 "new") ∷ [], explains refl refl refl);
  unexplained = unexplained.pick_outside_its_alphabet;
}
