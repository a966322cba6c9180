use Rattle.std.proofs.Common.{length, refl, take_at}
use Rattle.model_examples.proofs.ComputedRun.{ends_where}
use Rattle.model_examples.proofs.Trees.{trees}
use Rattle.model_examples.proofs.values.name_forgotten_at_its_blocks_end.Goals as goal

pub returns-clause-within : goal.returns-clause-within
unfolding trees
returns-clause-within c = ends_where refl refl

pub returns-clause-behind : goal.returns-clause-behind
unfolding trees
returns-clause-behind c = ends_where refl (refl, refl)

pub returns-clause-inner_block : goal.returns-clause-inner_block
unfolding trees
returns-clause-inner_block c = ends_where refl (refl, refl, refl)

pub returns-clause-empty_block : goal.returns-clause-empty_block
unfolding trees
returns-clause-empty_block c spec config rest bound = rw (take_at config.locals bound (length config.locals) refl) refl
