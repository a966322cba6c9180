use Rattle.std.proofs.Common.{refl}
use Rattle.model_examples.proofs.Trees.{trees}
use Rattle.model_examples.proofs.messages.frames.Goals as goal

pub returns-clause-line : goal.returns-clause-line
unfolding trees
returns-clause-line c = refl

pub returns-clause-len16 : goal.returns-clause-len16
unfolding trees
returns-clause-len16 c = refl

pub returns-clause-greater_byte_first : goal.returns-clause-greater_byte_first
unfolding trees
returns-clause-greater_byte_first c = refl
