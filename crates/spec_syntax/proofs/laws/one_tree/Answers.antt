use Rattle.spec_syntax.proofs.OneReading.{one_tree}
use Rattle.spec_syntax.proofs.laws.one_tree.Goals as goal

pub returns : goal.returns
returns c = one_tree
