use Rattle.spec_print.proofs.PlacedTrees.{canonical_spells}
use Rattle.spec_print.proofs.laws.canonical_spells.Goals as goal

pub returns : goal.returns
returns c = canonical_spells
