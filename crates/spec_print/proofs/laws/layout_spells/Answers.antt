use Rattle.spec_print.proofs.SpelledLayouts.{layout_spells}
use Rattle.spec_print.proofs.laws.layout_spells.Goals as goal

pub returns : goal.returns
returns c = layout_spells
