use Rattle.spec_print.proofs.GoodPieces.{canonical_spells_tokens}
use Rattle.spec_print.proofs.laws.canonical_spells_tokens.Goals as goal

pub returns : goal.returns
returns c = canonical_spells_tokens
