use Rattle.std.proofs.Common.{sym, ◌∙◌}
use Rattle.exchange_text.proofs.WorldReading.{one_world}
use Rattle.exchange_text.proofs.laws.world.one_spelling.Goals as goal

pub returns-clause-one_world : goal.returns-clause-one_world
returns-clause-one_world c = λ shape other_shape world other text small small' right right' spells spells'.
    one_world shape other_shape small small' world other right right' (sym spells ∙ spells')
