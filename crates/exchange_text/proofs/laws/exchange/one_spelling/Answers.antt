use Rattle.std.proofs.Common.{sym, ◌∙◌}
use Rattle.exchange_text.proofs.ExchangeReading.{one_exchange}
use Rattle.exchange_text.proofs.laws.exchange.one_spelling.Goals as goal

pub returns-clause-one_exchange : goal.returns-clause-one_exchange
returns-clause-one_exchange c = λ shape other_shape exchange other text small small' of_shape of_shape' spells spells'.
    one_exchange shape other_shape small small' exchange other of_shape of_shape' (sym spells ∙ spells')
