use Rattle.std.proofs.Common.{Ok, Err}
use Rattle.exchange_text.proofs.ExchangeReading.{one_exchange_outcome}
use Rattle.exchange_text.proofs.laws.exchange.one_refusal.Goals as goal

pub returns-clause-one : goal.returns-clause-one
returns-clause-one c = λ shape text refusal other small is is'.
    let same = one_exchange_outcome shape small text (Err refusal) (Err other) is is' in
    cc

pub returns-clause-none : goal.returns-clause-none
returns-clause-none c = λ shape text exchange refusal small fits spells is.
    let same = one_exchange_outcome shape small text (Ok exchange) (Err refusal) (fits, spells) is in
    absurd (cc)
