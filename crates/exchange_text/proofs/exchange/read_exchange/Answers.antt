-- A text has one outcome, so what the reading gives is that one.
use Rattle.exchange_text.proofs.ExchangeReading.{only_exchange, only_exchange_refusal}
use Rattle.exchange_text.proofs.exchange.read_exchange.Goals as goal

pub returns-clause-only : goal.returns-clause-only
returns-clause-only c =
    only_exchange c.args.shape.now c.read_lines.ensures.range (λ read. read.items) c.args.text.now _ c.read_lines.ensures.found c.read_lines.ensures.refused

pub returns-clause-only_refused : goal.returns-clause-only_refused
returns-clause-only_refused c =
    only_exchange_refusal c.args.shape.now c.read_lines.ensures.range (λ read. read.items) c.args.text.now _ c.read_lines.ensures.found c.read_lines.ensures.refused
