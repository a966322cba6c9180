use Rattle.std.proofs.Common.{[], ◌∷◌, codes, length}
use Rattle.spec_model.specs.World.{IsOfShape}
use Rattle.exchange_text.specs.declared.exchange.TheConstants.{MAX_EXCHANGE_EVENTS}
use Rattle.exchange_text.specs.EventLine.{client_line}
use Rattle.exchange_text.proofs.ExchangeReading.{HasExchangeForm}
use Rattle.exchange_text.proofs.Reading.{HasRead}
use Rattle.exchange_text.proofs.exchange.read_lines.Given as goal

abbrev pub invariant-loop-exchange : goal.invariant-loop-exchange
invariant-loop-exchange l = HasRead client_line (IsOfShape l.shape) (codes "exchange 1" ∷ []) MAX_EXCHANGE_EVENTS (HasExchangeForm l.shape) l.text l.exchange.items l.rest

abbrev pub decreases-loop-exchange : goal.decreases-loop-exchange
decreases-loop-exchange l = length l.rest
