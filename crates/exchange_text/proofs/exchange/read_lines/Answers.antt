-- Each way out of the loop and through it, by what has been read and the line that is next.
use Rattle.std.proofs.Common.{◌≡◌, [], ◌∷◌, codes, refl, arith}
use Rattle.std.proofs.lemmas.Bool.{eq-eqb, eqb-true}
use Rattle.std.proofs.lemmas.Result.{err_from_is_err_and}
use Rattle.spec_model.specs.World.{IsOfShape}
use Rattle.exchange_text.specs.declared.exchange.TheConstants.{MAX_EXCHANGE_EVENTS}
use Rattle.exchange_text.specs.EventLine.{client_line}
use Rattle.exchange_text.proofs.ExchangeReading.{HasExchangeForm}
use Rattle.exchange_text.proofs.Reading.{bad_line, no_next_event, reads_event}
use Rattle.exchange_text.proofs.exchange.read_lines.Goals as goal

pub returns-in_err-line-clause-refused : goal.returns-in_err-line-clause-refused
returns-in_err-line-clause-refused c =
    let p = err_from_is_err_and c.from_residual-in_err-line.result c.from_residual-in_err-line.ensures.1 in
    rw (p.1, p.2)
    (no_next_event client_line (IsOfShape c.args.shape) (codes "exchange 1" ∷ []) MAX_EXCHANGE_EVENTS (HasExchangeForm c.args.shape)
    c.args.text.now c.loop-exchange.exchange.items c.loop-exchange.rest.now _ _ _ (omega (arith, c.loop-exchange.exchange.ok.0))
    (λ full. let is : c.len-is_full.result ≡ MAX_EXCHANGE_EVENTS = eqb-true _ _ full in omega (arith, c.loop-exchange.exchange.ok.0)) c.loop-exchange.invariant c.in_err-line.ensures.refused)

pub returns-in_default-2-clause-refused : goal.returns-in_default-2-clause-refused
returns-in_default-2-clause-refused c =
    let next = rw c.in-Some.is at c.in_ok-line.ensures.event in
    bad_line client_line (IsOfShape c.args.shape) (codes "exchange 1" ∷ []) MAX_EXCHANGE_EVENTS (HasExchangeForm c.args.shape) (λ events line form. form)
    c.args.text.now c.loop-exchange.exchange.items c.loop-exchange.rest.now c.in-Some.line.now c.in-Some.behind.now _ (omega (arith, c.loop-exchange.exchange.ok.0)) c.loop-exchange.invariant
    next.0 next.1 (λ full. let is : c.len-is_full.result ≡ MAX_EXCHANGE_EVENTS = omega (arith, c.loop-exchange.exchange.ok.0) in next.2 (eq-eqb _ _ is)) (rw c.in_default-2.is at c.in_ok-event.ensures.none)

pub loop-exchange-preserved : goal.loop-exchange-preserved
loop-exchange-preserved c =
    let next = rw c.in-Some.is at c.in_ok-line.ensures.event in
    let event = rw c.in-Some-2.is at c.in_ok-event.ensures.found in
    rw c.in_ok-push.ensures.items
    (reads_event client_line (IsOfShape c.args.shape) (codes "exchange 1" ∷ []) MAX_EXCHANGE_EVENTS (HasExchangeForm c.args.shape) (λ events event right. (event, right, refl))
    c.args.text.now c.loop-exchange.exchange.items c.loop-exchange.rest.now c.in-Some.line.now c.in-Some.behind.now c.in-Some-2.event c.loop-exchange.invariant
    next.0 (λ full. let is : c.len-is_full.result ≡ MAX_EXCHANGE_EVENTS = omega (arith, c.loop-exchange.exchange.ok.0) in next.2 (eq-eqb _ _ is)) event.0 event.1)
