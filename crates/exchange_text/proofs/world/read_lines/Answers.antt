-- Each way out of the loop and through it, by what has been read and the line that is next.
use Rattle.std.proofs.Common.{◌≡◌, [], ◌∷◌, codes, refl, arith}
use Rattle.std.proofs.lemmas.Bool.{eq-eqb, eqb-true}
use Rattle.std.proofs.lemmas.Result.{err_from_is_err_and}
use Rattle.exchange_text.specs.WorldText.{IsWorldEvent}
use Rattle.exchange_text.specs.declared.world.TheConstants.{MAX_WORLD_EVENTS}
use Rattle.exchange_text.specs.EventLine.{world_line}
use Rattle.exchange_text.proofs.WorldReading.{HasWorldForm}
use Rattle.exchange_text.proofs.Reading.{bad_line, no_next_event, reads_event}
use Rattle.exchange_text.proofs.world.read_lines.Goals as goal

pub returns-in_err-line-clause-refused : goal.returns-in_err-line-clause-refused
returns-in_err-line-clause-refused c =
    let p = err_from_is_err_and c.from_residual-in_err-line.result c.from_residual-in_err-line.ensures.1 in
    rw (p.1, p.2)
    (no_next_event world_line (IsWorldEvent c.args.shape) (codes "world 1" ∷ []) MAX_WORLD_EVENTS (HasWorldForm c.args.shape)
    c.args.text.now c.loop-world.world.items c.loop-world.rest.now _ _ _ (omega (arith, c.loop-world.world.ok.0))
    (λ full. let is : c.len-is_full.result ≡ MAX_WORLD_EVENTS = eqb-true _ _ full in omega (arith, c.loop-world.world.ok.0)) c.loop-world.invariant c.in_err-line.ensures.refused)

pub returns-in_default-2-clause-refused : goal.returns-in_default-2-clause-refused
returns-in_default-2-clause-refused c =
    let next = rw c.in-Some.is at c.in_ok-line.ensures.event in
    bad_line world_line (IsWorldEvent c.args.shape) (codes "world 1" ∷ []) MAX_WORLD_EVENTS (HasWorldForm c.args.shape) (λ events line form. form)
    c.args.text.now c.loop-world.world.items c.loop-world.rest.now c.in-Some.line.now c.in-Some.behind.now _ (omega (arith, c.loop-world.world.ok.0)) c.loop-world.invariant
    next.0 next.1 (λ full. let is : c.len-is_full.result ≡ MAX_WORLD_EVENTS = omega (arith, c.loop-world.world.ok.0) in next.2 (eq-eqb _ _ is)) (rw c.in_default-2.is at c.in_ok-event.ensures.none)

pub loop-world-preserved : goal.loop-world-preserved
loop-world-preserved c =
    let next = rw c.in-Some.is at c.in_ok-line.ensures.event in
    let event = rw c.in-Some-2.is at c.in_ok-event.ensures.found in
    rw c.in_ok-push.ensures.items
    (reads_event world_line (IsWorldEvent c.args.shape) (codes "world 1" ∷ []) MAX_WORLD_EVENTS (HasWorldForm c.args.shape) (λ events event right. (event, right, refl))
    c.args.text.now c.loop-world.world.items c.loop-world.rest.now c.in-Some.line.now c.in-Some.behind.now c.in-Some-2.event c.loop-world.invariant
    next.0 (λ full. let is : c.len-is_full.result ≡ MAX_WORLD_EVENTS = omega (arith, c.loop-world.world.ok.0) in next.2 (eq-eqb _ _ is)) event.0 event.1)
