-- Each way into the loop, out of it and through it, by what has been read and the line that is next.
use Rattle.std.proofs.Common.{◌≡◌, arith}
use Rattle.std.proofs.lemmas.Bool.{eq-eqb, eqb-true}
use Rattle.std.proofs.lemmas.Result.{err_from_is_err_and}
use Rattle.exchange_text.specs.ScriptText.{HasScriptForm, IsScriptAction, action_line}
use Rattle.exchange_text.specs.declared.script.TheConstants.{MAX_ACTIONS}
use Rattle.exchange_text.proofs.Reading.{bad_line, no_next_event, reads_event, reads_head}
use Rattle.exchange_text.proofs.ScriptReading.{forms, head_of, head_read, only_forms}
use Rattle.exchange_text.proofs.script.read_lines.Goals as goal

pub loop-actions-init : goal.loop-actions-init
loop-actions-init c =
    rw c.new-actions.ensures.items
    (reads_head action_line (IsScriptAction c.args.shape c.in_ok-conns.conns) (head_of c.in_ok-conns.conns) MAX_ACTIONS (HasScriptForm c.args.shape)
    c.args.text.now c.in_ok-conns.rest.now c.in_ok-conns.ensures.found.1 (head_read c.args.shape (omega arith) c.in_ok-conns.conns c.in_ok-conns.ensures.found.0))

pub returns-in_err-line-clause-refused : goal.returns-in_err-line-clause-refused
returns-in_err-line-clause-refused c =
    let p = err_from_is_err_and c.from_residual-in_err-line.result c.from_residual-in_err-line.ensures.1 in
    rw (p.1, p.2)
    (no_next_event action_line (IsScriptAction c.args.shape c.in_ok-conns.conns) (head_of c.in_ok-conns.conns) MAX_ACTIONS (HasScriptForm c.args.shape)
    c.args.text.now c.loop-actions.actions.items c.loop-actions.rest.now _ _ _ (omega (arith, c.loop-actions.actions.ok.0))
    (λ full. let is : c.len-is_full.result ≡ MAX_ACTIONS = eqb-true _ _ full in omega (arith, c.loop-actions.actions.ok.0)) c.loop-actions.invariant c.in_err-line.ensures.refused)

pub returns-in_default-2-clause-refused : goal.returns-in_default-2-clause-refused
returns-in_default-2-clause-refused c =
    let next = rw c.in-Some.is at c.in_ok-line.ensures.event in
    bad_line action_line (IsScriptAction c.args.shape c.in_ok-conns.conns) (head_of c.in_ok-conns.conns) MAX_ACTIONS (HasScriptForm c.args.shape)
    (only_forms c.args.shape (omega arith) c.in_ok-conns.conns c.in_ok-conns.ensures.found.0)
    c.args.text.now c.loop-actions.actions.items c.loop-actions.rest.now c.in-Some.line.now c.in-Some.behind.now _ (omega (arith, c.loop-actions.actions.ok.0)) c.loop-actions.invariant
    next.0 next.1 (λ full. let is : c.len-is_full.result ≡ MAX_ACTIONS = omega (arith, c.loop-actions.actions.ok.0) in next.2 (eq-eqb _ _ is)) (rw c.in_default-2.is at c.in_ok-action.ensures.none)

pub loop-actions-preserved : goal.loop-actions-preserved
loop-actions-preserved c =
    let next = rw c.in-Some.is at c.in_ok-line.ensures.event in
    let action = rw c.in-Some-2.is at c.in_ok-action.ensures.found in
    rw c.in_ok-push.ensures.items
    (reads_event action_line (IsScriptAction c.args.shape c.in_ok-conns.conns) (head_of c.in_ok-conns.conns) MAX_ACTIONS (HasScriptForm c.args.shape)
    (forms c.args.shape (omega arith) c.in_ok-conns.conns c.in_ok-conns.ensures.found.0)
    c.args.text.now c.loop-actions.actions.items c.loop-actions.rest.now c.in-Some.line.now c.in-Some.behind.now c.in-Some-2.action c.loop-actions.invariant
    next.0 (λ full. let is : c.len-is_full.result ≡ MAX_ACTIONS = omega (arith, c.loop-actions.actions.ok.0) in next.2 (eq-eqb _ _ is)) action.0 action.1)
