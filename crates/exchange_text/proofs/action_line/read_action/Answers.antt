-- The action that was read is the only one that can have the line: so none has it where that one may not stand in the script, or has
-- another line.
use Rattle.std.proofs.Common.{◌≡◌, true, sym, ◌∙◌, ap, subst, arith}
use Rattle.std.proofs.lemmas.Bool.Decides.{Decides-eqb}
use Rattle.std.proofs.lemmas.Slice.Eq.{slice_eq-Decides}
use Rattle.exchange_text.specs.ScriptText.{IsScriptAction, action_line}
use Rattle.exchange_text.proofs.ActionLines.{legible}
use Rattle.exchange_text.proofs.action_line.read_action.Goals as goal

pub returns-in_default-clause-none : goal.returns-in_default-clause-none
returns-in_default-clause-none c = λ action right same.
    let read = c.in_ok-conn.ensures action (legible c.args.shape c.args.conns (omega arith) action right) same in
    absurd (cc)

pub returns-then-not-is_script_action-clause-none : goal.returns-then-not-is_script_action-clause-none
returns-then-not-is_script_action-clause-none c = λ action right same.
    let read = c.in_ok-conn.ensures action (legible c.args.shape c.args.conns (omega arith) action right) same in
    let is : action ≡ (c.in-Some.conn, c.in-Some.action) = cc in
    let right' = c.if-not-is_script_action.ensures.1 (subst (IsScriptAction c.args.shape c.args.conns) is right) in
    absurd (cc)

pub returns-else-eq-clause-none : goal.returns-else-eq-clause-none
returns-else-eq-clause-none c = λ action right same.
    let read = c.in_ok-conn.ensures action (legible c.args.shape c.args.conns (omega arith) action right) same in
    let is : action ≡ (c.in-Some.conn, c.in-Some.action) = cc in
    let written = rw c.in_ok-spelled.ensures.items at c.in_ok-put_action.ensures in
    let spelled : c.as_slice.result.now ≡ c.args.line.now = c.as_slice.ensures.value ∙ (written ∙ (ap action_line (sym is) ∙ same)) in
    let equal : c.eq.result ≡ true = (slice_eq-Decides Decides-eqb _ _ _ c.eq.ensures).1 spelled in
    absurd (cc)
