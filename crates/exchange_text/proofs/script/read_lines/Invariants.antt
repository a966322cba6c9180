use Rattle.std.proofs.Common.{length}
use Rattle.exchange_text.specs.ScriptText.{HasScriptForm, IsScriptAction, action_line}
use Rattle.exchange_text.specs.declared.script.TheConstants.{MAX_ACTIONS}
use Rattle.exchange_text.proofs.Reading.{HasRead}
use Rattle.exchange_text.proofs.ScriptReading.{head_of}
use Rattle.exchange_text.proofs.script.read_lines.Given as goal

abbrev pub invariant-loop-actions : goal.invariant-loop-actions
invariant-loop-actions l =
    HasRead action_line (IsScriptAction l.shape l.conns) (head_of l.conns) MAX_ACTIONS (HasScriptForm l.shape) l.text l.actions.items l.rest

abbrev pub decreases-loop-actions : goal.decreases-loop-actions
decreases-loop-actions l = length l.rest
