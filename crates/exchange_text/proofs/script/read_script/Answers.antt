-- A text has one outcome, so what the reading gives is that one.
use Rattle.exchange_text.proofs.ScriptReading.{only_script, only_script_refusal}
use Rattle.exchange_text.proofs.script.read_script.Goals as goal

pub returns-clause-only : goal.returns-clause-only
returns-clause-only c =
    only_script c.args.shape.now c.read_lines.ensures.range (λ read. read) c.args.text.now _ c.read_lines.ensures.found c.read_lines.ensures.refused

pub returns-clause-only_refused : goal.returns-clause-only_refused
returns-clause-only_refused c =
    only_script_refusal c.args.shape.now c.read_lines.ensures.range (λ read. read) c.args.text.now _ c.read_lines.ensures.found c.read_lines.ensures.refused
