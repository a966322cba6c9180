use Rattle.std.proofs.Common.{◌≡◌, ◌++◌, take, map}
use Rattle.exchange_text.specs.ScriptText.{action_line}
use Rattle.exchange_text.specs.Text.{ended_lines}
use Rattle.exchange_text.proofs.ScriptReading.{head_of}
use Rattle.exchange_text.proofs.script.write_script.Given as goal

abbrev pub invariant-loop-conn : goal.invariant-loop-conn
invariant-loop-conn l = l.text.items ≡ ended_lines (head_of l.script.conns) ++ ended_lines (map action_line (take l.conn-index l.conn-items))
