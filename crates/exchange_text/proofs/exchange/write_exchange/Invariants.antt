use Rattle.std.proofs.Common.{◌≡◌, ◌++◌, codes, take, map}
use Rattle.exchange_text.specs.EventLine.{client_line}
use Rattle.exchange_text.specs.Text.{ended_lines, ended}
use Rattle.exchange_text.proofs.exchange.write_exchange.Given as goal

abbrev pub invariant-loop-event : goal.invariant-loop-event
invariant-loop-event l = l.text.items ≡ ended (codes "exchange 1") ++ ended_lines (map client_line (take l.event-index l.exchange))
