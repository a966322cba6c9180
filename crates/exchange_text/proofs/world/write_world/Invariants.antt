use Rattle.std.proofs.Common.{◌≡◌, ◌++◌, codes, take, map}
use Rattle.exchange_text.specs.EventLine.{world_line}
use Rattle.exchange_text.specs.Text.{ended_lines, ended}
use Rattle.exchange_text.proofs.world.write_world.Given as goal

abbrev pub invariant-loop-event : goal.invariant-loop-event
invariant-loop-event l = l.text.items ≡ ended (codes "world 1") ++ ended_lines (map world_line (take l.event-index l.world))
