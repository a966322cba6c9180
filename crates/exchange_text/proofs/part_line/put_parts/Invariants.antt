use Rattle.std.proofs.Common.{◌≡◌, ◌++◌, take, flat_map}
use Rattle.exchange_text.specs.ScriptText.{spaced_part}
use Rattle.exchange_text.proofs.part_line.put_parts.Given as goal

abbrev pub invariant-loop-part : goal.invariant-loop-part
invariant-loop-part l = l.out.items ≡ l.fn.out.items ++ flat_map spaced_part (take l.part-index l.parts)
