use Rattle.exchange_text.proofs.PartLines.{escaped_step, plain_step}
use Rattle.exchange_text.proofs.part_line.quoted_length.Goals as goal
use Rattle.exchange_text.proofs.part_line.quoted_length.Goals.{then-is_escaped, else-is_escaped+else-byte-eq34}

pub loop-place-preserved : goal.loop-place-preserved
loop-place-preserved c = elim c.if-is_escaped.branch [
  | then-is_escaped w ↦
      escaped_step c.args.bytes.now c.loop-place.place _ c.loop-place.is_escaped c.if-is_escaped.is_escaped c.loop-place-test.true w.if-is_escaped.true w.is_escaped-is c.loop-place.invariant
  | else-is_escaped+else-byte-eq34 w ↦
      plain_step c.args.bytes.now c.loop-place.place _ c.loop-place.is_escaped c.if-is_escaped.is_escaped c.loop-place-test.true w.if-is_escaped.false w.if-byte-eq34.false w.is_escaped-is c.loop-place.invariant
]
