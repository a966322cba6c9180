use Rattle.std.proofs.Common.{◌-◌, get_or, take, drop, length, sym, subst, arith}
use Rattle.std.proofs.lemmas.List.{length_push, nil_from_length}
use Rattle.exchange_text.proofs.PartLines.{HaveRead, first_and_others, nothing_left, one_more_part}
use Rattle.exchange_text.proofs.part_line.parts_of.Goals as goal

pub returns-in_default : goal.returns-in_default
returns-in_default c = λ written few.
    nothing_left c.args.bytes.now c.loop.parts
    (subst (λ rest. HaveRead c.args.bytes.now c.loop.parts rest) (nil_from_length c.loop.rest.now (omega arith)) c.loop.invariant.0) written

pub loop-preserved : goal.loop-preserved
loop-preserved c = (
  rw c.in_ok-push.ensures.ok
      (one_more_part c.args.bytes.now c.loop.parts c.loop.rest.now (get_or c.loop.rest.now 0 0) (take (length c.loop.rest.now - 1) (drop 1 c.loop.rest.now)) c.in_ok-part.part c.in_ok-part.behind.now c.loop.invariant.0
      (first_and_others c.loop.rest.now (omega arith)) (sym c.in_ok-part.ensures)),
  rw c.in_ok-push.ensures.ok (omega (arith, length_push c.loop.parts c.in_ok-part.part)),
)
