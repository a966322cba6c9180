use Rattle.std.proofs.Common.{◌∙◌, ap, ◌++◌}
use Rattle.spec_model.proofs.Joining.{joined_next}
use Rattle.spec_model.proofs.list.joined.Goals as goal

pub loop-piece-preserved : goal.loop-piece-preserved
loop-piece-preserved c =
    c.in_ok-extend_from_slice.ensures.items ∙ ap (λ piece. c.loop-piece.text.items ++ piece) c.as_slice.ensures
    ∙ joined_next c.args.pieces.now c.loop-piece.piece-index _ c.loop-piece.text.items c.loop-piece-test.true c.piece-item.is c.loop-piece.invariant
