use Rattle.std.proofs.Common.{◌≡◌, Some, None, get_or, sym, subst}
use Rattle.std.proofs.lemmas.Bool.Decides.{Decides-eqb}
use Rattle.std.proofs.lemmas.Slice.Eq.{strip_prefix_is}
use Rattle.hypothesis.proofs.Joining.{joined_next, not_joined}
use Rattle.hypothesis.proofs.receive.is_joined.Goals as goal

pub returns-in-None : goal.returns-in-None
returns-in-None c =
    let piece = c.as_slice.result.now in
    let place = c.loop-piece.piece-index in
    let is = subst (λ text. text ≡ get_or c.args.pieces.now place text) (sym c.as_slice.ensures) c.piece-item.is in
    let other = strip_prefix_is Decides-eqb c.loop-piece.rest.now piece None c.in-None.ensures.cases in (
      λ wrong. absurd (cc (wrong)),
      λ same. absurd (not_joined c.args.pieces.now place piece c.args.message.now c.loop-piece.rest.now c.loop-piece-test.true is c.loop-piece.invariant other same),
    )

pub loop-piece-preserved : goal.loop-piece-preserved
loop-piece-preserved c =
    let piece = c.as_slice.result.now in
    let place = c.loop-piece.piece-index in
    let is = subst (λ text. text ≡ get_or c.args.pieces.now place text) (sym c.as_slice.ensures) c.piece-item.is in
    let begins = strip_prefix_is Decides-eqb c.loop-piece.rest.now piece (Some c.in-Some.later) c.in-Some.ensures.cases in
    joined_next c.args.pieces.now place piece c.args.message.now c.loop-piece.rest.now c.loop-piece-test.true is c.loop-piece.invariant c.in-Some.later.now begins
