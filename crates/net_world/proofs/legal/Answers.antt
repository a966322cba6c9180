use Rattle.std.proofs.Common.{◌∙◌, ap, sym, Some}
use Rattle.std.proofs.lemmas.Bool.{false≢true}
use Rattle.std.proofs.lemmas.Option.{slice_get-get_or}
use Rattle.net_world.proofs.Following.{ends_at, not_legal}
use Rattle.net_world.proofs.legal.Goals as goal
use Rattle.spec_model.proofs.LegalWorlds.{IsLegal-nil}

pub loop-place-init : goal.loop-place-init
loop-place-init c = record { legal = IsLegal-nil; read = c.new-cursors.ensures c.args.world.now }

pub follow-requires-clause-there : goal.follow-requires-clause-there
follow-requires-clause-there c = slice_get-get_or c.args.world.now c.loop-place.place c.index-world-place.result c.loop-place-test.true ∙ ap Some (sym c.index-world-place.is)

pub returns-in-Err-clause-legal : goal.returns-in-Err-clause-legal
returns-in-Err-clause-legal c =
    (λ is. absurd (false≢true is), λ legal. absurd (not_legal c.args.world.now _ c.in-Err.ensures.1 legal))

pub returns-in-Err-clause-ends : goal.returns-in-Err-clause-ends
returns-in-Err-clause-ends c =
    ends_at c.args.world.now c.loop-place.place c.index-world-place.result c.follow.new.cursors c.in-Err.why c.loop-place.invariant.legal
    (slice_get-get_or c.args.world.now c.loop-place.place c.index-world-place.result c.loop-place-test.true ∙ ap Some (sym c.index-world-place.is)) c.in-Err.ensures
