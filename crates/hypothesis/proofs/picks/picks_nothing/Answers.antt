use Rattle.std.proofs.Common.{sym, ◌∙◌}
use Rattle.hypothesis.proofs.PickFree.{picks_told}
use Rattle.hypothesis.proofs.picks.picks_nothing.Goals as goal

pub returns : goal.returns
returns c =
    let told = picks_told c.args.spec.now in
    (λ passed. told.0 (sym c.passes.ensures ∙ passed), λ nothing. c.passes.ensures ∙ told.1 nothing)
