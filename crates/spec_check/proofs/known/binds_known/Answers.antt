use Rattle.std.proofs.Common.{◌||◌, ◌∙◌, ap, sym, take}
use Rattle.spec_rules.specs.Names.{is_known}
use Rattle.spec_check.proofs.KnownNames.{binds_known-hit, binds_known-miss}
use Rattle.spec_check.proofs.known.binds_known.Goals as goal
use Rattle.spec_check.proofs.known.binds_known.Goals.{then-is_known-via-then-is_known, then-is_known-via-else-is_known+then-is_known-2}

pub returns-then-is_known : goal.returns-then-is_known
returns-then-is_known c =
    let before = is_known (take c.loop-i.i c.args.bound.now) c.index-bound-i.result.name in
    let hit = binds_known-hit c.args.known.now c.args.bound.now c.loop-i.i c.index-bound-i.result c.loop-i-test.true c.index-bound-i.is in
    let told = sym c.is_known.ensures in
    sym (sym c.loop-i.invariant ∙ hit (elim c.then-is_known.branch [
      | then-is_known-via-then-is_known w ↦ ap (λ found. found || before) (told ∙ w.if-is_known.true)
      | then-is_known-via-else-is_known+then-is_known-2 w ↦ ap (λ found. found || before) (told ∙ w.if-is_known.false) ∙ (sym w.is_known-else-is_known.ensures ∙ w.if-is_known-2.true)
    ]))

pub loop-i-preserved : goal.loop-i-preserved
loop-i-preserved c =
    let not_known = sym c.is_known.ensures ∙ c.if-is_known.false in
    let not_before = sym c.is_known-else-is_known.ensures ∙ c.if-is_known-2.false in
    sym (binds_known-miss c.args.known.now c.args.bound.now c.loop-i.i c.index-bound-i.result c.loop-i-test.true c.index-bound-i.is not_known not_before) ∙ c.loop-i.invariant
