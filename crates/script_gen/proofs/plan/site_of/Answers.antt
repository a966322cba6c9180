use Rattle.std.proofs.Common.{sym, ◌∙◌, arith}
use Rattle.script_gen.proofs.SitesFound.{none_behind_text}
use Rattle.script_gen.proofs.plan.site_of.Goals as goal

pub returns-in_err-start-in-Text : goal.returns-in_err-start-in-Text
returns-in_err-start-in-Text c =
    c.from_residual.ensures
    ∙ sym (none_behind_text c.args.picks.now c.loop-part.start c.args.parts.now c.loop-part.part-index c.part-item.result c.in-Text.text c.loop-part-test.true c.part-item.is c.in-Text.is (omega (arith, c.len.ensures, c.in_err-start-in-Text.ensures)))
    ∙ c.loop-part.invariant
