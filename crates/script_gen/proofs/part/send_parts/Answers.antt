use Rattle.std.proofs.Common.{◌≡◌, ◌+◌, ◌++◌, drop, ap, sym, ◌∙◌, arith}
use Rattle.std.proofs.lemmas.Result.{IfOk-weaker}
use Rattle.script_gen.specs.Parts.{one_at_least, parts_of, within}
use Rattle.script_gen.proofs.TemplateParts.{none_left, parts_more}
use Rattle.script_gen.proofs.part.send_parts.Goals as goal

pub loop-item-preserved : goal.loop-item-preserved
loop-item-preserved c =
    let more = parts_more c.args.plan.now c.args.earlier c.args.template.now c.loop-item.item-index c.item-item.result c.loop-item.words c.part_of.new.words c.in_ok-part.part
    c.loop-item-test.true c.item-item.is c.in_ok-part.ensures.part c.in_ok-part.ensures.left in
    record {
      parts = c.in_ok-put.ensures.parts (parts_of c.args.plan.now c.args.earlier (drop (c.loop-item.item-index + 1) c.args.template.now) c.part_of.new.words).0
          ∙ ap (λ drawn. c.loop-item.sent.parts ++ within c.loop-item.sent.room drawn.0) (sym more)
          ∙ c.loop-item.invariant.parts;
      left = ap (λ drawn. drawn.1) (sym more) ∙ c.loop-item.invariant.left;
      each = c.in_ok-put.ensures.fits c.args.plan.now.shape.framing c.in_ok-part.ensures.fits c.loop-item.invariant.each;
      few = omega (arith, c.in_ok-put.ensures.few, c.loop-item.invariant.few);
      room = c.in_ok-put.ensures.room ∙ c.loop-item.invariant.room;
    }

pub returns-clause-parts : goal.returns-clause-parts
returns-clause-parts c =
    let none = none_left c.args.plan.now c.args.earlier c.args.template.now c.loop-item.item-index c.loop-item.sent.room c.loop-item.words c.loop-item.sent.parts c.loop-item-test.false in
    IfOk-weaker c.finished.result (λ parts. parts ≡ one_at_least c.loop-item.sent.parts) _
    (λ parts is. is ∙ ap one_at_least (sym none.0 ∙ c.loop-item.invariant.parts)) c.finished.ensures

pub returns-clause-left : goal.returns-clause-left
returns-clause-left c =
    let none = none_left c.args.plan.now c.args.earlier c.args.template.now c.loop-item.item-index c.loop-item.sent.room c.loop-item.words c.loop-item.sent.parts c.loop-item-test.false in
    IfOk-weaker c.finished.result (λ parts. parts ≡ one_at_least c.loop-item.sent.parts) _
    (λ parts is. sym none.1 ∙ c.loop-item.invariant.left) c.finished.ensures
