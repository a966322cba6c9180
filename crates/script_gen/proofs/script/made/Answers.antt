use Rattle.std.proofs.Common.{◌+◌, ◌-◌, ap, sym, ◌∙◌, arith}
use Rattle.script_gen.proofs.StepsMade.{steps_more, steps_none}
use Rattle.script_gen.proofs.script.made.Goals as goal

pub loop-preserved : goal.loop-preserved
loop-preserved c =
    let more = steps_more c.args.plan.now (c.args.count - c.loop.counter) (c.args.count - (c.loop.counter + 1)) c.loop.draft.actions c.make_step.new.draft.actions c.loop.words c.make_step.new.words
    (omega (arith, c.loop-test.true)) (ap (λ script. script.actions) c.in_ok-make_step.ensures.actions) c.in_ok-make_step.ensures.left in
    record {
      actions = ap (λ drawn. drawn.0) more ∙ c.loop.invariant.actions;
      made = c.in_ok-make_step.ensures.made;
      sends = omega (arith, c.in_ok-make_step.ensures.one_send, c.loop.invariant.sends);
    }

pub returns-clause-script : goal.returns-clause-script
returns-clause-script c =
    let none = steps_none c.args.plan.now (c.args.count - c.loop.counter) c.loop.draft.actions c.loop.words (omega (arith, c.loop-test.false)) in
    let actions = sym none ∙ c.loop.invariant.actions in
    c.into_script.ensures ∙ (λ i. record { conns = c.loop.invariant.made.conns i; actions = actions i })
