use Rattle.std.proofs.Common.{◌∷◌, [], ◌∙◌, subst}
use Rattle.std.proofs.lemmas.List.{take_all}
use Rattle.spec_model.specs.declared.config.Config.{Config}
use Rattle.spec_model.specs.World.{server_of}
use Rattle.spec_model.specs.Run.{IsRun, Steps}
use Rattle.explain_replay.proofs.Replaying.{no_step_at, run_with}
use Rattle.explain_replay.proofs.replay.first_no_step.Goals as goal

pub returns-then-not-branch : goal.returns-then-not-branch
returns-then-not-branch c =
    let ends = rw c.if-not-branch.true at c.in_ok-follows.ensures.ends in
    no_step_at c.args.spec.now c.args.world.now c.loop-number.number c.index-world-number.result c.loop-number.server.config c.loop-number-test.true c.index-world-number.is
    c.loop-number.invariant.run
    (subst (λ spec. (to : Config) → Steps spec c.loop-number.server.config (server_of (c.index-world-number.result ∷ [])) to → ⊥) c.loop-number.invariant.spec ends)

pub loop-number-preserved : goal.loop-number-preserved
loop-number-preserved c =
    let goes_on = rw c.if-not-branch.false at c.in_ok-follows.ensures.goes_on in
    record {
      spec = c.follows.ensures.spec ∙ c.loop-number.invariant.spec;
      run = run_with c.args.spec.now c.args.world.now c.loop-number.number c.index-world-number.result c.loop-number.server.config c.follows.new.server.config
          c.loop-number-test.true c.index-world-number.is c.loop-number.invariant.run
          (subst (λ spec. Steps spec c.loop-number.server.config (server_of (c.index-world-number.result ∷ [])) c.follows.new.server.config) c.loop-number.invariant.spec goes_on);
    }

pub returns : goal.returns
returns c =
    subst (λ world. IsRun c.args.spec.now (server_of world)) (take_all c.loop-number.number c.args.world.now c.loop-number-test.false)
    (c.loop-number.server.config, c.loop-number.invariant.run)
