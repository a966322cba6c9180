use Rattle.std.proofs.Common.{◌≡◌, ◌<◌, All, arith, inr, length, map, ◌∙◌, ap}
use Rattle.std.proofs.lemmas.Grind.{common_steps}
use Rattle.std.proofs.lemmas.List.{length-map}
use Rattle.std.proofs.lemmas.List.Elements.{All-map}
use Rattle.hypothesis.specs.declared.hypothesis.Hypothesis.{Hypothesis}
use Rattle.hypothesis_pool.proofs.Renumbered.{keep_all, keep_with}
use Rattle.hypothesis_pool.proofs.thin.keep_thin.Goals as goal

pub returns-then-len-kept-clause-skeletons : goal.returns-then-len-kept-clause-skeletons
returns-then-len-kept-clause-skeletons c = keep_all c.args.trail.now c.args.hypotheses.now c.requires

pub keep_only-requires : goal.keep_only-requires
keep_only-requires c =
    let is : c.deref_mut.result.now ≡ map (λ (h : Hypothesis). h.step) c.args.hypotheses.now = c.deref_mut.ensures.value ∙ c.in_ok-steps.ensures in
    let all : All (λ step. step < length c.args.trail.now) c.deref_mut.result.now
    = rw is (All-map (λ step. step < length c.args.trail.now) (λ (h : Hypothesis). h.step) c.args.hypotheses.now c.requires) in
    all

pub returns-clause-skeletons : goal.returns-clause-skeletons
returns-clause-skeletons c =
    let old : c.deref_mut.result.now ≡ map (λ (h : Hypothesis). h.step) c.args.hypotheses.now = c.deref_mut.ensures.value ∙ c.in_ok-steps.ensures in
    let new : c.deref.result.now ≡ c.keep_only.new.steps = grind (arith, common_steps) in
    let one_each : length c.keep_only.new.steps ≡ length c.args.hypotheses.now
    = c.keep_only.auto.steps ∙ ap length old ∙ length-map c.args.hypotheses.now (λ (h : Hypothesis). h.step) in
    rw (c.set_steps.ensures, new)
    (keep_with c.args.trail.now c.keep_only.new.self c.args.hypotheses.now c.keep_only.new.steps one_each c.in_ok-keep_only.ensures.numbers (rw old at c.in_ok-keep_only.ensures.kept))

pub returns-clause-few : goal.returns-clause-few
returns-clause-few c =
    let old : c.deref_mut.result.now ≡ map (λ (h : Hypothesis). h.step) c.args.hypotheses.now = c.deref_mut.ensures.value ∙ c.in_ok-steps.ensures in
    rw c.len-2.ensures.count (inr (rw old at c.in_ok-keep_only.ensures.few))
