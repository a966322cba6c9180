use Rattle.std.proofs.Common.{ℕ, List, sym, ap, ◌∙◌, subst}
use Rattle.spec_model.specs.declared.event.Mark.{Mark}
use Rattle.spec_model.specs.Layout.{laid_out}
use Rattle.spec_model.specs.Order.{AreTextsUpTo}
use Rattle.constraint_set.specs.Known.{IsSolution, Known}
use Rattle.hypothesis.specs.declared.course.Along.{Along}
use Rattle.explain_replay.specs.Explain.{RunPicking}
use Rattle.explain_replay.proofs.Explaining.{is_least, some_run}
use Rattle.explain_replay.proofs.explain.explain.Goals as goal

pub events_of-requires-clause-some : goal.events_of-requires-clause-some
events_of-requires-clause-some c =
    let along : Along = c.in_ok-end.field-0 in
    subst (λ (marks : List Mark). (events : _) × RunPicking c.args.spec.now c.args.exchange.now marks c.in_ok-texts.texts.items events) (sym c.as_slice.ensures)
    (some_run c.args.dual.now c.args.spec.now c.requires.same c.args.exchange.now c.args.skeleton.now along c.in_ok-end.ensures c.in_ok-texts.texts.items
    (subst (λ (known : Known). IsSolution known c.in_ok-texts.texts.items) c.facts.ensures c.in_ok-texts.ensures.solution))

pub returns : goal.returns
returns c =
    let along : Along = c.in_ok-end.field-0 in
    let picking : RunPicking c.args.spec.now c.args.exchange.now c.args.skeleton.now c.in_ok-texts.texts.items c.in_ok-events.events.items
    = subst (λ (marks : List Mark). RunPicking c.args.spec.now c.args.exchange.now marks c.in_ok-texts.texts.items c.in_ok-events.events.items) c.as_slice.ensures c.in_ok-events.ensures in
    is_least c.args.dual.now c.args.spec.now c.requires.same c.args.exchange.now c.args.skeleton.now along c.in_ok-end.ensures c.in_ok-texts.texts.items c.in_ok-events.events.items
    c.in_ok-world.world.items (subst (λ (known : Known). (others : List (List ℕ)) → IsSolution known others → AreTextsUpTo c.in_ok-texts.texts.items others) c.facts.ensures c.in_ok-texts.ensures.least)
    picking (c.in_ok-world.ensures ∙ ap (λ counts. laid_out c.args.exchange.now counts c.in_ok-events.events.items) c.deref.ensures.value)
