use Rattle.std.proofs.Common.{◌≡◌, rules, [], ap, sym, subst, ◌∙◌, arith}
use Rattle.std.specs.Prelude.{slice_index_or}
use Rattle.std.proofs.lemmas.List.{get_or_read_under}
use Rattle.std.proofs.lemmas.Result.{on_ok_weaker}
use Rattle.script_gen.specs.Generator.{sent_behind, step}
use Rattle.script_gen.specs.Ready.{IsMade}
use Rattle.script_gen.proofs.StepsMade.{sent_made, step_is}
use Rattle.script_gen.proofs.TalliedConns.{sends_on_within}
use Rattle.script_gen.proofs.script.make_step.Goals as goal

pub send_parts-requires-clause-few_sent : goal.send_parts-requires-clause-few_sent
send_parts-requires-clause-few_sent c =
    let within = sends_on_within c.draw-conn.result c.args.draft.now.actions in
    let sends = ap (λ tally. tally.sends) c.tally-earlier.ensures in
    omega (arith, within, sends, c.requires.few)

drawn : (c : goal.After-put_send) → step c.args.plan.now c.args.draft.now.actions c.args.words.now
    ≡ (sent_behind c.args.draft.now.actions c.draw-conn.result c.in_ok-parts.parts c.draw-pause.result, c.draw-pause.new.self)
drawn c =
    let plan = c.args.plan.now in
    let template : c.as_slice-2.result.now ≡ slice_index_or plan.templates c.draw-number.result [] =
    c.as_slice-2.ensures ∙ get_or_read_under plan.templates c.draw-number.result c.len.result c.index-as_slice-number.result [] (search rules) c.draw-number.ensures.below c.len.ensures in
    step_is plan c.args.draft.now.actions c.args.words.now c.draw-conn.new.self c.draw-number.new.self c.send_parts.new.words c.draw-pause.new.self
    c.from.result c.len.result c.draw-conn.result c.draw-number.result c.tally-earlier.result.sends c.draw-pause.result c.as_slice-2.result.now c.in_ok-parts.parts
    c.from.ensures c.draw-conn.ensures.drawn c.draw-conn.ensures.left c.len.ensures c.draw-number.ensures.drawn c.draw-number.ensures.left
    template (ap (λ tally. tally.sends) c.tally-earlier.ensures) c.in_ok-parts.ensures.parts c.in_ok-parts.ensures.left c.draw-pause.ensures.drawn c.draw-pause.ensures.left

pub returns-clause-actions : goal.returns-clause-actions
returns-clause-actions c =
    on_ok_weaker c.put_send.result (λ put. put ∙ ap (λ step. record c.args.draft.now { actions = step.0 }) (sym (drawn c))) c.put_send.ensures

pub returns-clause-left : goal.returns-clause-left
returns-clause-left c = on_ok_weaker c.put_send.result (λ put. ap (λ step. step.1) (sym (drawn c))) c.put_send.ensures

pub returns-clause-made : goal.returns-clause-made
returns-clause-made c =
    on_ok_weaker c.put_send.result
    (λ put. subst (IsMade c.args.plan.now) (sym put)
    (sent_made c.args.plan.now c.args.draft.now c.draw-conn.result c.in_ok-parts.parts c.draw-pause.result (omega (arith, c.draw-conn.ensures.below, c.from.ensures)) c.in_ok-parts.ensures.fits c.requires.few c.requires.made))
    c.put_send.ensures
