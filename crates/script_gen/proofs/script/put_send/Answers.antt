use Rattle.std.proofs.Common.{ap, arith}
use Rattle.exchange_text.specs.declared.action.Action.TheVariants.{Send}
use Rattle.script_gen.specs.Generator.{sends_on}
use Rattle.script_gen.proofs.TalliedConns.{one_send_at_most, sends_on_within}
use Rattle.script_gen.proofs.script.put_send.Goals as goal

pub put-requires-clause-countable : goal.put-requires-clause-countable
put-requires-clause-countable c = let within = sends_on_within c.args.conn c.args.draft.now.actions in omega (arith, within, c.requires.few)

pub overflow_add-tally : goal.overflow_add-tally
overflow_add-tally c =
    let within = sends_on_within c.args.conn c.args.draft.now.actions in
    let sends = ap (λ tally. tally.sends) c.tally-tally.ensures in
    omega (arith, within, sends, c.requires.few)

pub put-requires-2-clause-countable : goal.put-requires-2-clause-countable
put-requires-2-clause-countable c =
    let within = sends_on_within c.args.conn c.args.draft.now.actions in
    let more = one_send_at_most c.args.conn c.args.conn c.args.draft.now.actions (Send c.args.parts) in
    let is = ap (λ script. sends_on c.args.conn script.actions) c.in_ok-put.ensures in
    omega (arith, within, more, is, c.requires.few)
