use Rattle.std.proofs.Common.{◌∙◌, ap, sym, subst, arith, Some}
use Rattle.std.proofs.lemmas.Option.{slice_get_within}
use Rattle.net_world.specs.declared.way.Way.TheVariants.{Down}
use Rattle.net_world.specs.Cursors.{Follows}
use Rattle.net_world.proofs.Following.{ends-garbled, follows-arrival, follows-sends}
use Rattle.net_world.proofs.Passing.{low_arrival}
use Rattle.net_world.proofs.follow_client.Goals as goal
use Rattle.spec_model.specs.declared.event.WorldEvent.TheVariants.{Client}

pub pass-requires-clause-low : goal.pass-requires-clause-low
pass-requires-clause-low c =
    low_arrival Down c.in-Receives.conn c.in-Receives.message c.args.world.now c.args.place c.requires.low (c.requires.there ∙ ap (λ event. Some (Client event)) c.in-Receives.is)

pub pass-requires-clause-there : goal.pass-requires-clause-there
pass-requires-clause-there c = let within = slice_get_within c.args.world.now c.args.place _ c.requires.there in omega arith

pub pass-requires-clause-behind : goal.pass-requires-clause-behind
pass-requires-clause-behind c =
    let low = low_arrival Down c.in-Receives.conn c.in-Receives.message c.args.world.now c.args.place c.requires.low (c.requires.there ∙ ap (λ event. Some (Client event)) c.in-Receives.is) in
    (c.requires.read.read Down c.in-Receives.conn low).within

pub returns-in-Sends : goal.returns-in-Sends
returns-in-Sends c =
    follows-sends c.args.cursors.now c.args.world.now c.args.place c.requires.before c.requires.read c.in-Sends.field-0 c.in-Sends.field-1
    (c.requires.there ∙ ap (λ event. Some (Client event)) c.in-Sends.is)

pub returns-in-Receives : goal.returns-in-Receives
returns-in-Receives c =
    let there = c.requires.there ∙ ap (λ event. Some (Client event)) c.in-Receives.is in
    let low = low_arrival Down c.in-Receives.conn c.in-Receives.message c.args.world.now c.args.place c.requires.low there in
    subst (λ event. Follows c.args.world.now c.args.place (Client event) c.pass.new.self c.pass.result) (sym c.in-Receives.is)
    (follows-arrival c.args.cursors.now c.args.world.now c.args.place c.requires.before c.requires.read Down c.in-Receives.conn c.in-Receives.message c.pass.new.self c.pass.result low there c.pass.ensures)

pub returns-in-Garbles : goal.returns-in-Garbles
returns-in-Garbles c = (
  rw c.in-Garbles.is tt,
  ends-garbled c.args.cursors.now c.args.world.now c.args.place c.requires.before c.requires.read c.in-Garbles.field-0
      (c.requires.there ∙ ap (λ event. Some (Client event)) c.in-Garbles.is),
)
