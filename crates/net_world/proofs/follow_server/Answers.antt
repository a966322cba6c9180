use Rattle.std.proofs.Common.{◌∙◌, ap, sym, subst, arith, Some}
use Rattle.std.proofs.lemmas.Option.{slice_get_within}
use Rattle.net_world.specs.declared.way.Way.TheVariants.{Up}
use Rattle.net_world.specs.Cursors.{Follows}
use Rattle.net_world.proofs.Following.{follows-arrival, follows-server}
use Rattle.net_world.proofs.Passing.{low_arrival}
use Rattle.net_world.proofs.follow_server.Goals as goal
use Rattle.spec_model.specs.declared.event.WorldEvent.TheVariants.{Server}

pub pass-requires-clause-low : goal.pass-requires-clause-low
pass-requires-clause-low c =
    low_arrival Up c.in-Take.conn c.in-Take.message c.args.world.now c.args.place c.requires.low (c.requires.there ∙ ap (λ event. Some (Server event)) c.in-Take.is)

pub pass-requires-clause-there : goal.pass-requires-clause-there
pass-requires-clause-there c = let within = slice_get_within c.args.world.now c.args.place _ c.requires.there in omega arith

pub pass-requires-clause-behind : goal.pass-requires-clause-behind
pass-requires-clause-behind c =
    let low = low_arrival Up c.in-Take.conn c.in-Take.message c.args.world.now c.args.place c.requires.low (c.requires.there ∙ ap (λ event. Some (Server event)) c.in-Take.is) in
    (c.requires.read.read Up c.in-Take.conn low).within

pub returns-in-Take : goal.returns-in-Take
returns-in-Take c =
    let there = c.requires.there ∙ ap (λ event. Some (Server event)) c.in-Take.is in
    let low = low_arrival Up c.in-Take.conn c.in-Take.message c.args.world.now c.args.place c.requires.low there in
    subst (λ event. Follows c.args.world.now c.args.place (Server event) c.pass.new.self c.pass.result) (sym c.in-Take.is)
    (follows-arrival c.args.cursors.now c.args.world.now c.args.place c.requires.before c.requires.read Up c.in-Take.conn c.in-Take.message c.pass.new.self c.pass.result low there c.pass.ensures)

pub returns-in_default : goal.returns-in_default
returns-in_default c =
    follows-server c.args.cursors.now c.args.world.now c.args.place c.requires.before c.requires.read c.args.event.now c.requires.there c.in_default.not-Take
