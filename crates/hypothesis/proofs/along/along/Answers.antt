use Rattle.std.proofs.Common.{◌≡◌, List, [], length, replicate, take, Option, Some, None, refl, sym, ap, ◌∙◌, subst, arith, take_all}
use Rattle.std.proofs.lemmas.List.{length-replicate}
use Rattle.spec_model.specs.declared.event.Mark.{Mark}
use Rattle.spec_model.specs.declared.event.Shape.{Shape}
use Rattle.hypothesis.specs.declared.along.Way.{Way}
use Rattle.hypothesis.specs.Along.{FollowsOn, IsAt}
use Rattle.hypothesis.specs.Expansions.{HoldsSends}
use Rattle.hypothesis.proofs.Courses.{at_opening, goes_along, holds_nothing, one_event_on}
use Rattle.hypothesis.proofs.along.along.Goals as goal

pub loop-event-init : goal.loop-event-init
loop-event-init c =
    let conns = c.args.dual.now.shape.conns in
    let inbox_is : c.in_ok-inbox.inbox ≡ replicate conns []
    = c.in_ok-inbox.ensures ∙ ap (λ (shape : Shape). replicate shape.conns []) c.shape.ensures in
    record {
      conns = ap length inbox_is ∙ length-replicate conns [];
      holds = subst (HoldsSends [] conns) (sym inbox_is) (holds_nothing conns);
      way = at_opening c.args.dual.now c.args.skeleton.now _ refl c.new-2.ensures.items c.in_ok-opening.ensures.stands;
    }

pub unreachable-requires : goal.unreachable-requires
unreachable-requires c =
    let dual = c.args.dual.now in
    let at = c.loop-event in
    let follows = λ (marks : List Mark) (next : Option Way). FollowsOn dual marks c.event-item.result at.inbox c.followed.new.inbox at.way next in
    let none : follows c.args.skeleton.now None
    = subst (follows c.args.skeleton.now) c.in_default.is (subst (λ marks. follows marks c.in_ok-next.field-0) c.as_slice.ensures c.in_ok-next.ensures.follows) in
    (one_event_on dual c.args.exchange.now c.args.skeleton.now c.requires.kept at.event-index c.event-item.result (omega arith) c.event-item.is at.inbox
    c.followed.new.inbox at.way None none c.requires.picks_nothing at.invariant.holds at.invariant.way).1

pub loop-event-preserved : goal.loop-event-preserved
loop-event-preserved c =
    let dual = c.args.dual.now in
    let at = c.loop-event in
    let follows = λ (marks : List Mark) (next : Option Way). FollowsOn dual marks c.event-item.result at.inbox c.followed.new.inbox at.way next in
    let next : follows c.args.skeleton.now (Some c.in-Some.next)
    = subst (follows c.args.skeleton.now) c.in-Some.is (subst (λ marks. follows marks c.in_ok-next.field-0) c.as_slice.ensures c.in_ok-next.ensures.follows) in
    let (holds, way) = one_event_on dual c.args.exchange.now c.args.skeleton.now c.requires.kept at.event-index c.event-item.result (omega arith) c.event-item.is at.inbox
    c.followed.new.inbox at.way (Some c.in-Some.next) next c.requires.picks_nothing at.invariant.holds at.invariant.way in
    record { conns = c.in_ok-next.ensures.inbox ∙ at.invariant.conns; holds = holds; way = way }

pub returns : goal.returns
returns c =
    let dual = c.args.dual.now in
    let at = c.loop-event in
    let whole : take at.event-index c.args.exchange.now ≡ c.args.exchange.now = take_all at.event-index c.args.exchange.now (omega arith) in
    goes_along dual c.args.exchange.now c.args.skeleton.now c.requires.kept at.way (subst (λ events. IsAt dual events c.args.skeleton.now at.way) whole at.invariant.way)
