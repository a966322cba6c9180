use Rattle.std.proofs.Common.{◌≡◌, ◌≤◌, ◌<◌, ◌+◌, ◌-◌, ℕ, List, length, take, drop, Option, Some, None, IfSome, sym, ap, ◌∙◌, refl, subst, arith, length-drop, take_all}
use Rattle.spec_model.specs.declared.event.Mark.{Mark}
use Rattle.spec_model.specs.Config.{with_item_at}
use Rattle.spec_model.specs.World.{IsOfShape}
use Rattle.hypothesis.specs.declared.along.Reached.{Reached}
use Rattle.hypothesis.specs.declared.along.Way.{Way}
use Rattle.hypothesis.specs.Along.{FollowsOn, ReachesReceipt}
use Rattle.hypothesis.proofs.FollowedEvents.{follows_send, follows_receipt, receipt_is_reached}
use Rattle.hypothesis.proofs.along.followed.Goals as goal

-- from a place within the list to its end stand all items that are left
to_the_end : {A : Type 0} (list : List A) (place : ℕ) → place ≤ length list → take (length list - place) (drop place list) ≡ drop place list
to_the_end list place within = take_all (length list - place) (drop place list) (omega (arith, length-drop place list))

pub overflow_add-result : goal.overflow_add-result
overflow_add-result c =
    let made = c.args.way.made in
    let skeleton = c.args.skeleton.now in
    let counts = λ (marks : List Mark) (reached : Option Reached). IfSome reached (λ (r : Reached). r.count ≤ length marks) in
    let within : counts (drop made skeleton) (Some c.in-Some.field-0)
    = subst (counts (drop made skeleton)) c.in-Some.is
    (subst (λ marks. counts marks c.in_ok-up_to_receipt-in-Receives.field-0) (to_the_end skeleton made c.requires.within) c.in_ok-up_to_receipt-in-Receives.ensures.within) in
    omega (arith, within, c.requires.within, length-drop made skeleton)

pub returns-in_ok-push-in-Sends-clause-follows : goal.returns-in_ok-push-in-Sends-clause-follows
returns-in_ok-push-in-Sends-clause-follows c =
    let dual = c.args.dual.now in
    let conn = c.in-Sends.conn in
    let inbox = c.args.inbox.now in
    let next : Way = record { along = record { end = c.args.way.along.end; blocks = c.push.new.self }; made = c.args.way.made } in
    let of_shape = subst (IsOfShape dual.shape) c.in-Sends.is c.requires.of_shape in
    let within : conn < length inbox = omega (arith, of_shape.0, c.requires.inbox) in
    let put : c.put.new.self ≡ with_item_at inbox conn c.in-Sends.message
    = c.in_ok-put-in-Sends.ensures.ok ∙ ap (with_item_at inbox conn) c.in_ok-copy-in-Sends.ensures in
    subst (λ event. FollowsOn dual c.args.skeleton.now event inbox c.put.new.self c.args.way (Some next)) (sym c.in-Sends.is)
    (follows_send dual c.nodes.ensures.tree c.args.skeleton.now c.args.way conn c.in-Sends.message inbox c.put.new.self next within put refl refl c.in_ok-push-in-Sends.ensures.items)

pub returns-in-None-clause-follows : goal.returns-in-None-clause-follows
returns-in-None-clause-follows c =
    let dual = c.args.dual.now in
    let inbox = c.args.inbox.now in
    let marks = drop c.args.way.made c.args.skeleton.now in
    let reaches = λ (marks : List Mark) (reached : Option Reached). ReachesReceipt dual inbox c.args.way.along.end marks c.in-Receives.conn c.in-Receives.message reached in
    let none : reaches marks None
    = subst (reaches marks) c.in-None.is
    (subst (λ marks. reaches marks c.in_ok-up_to_receipt-in-Receives.field-0) (to_the_end c.args.skeleton.now c.args.way.made c.requires.within)
    c.in_ok-up_to_receipt-in-Receives.ensures.reaches) in
    subst (λ event. FollowsOn dual c.args.skeleton.now event inbox inbox c.args.way None) (sym c.in-Receives.is)
    (receipt_is_reached dual c.nodes.ensures.tree c.args.skeleton.now c.args.way c.in-Receives.conn c.in-Receives.message inbox none)

pub returns-in_ok-push-in-Some-clause-follows : goal.returns-in_ok-push-in-Some-clause-follows
returns-in_ok-push-in-Some-clause-follows c =
    let dual = c.args.dual.now in
    let inbox = c.args.inbox.now in
    let marks = drop c.args.way.made c.args.skeleton.now in
    let reached : Reached = c.in-Some.field-0 in
    let next : Way
    = record { along = record { end = c.in-Some.field-0.end; blocks = c.push-in-Some.new.self }; made = c.args.way.made + c.in-Some.field-0.count } in
    let reaches = λ (marks : List Mark) (reached : Option Reached). ReachesReceipt dual inbox c.args.way.along.end marks c.in-Receives.conn c.in-Receives.message reached in
    let some : reaches marks (Some reached)
    = subst (reaches marks) c.in-Some.is
    (subst (λ marks. reaches marks c.in_ok-up_to_receipt-in-Receives.field-0) (to_the_end c.args.skeleton.now c.args.way.made c.requires.within)
    c.in_ok-up_to_receipt-in-Receives.ensures.reaches) in
    subst (λ event. FollowsOn dual c.args.skeleton.now event inbox inbox c.args.way (Some next)) (sym c.in-Receives.is)
    (follows_receipt dual c.nodes.ensures.tree c.args.skeleton.now c.args.way c.in-Receives.conn c.in-Receives.message inbox reached next some refl refl
    c.in_ok-push-in-Some.ensures.items)
