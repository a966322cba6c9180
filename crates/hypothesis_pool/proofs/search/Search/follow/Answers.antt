use Rattle.std.proofs.Common.{◌^◌, ◌<◌, Any, arith, length, refl, ⊎_elim}
use Rattle.std.proofs.lemmas.Bool.{false≢true}
use Rattle.hypothesis.specs.declared.hypothesis.Hypothesis.{Hypothesis}
use Rattle.hypothesis.specs.Left.{IsAlike}
use Rattle.hypothesis_pool.specs.Standing.{skeleton_in}
use Rattle.hypothesis_pool.proofs.UnderWay.{after_no, after_nothing, after_nothing_alike, after_nothing_forgotten, after_yes, after_yes_alike, next_stands, noted_stands_for, replaces_by_expansions, told_stands, turned_behind}
use Rattle.hypothesis_pool.proofs.search.Search.follow.Goals as goal

pub returns-in-No-clause-under_way : goal.returns-in-No-clause-under_way
returns-in-No-clause-under_way c =
    let stands = next_stands c.nodes.ensures.tree c.nodes.ensures.accepted c.requires.under_way in
    let told = c.in_ok-receive.ensures.ok c.args.dual.now c.args.seen.now.events.items (skeleton_in c.args.trail.now c.args.next) c.nodes.ensures.tree stands.stands in
    after_no c.nodes.ensures.tree c.nodes.ensures.accepted c.requires.under_way (rw c.in-No.is at told)

-- where the hypothesis explains the receipt
pub note_mark-requires : goal.note_mark-requires
note_mark-requires c =
    let stands = next_stands c.nodes.ensures.tree c.nodes.ensures.accepted c.requires.under_way in
    let told = c.in_ok-receive.ensures.ok c.args.dual.now c.args.seen.now.events.items (skeleton_in c.args.trail.now c.args.next) c.nodes.ensures.tree stands.stands in
    (told_stands c.nodes.ensures.tree c.nodes.ensures.accepted c.requires.under_way (rw c.in-Yes.is at told)).within

pub returns-then-has_alike-clause-under_way : goal.returns-then-has_alike-clause-under_way
returns-then-has_alike-clause-under_way c =
    let stands = next_stands c.nodes.ensures.tree c.nodes.ensures.accepted c.requires.under_way in
    let told = c.in_ok-receive.ensures.ok c.args.dual.now c.args.seen.now.events.items (skeleton_in c.args.trail.now c.args.next) c.nodes.ensures.tree stands.stands in
    let some = rw c.deref.ensures.value at (c.if-has_alike.ensures.0 refl) in
    after_yes_alike c.nodes.ensures.tree c.nodes.ensures.accepted c.requires.under_way (rw c.in-Yes.is at told) some

pub returns-in_ok-push-in-Yes-clause-under_way : goal.returns-in_ok-push-in-Yes-clause-under_way
returns-in_ok-push-in-Yes-clause-under_way c =
    let stands = next_stands c.nodes.ensures.tree c.nodes.ensures.accepted c.requires.under_way in
    let told = c.in_ok-receive.ensures.ok c.args.dual.now c.args.seen.now.events.items (skeleton_in c.args.trail.now c.args.next) c.nodes.ensures.tree stands.stands in
    let only = rw c.deref.ensures.value at c.if-has_alike.ensures.1 in
    let none_alike = λ (some : Any (λ (other : Hypothesis). IsAlike other c.receive.new.self) c.args.self.now.found.items). false≢true (only some) in
    rw c.in_ok-push-in-Yes.ensures.items
    (after_yes c.nodes.ensures.tree c.nodes.ensures.accepted c.requires.under_way (rw c.in-Yes.is at told) c.in_ok-note_mark-in-Yes.ensures.trail
    c.in_ok-note_mark-in-Yes.ensures.noted none_alike)

-- where it has to go on
pub note_mark-requires-in-Nothing : goal.note_mark-requires-in-Nothing
note_mark-requires-in-Nothing c =
    let stands = next_stands c.nodes.ensures.tree c.nodes.ensures.accepted c.requires.under_way in
    let told = c.in_ok-receive.ensures.ok c.args.dual.now c.args.seen.now.events.items (skeleton_in c.args.trail.now c.args.next) c.nodes.ensures.tree stands.stands in
    let tells = rw c.in-Nothing.is at told in
    rw tells.0 stands.within

pub returns-then-has_alike-2-clause-under_way : goal.returns-then-has_alike-2-clause-under_way
returns-then-has_alike-2-clause-under_way c =
    let stands = next_stands c.nodes.ensures.tree c.nodes.ensures.accepted c.requires.under_way in
    let told = c.in_ok-receive.ensures.ok c.args.dual.now c.args.seen.now.events.items (skeleton_in c.args.trail.now c.args.next) c.nodes.ensures.tree stands.stands in
    let tells = rw c.in-Nothing.is at told in
    let some = rw (c.deref-in-Nothing.ensures.value, tells.0) at (c.if-has_alike-2.ensures.0 refl) in
    after_nothing_alike c.nodes.ensures.tree c.nodes.ensures.accepted c.requires.under_way tells.1 some

pub returns-in_ok-append-in-Nothing-clause-under_way : goal.returns-in_ok-append-in-Nothing-clause-under_way
returns-in_ok-append-in-Nothing-clause-under_way c =
    let fed = c.args.seen.now.events.items in
    let tree = c.nodes.ensures.tree in
    let accepted = c.nodes.ensures.accepted in
    let under_way = c.requires.under_way in
    let stands = next_stands tree accepted under_way in
    let tells = rw c.in-Nothing.is at (c.in_ok-receive.ensures.ok c.args.dual.now fed (skeleton_in c.args.trail.now c.args.next) tree stands.stands) in
    let longer = c.in_ok-note_mark-in-Nothing.ensures.trail in
    let noted = rw tells.0 at c.in_ok-note_mark-in-Nothing.ensures.noted in
    let expansions = c.in_ok-expansions-in-Nothing.ensures fed (skeleton_in c.args.trail.now c.args.next) c.requires.picks_nothing c.requires.collects.holds
    (noted_stands_for tree accepted under_way tells.1 longer noted) in
    let ahead = c.in_ok-append-in-Nothing.ensures.items in
    let turned = c.reverse.ensures.items in
    let found_same = c.in_ok-remember-in-Nothing.ensures.found in
    let ahead_same = c.in_ok-remember-in-Nothing.ensures.ahead in
    rw (found_same, ahead, turned, ahead_same, turned_behind c.args.self.now.ahead.items c.in_ok-expansions-in-Nothing.expansions.items)
    (⊎_elim (λ one_more. rw one_more (after_nothing tree accepted under_way tells.1 longer noted expansions))
    (λ forgotten. rw forgotten (after_nothing_forgotten tree accepted under_way tells.1 longer noted expansions)) c.in_ok-remember-in-Nothing.ensures.met)

pub returns-in_ok-append-in-Nothing-clause-replaces : goal.returns-in_ok-append-in-Nothing-clause-replaces
returns-in_ok-append-in-Nothing-clause-replaces c =
    let fed = c.args.seen.now.events.items in
    let tree = c.nodes.ensures.tree in
    let accepted = c.nodes.ensures.accepted in
    let under_way = c.requires.under_way in
    let stands = next_stands tree accepted under_way in
    let tells = rw c.in-Nothing.is at (c.in_ok-receive.ensures.ok c.args.dual.now fed (skeleton_in c.args.trail.now c.args.next) tree stands.stands) in
    let longer = c.in_ok-note_mark-in-Nothing.ensures.trail in
    let noted = rw tells.0 at c.in_ok-note_mark-in-Nothing.ensures.noted in
    let expansions = c.in_ok-expansions-in-Nothing.ensures fed (skeleton_in c.args.trail.now c.args.next) c.requires.picks_nothing c.requires.collects.holds
    (noted_stands_for tree accepted under_way tells.1 longer noted) in
    let made = c.in_ok-expansions-in-Nothing.expansions in
    let few : length made.items < 2 ^ 64 = omega (arith, made.ok, made.small) in
    rw (c.in_ok-append-in-Nothing.ensures.items, c.reverse.ensures.items, c.in_ok-remember-in-Nothing.ensures.ahead)
    (replaces_by_expansions tree accepted under_way tells.1 longer noted expansions c.args.self.now.ahead.items few)
