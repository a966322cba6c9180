use Rattle.std.proofs.Common.{◌≡◌, ◌<◌, [], arith, subst, sym}
use Rattle.std.proofs.lemmas.Grind.{common_steps}
use Rattle.std.proofs.lemmas.List.{reverse-reverse}
use Rattle.spec_model.proofs.Prefix.{IsPrefixOf-self}
use Rattle.hypothesis_pool.proofs.Stack.{all_weight, replaced_weighs_less}
use Rattle.hypothesis_pool.proofs.UnderWay.{under_way_at_first, under_way_at_last}
use Rattle.hypothesis_pool.proofs.search.explain_receipt.Goals as goal

pub loop-next-init : goal.loop-next-init
loop-next-init c = record {
  under_way = rw (c.new.ensures.items, c.new-2.ensures.items, c.in_ok-copies_reversed.ensures, reverse-reverse c.args.hypotheses.now)
      (under_way_at_first c.nodes.ensures.tree c.nodes.ensures.accepted c.requires.stand);
  longer = IsPrefixOf-self c.args.trail.now;
}

pub loop-next-smaller : goal.loop-next-smaller
loop-next-smaller c =
    let last = c.in-Some.ensures.items in
    let less = replaced_weighs_less c.args.dual.now c.args.seen.now.events.items c.nodes.ensures.tree c.nodes.ensures.accepted c.in-Some.next c.pop.new.self.items
    c.follow.new.self.ahead.items c.in_ok-follow.ensures.replaces in
    subst (λ items. all_weight c.args.dual.now c.args.seen.now.events.items c.follow.new.self.ahead.items < all_weight c.args.dual.now c.args.seen.now.events.items items)
    (sym last) less

pub returns-clause-stand : goal.returns-clause-stand
returns-clause-stand c =
    let none : c.loop-next.search.ahead.items ≡ [] = grind (arith, common_steps) in
    under_way_at_last c.nodes.ensures.tree c.nodes.ensures.accepted (rw none at c.loop-next.invariant.under_way)
