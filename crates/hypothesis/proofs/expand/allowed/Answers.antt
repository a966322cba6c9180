use Rattle.std.proofs.Common.{◌≡◌, Some, rules}
use Rattle.dual_step.specs.declared.next.Next.TheVariants.{Offer}
use Rattle.hypothesis.proofs.Allowed.{ok_leads, tests_allowed}
use Rattle.hypothesis.proofs.expand.allowed.Goals as goal

pub returns-in-Offer-Some : goal.returns-in-Offer-Some
returns-in-Offer-Some c =
    let is : c.args.next ≡ Offer (Some c.in-Offer-Some.conn) = search rules in
    ok_leads c.takes_from.result c.takes_from.ensures (λ events every. rw is (every c.args.conns))

pub returns-in-Split : goal.returns-in-Split
returns-in-Split c =
    ok_leads c.arms.result c.arms.ensures (λ events every. rw c.in-Split.is (every c.args.conns c.args.inbox.now c.args.taken.now))

pub returns-in-Compare : goal.returns-in-Compare
returns-in-Compare c =
    ok_leads c.tests.result c.tests.ensures (λ events both. rw (c.in-Compare.is, both) (tests_allowed c.args.conns c.args.inbox.now c.args.taken.now))
