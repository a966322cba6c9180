use Rattle.std.proofs.Common.{drop}
use Rattle.std.proofs.lemmas.List.{drop_all, drop_more}
use Rattle.spec_check.specs.Least.{IsListedAt}
use Rattle.spec_check.proofs.Firsts.{begun, ended, past_test}
use Rattle.spec_check.proofs.found.first_listed.Goals as goal

pub loop-tested-init : goal.loop-tested-init
loop-tested-init c = begun (IsListedAt c.args.tests.now c.args.at)

pub loop-tested-preserved : goal.loop-tested-preserved
loop-tested-preserved c =
    past_test c.args.tests.now c.args.at c.loop-tested.tested-index _ c.loop-tested.found c.found_at.result c.earlier-found.result
    (drop_more c.args.tests.now c.loop-tested.tested-index _ c.loop-tested-test.true) c.loop-tested.invariant c.found_at.ensures c.earlier-found.ensures

pub returns : goal.returns
returns c =
    let none_left = drop_all c.loop-tested.tested-index c.args.tests.now c.loop-tested-test.false in
    ended (IsListedAt (drop c.loop-tested.tested-index c.args.tests.now) c.args.at) (IsListedAt c.args.tests.now c.args.at) c.loop-tested.found c.loop-tested.invariant
    (rw none_left (λ fault at (listed, here). listed))
