use Rattle.std.proofs.Common.{◌≡◌, ◌-◌, Some, slice_get, subst, sym, ◌∙◌, ap, arith}
use Rattle.std.proofs.lemmas.Option.{slice_get-get_or}
use Rattle.spec_model.specs.declared.tree.Spec.{Spec}
use Rattle.spec_model.specs.Verdict.{IsRejectedAt}
use Rattle.dualtest_main.specs.Outcome.{accepted, rejected}
use Rattle.dualtest_main.proofs.judge.judgement.Goals as goal

pub returns-in-Open : goal.returns-in-Open
returns-in-Open c = rw (c.in_ok-accept-in-Open.ensures, c.deref.ensures.value) (accepted c.in_ok-world-in-Open.world.items c.in_ok-world-in-Open.ensures)

pub returns-in-Reject : goal.returns-in-Reject
returns-in-Reject c =
    let number = c.in-Reject.number in
    let of_spec = subst (λ (spec : Spec). IsRejectedAt spec c.in_ok-pool.pool.events number) (c.in_ok-pool.ensures.spec ∙ c.in_ok-copy.ensures) c.in-Reject.ensures in
    let at_event = subst (λ events. IsRejectedAt c.args.spec events number) c.in_ok-pool.ensures.events of_spec in
    let first = at_event.first in
    let within = at_event.within in
    let event : slice_get c.args.exchange.now (number - 1) ≡ Some c.index-exchange-number.result =
    slice_get-get_or c.args.exchange.now (number - 1) c.index-exchange-number.result (omega arith) ∙ ap Some (sym c.index-exchange-number.is) in
    rw c.in_ok-reject-in-Reject.ensures (rejected number c.index-exchange-number.result at_event event)
