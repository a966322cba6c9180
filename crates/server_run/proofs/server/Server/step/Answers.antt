use Rattle.std.proofs.Common.{subst}
use Rattle.spec_model.specs.Run.{Step}
use Rattle.spec_rules.proofs.Standing.{begins, step_tasks}
use Rattle.server_run.specs.State.{config_of}
use Rattle.server_run.proofs.server.Server.step.Goals as goal

pub after_step-requires : goal.after_step-requires
after_step-requires c = rw c.spec.ensures.same (begins c.self.inside.spec c.spec.ensures.accepted)

pub invariant_of-self : goal.invariant_of-self
invariant_of-self c =
    let step : Step c.spec.result.now (config_of c.self.inside.state) c.args.event.now (config_of c.in-Some.next) = rw c.in-Some.is at c.in_ok-after_step.ensures in
    let of_server = subst (λ spec. Step spec (config_of c.self.inside.state) c.args.event.now (config_of c.in-Some.next)) c.spec.ensures.same step in
    step_tasks c.self.inside.spec (config_of c.self.inside.state) (config_of c.in-Some.next) c.args.event.now c.self.invariant of_server
