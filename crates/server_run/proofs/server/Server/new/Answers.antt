use Rattle.spec_rules.proofs.Standing.{begins, opening_tasks}
use Rattle.spec_model.specs.Run.{Opens}
use Rattle.std.proofs.Common.{subst}
use Rattle.server_run.specs.State.{config_of}
use Rattle.server_run.proofs.server.Server.new.Goals as goal

pub opening-requires : goal.opening-requires
opening-requires c = rw c.spec-2.ensures.same (begins c.in_ok-spec.spec c.spec-2.ensures.accepted)

pub invariant_of-result : goal.invariant_of-result
invariant_of-result c =
    let opens = subst (λ spec. Opens spec (config_of c.in_ok-state.state)) c.spec-2.ensures.same c.in_ok-state.ensures in
    opening_tasks c.in_ok-spec.spec (config_of c.in_ok-state.state) opens
