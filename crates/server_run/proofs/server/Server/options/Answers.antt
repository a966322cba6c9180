use Rattle.std.proofs.Common.{subst}
use Rattle.server_run.specs.Options.{Tells}
use Rattle.server_run.specs.Served.{Served}
use Rattle.server_run.specs.State.{config_of}
use Rattle.server_run.proofs.AcceptedOptions.{told}
use Rattle.server_run.proofs.server.Server.options.Goals as goal

pub returns-clause-tells : goal.returns-clause-tells
returns-clause-tells c =
    let is_told = told c.self.inside.spec c.self.inside.state.todo c.spec.ensures.accepted c.self.invariant in
    let tells = subst (λ spec. Tells spec (config_of c.self.inside.state) c.options_of.result) c.spec.ensures.same (c.options_of.ensures.tells is_told) in
    subst (λ (server : Served). Tells server.spec server.config c.options_of.result) c.self.view_is tells
