use Rattle.server_run.proofs.ToldOptions.{options_tell}
use Rattle.server_run.specs.State.{config_of}
use Rattle.server_run.proofs.machine.options_of.Goals as goal

pub returns-clause-tells : goal.returns-clause-tells
returns-clause-tells c = rw c.options_in.ensures (options_tell c.args.spec.now (config_of c.args.state.now))
