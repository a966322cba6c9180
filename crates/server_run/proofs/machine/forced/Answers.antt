use Rattle.server_run.proofs.ForcedEvents.{forced_event_if_some}
use Rattle.server_run.specs.State.{config_of}
use Rattle.server_run.proofs.machine.forced.Goals as goal

pub returns-clause-event : goal.returns-clause-event
returns-clause-event c = forced_event_if_some c.args.spec.now (config_of c.args.state.now) c.forced_event.result c.forced_event.ensures
