-- Where servers stand.
use Rattle.spec_model.specs.declared.config.Config.{Config}
use Rattle.server_run.specs.declared.state.State.{State}

-- the configuration in which a server stands
abbrev pub config_of : State → Config
config_of state = record {
  todo = state.todo;
  registers = state.registers;
  tables = state.tables;
  locals = state.locals;
  taken = state.passed.taken;
  sent = state.passed.sent;
}
