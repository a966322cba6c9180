-- Events with their messages written as texts.
use Prim.Native.String.{String}
use Rattle.std.specs.Prelude.{ℕ, Bool, codes}
use Rattle.spec_model.specs.declared.event.ClientEvent.{ClientEvent}
use Rattle.spec_model.specs.declared.event.ClientEvent.TheVariants as clients
use Rattle.spec_model.specs.declared.event.ServerEvent.{ServerEvent}
use Rattle.spec_model.specs.declared.event.ServerEvent.TheVariants as servers

-- a client sends this message on a connection, or receives it
abbrev pub sends : ℕ → String → ClientEvent
sends conn message = clients.Sends conn (codes message)

abbrev pub receives : ℕ → String → ClientEvent
receives conn message = clients.Receives conn (codes message)

-- the server takes this message from a connection, or sends it there
abbrev pub take : ℕ → String → ServerEvent
take conn message = servers.Take conn (codes message)

abbrev pub send : ℕ → String → ServerEvent
send conn message = servers.Send conn (codes message)

-- the server picks this text, tests a condition or a pair of a table, or chooses an arm
abbrev pub pick : String → ServerEvent
pick text = servers.Pick (codes text)

abbrev pub test : Bool → ServerEvent
test outcome = servers.Test outcome

abbrev pub arm : ℕ → ServerEvent
arm number = servers.Arm number
