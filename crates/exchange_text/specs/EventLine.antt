-- Events as lines. A connection and an arm are decimal numbers without leading zeros, and messages and picked texts are quoted.
use Rattle.std.specs.Prelude.{true, false, List, ◌++◌, codes, decimal, ℕ}
use Rattle.spec_model.specs.declared.event.ClientEvent.{ClientEvent}
use Rattle.spec_model.specs.declared.event.ClientEvent.TheVariants as clients
use Rattle.spec_model.specs.declared.event.ServerEvent.{ServerEvent}
use Rattle.spec_model.specs.declared.event.ServerEvent.TheVariants as servers
use Rattle.spec_model.specs.declared.event.WorldEvent.{WorldEvent}
use Rattle.spec_model.specs.declared.event.WorldEvent.TheVariants as worlds
use Rattle.spec_model.specs.Quote.{quotation_of}

-- C > "m", C < "m" or C garbles
abbrev pub client_line : ClientEvent → List ℕ
client_line (clients.Sends conn message) = decimal conn ++ (codes " > " ++ quotation_of message)
client_line (clients.Receives conn message) = decimal conn ++ (codes " < " ++ quotation_of message)
client_line (clients.Garbles conn) = decimal conn ++ codes " garbles"

-- take C "m", arm I, test yes, test no, pick "v" or send C "m"
abbrev pub server_line : ServerEvent → List ℕ
server_line (servers.Take conn message) = codes "take " ++ (decimal conn ++ (codes " " ++ quotation_of message))
server_line (servers.Arm arm) = codes "arm " ++ decimal arm
server_line (servers.Test true) = codes "test yes"
server_line (servers.Test false) = codes "test no"
server_line (servers.Pick text) = codes "pick " ++ quotation_of text
server_line (servers.Send conn message) = codes "send " ++ (decimal conn ++ (codes " " ++ quotation_of message))

abbrev pub world_line : WorldEvent → List ℕ
world_line (worlds.Client event) = client_line event
world_line (worlds.Server event) = server_line event
