-- A link in memory.
use Rattle.std.specs.Prelude.{ℕ, ◌-◌, List, [], ◌∷◌, ◌++◌, length, min, take, drop, nat_le, nat_lt, if◌then◌else◌}
use Rattle.dt_ports.specs.declared.link.LinkCounts.{LinkCounts}
use Rattle.dt_ports.specs.declared.link.RecvStep.{RecvStep}
use Rattle.dt_ports.specs.declared.link.RecvStep.TheVariants as receives
use Rattle.dt_ports.specs.declared.link.SendStep.{SendStep}
use Rattle.dt_ports.specs.declared.link.SendStep.TheVariants as sends
use Rattle.dt_ports.specs.declared.steps.Incoming.{Incoming}
use Rattle.dt_ports.specs.declared.steps.Incoming.TheVariants as incoming
use Rattle.dt_ports.specs.declared.steps.Outgoing.{Outgoing}
use Rattle.dt_ports.specs.declared.steps.Outgoing.TheVariants as outgoing
use Rattle.dt_ports.specs.Link.{counts_after_receive, counts_after_send, no_answers}

-- what is to come at a link, and what came
pub record Arrival : Type 0 where
  pub left : List Incoming
  pub got : List ℕ

-- the answer to a receive that put so many bytes into the room, and to one into a room of so many bytes
abbrev pub received_bytes : ℕ → RecvStep
received_bytes count = if nat_lt 0 count then receives.Got count else receives.NotReady

abbrev pub received : List Incoming → ℕ → RecvStep
received [] size = receives.NotReady
received (incoming.Piece bytes ∷ later) size = received_bytes (min (length bytes) size)
received (incoming.NotReady ∷ later) size = receives.NotReady
received (incoming.Failed ∷ later) size = receives.Failed
received (incoming.End ∷ later) size = receives.End

-- the bytes that it puts into the room
abbrev pub bytes_received : List Incoming → ℕ → List ℕ
bytes_received [] size = []
bytes_received (incoming.Piece bytes ∷ later) size = take size bytes
bytes_received (incoming.NotReady ∷ later) size = []
bytes_received (incoming.Failed ∷ later) size = []
bytes_received (incoming.End ∷ later) size = []

-- the steps left after it: what did not fit stays, and an end stays for ever
abbrev pub left_after : List Incoming → ℕ → List Incoming
left_after [] size = []
left_after (incoming.Piece bytes ∷ later) size =
    if nat_lt size (length bytes) then incoming.Piece (drop size bytes) ∷ later else later
left_after (incoming.NotReady ∷ later) size = later
left_after (incoming.Failed ∷ later) size = later
left_after (incoming.End ∷ later) size = incoming.End ∷ later

abbrev pub arrival_after : Arrival → ℕ → Arrival
arrival_after arrival size =
    record { left = left_after arrival.left size; got = arrival.got ++ bytes_received arrival.left size }

-- a room after these bytes were put at its front
abbrev pub with_front : List ℕ → List ℕ → List ℕ
with_front bytes room = bytes ++ drop (length bytes) room

-- what the next send step makes of a piece of so many bytes, were there room for it
abbrev pub wanted : List Outgoing → ℕ → SendStep
wanted [] size = sends.Took size
wanted (outgoing.AtMost most ∷ later) size =
    if nat_lt 0 (min most size) then sends.Took (min most size) else sends.NotReady
wanted (outgoing.NotReady ∷ later) size = sends.NotReady
wanted (outgoing.Failed ∷ later) size = sends.Failed

-- a send that would pass what room there is fails
abbrev pub within_room : SendStep → ℕ → SendStep
within_room (sends.Took count) size = if nat_le count size then sends.Took count else sends.Failed
within_room sends.NotReady size = sends.NotReady
within_room sends.Failed size = sends.Failed

abbrev pub bytes_taken : SendStep → List ℕ → List ℕ
bytes_taken (sends.Took count) piece = take count piece
bytes_taken sends.NotReady piece = []
bytes_taken sends.Failed piece = []

-- The steps left to receive and to send, what was got and sent, how many bytes may ever be sent, and the counts of
-- answers.
pub record LinkInMemory : Type 0 where
  pub receives : List Incoming
  pub sends : List Outgoing
  pub got : List ℕ
  pub sent : List ℕ
  pub room : ℕ
  pub counts : LinkCounts

-- a link that did nothing yet
abbrev pub new_link : List Incoming → List Outgoing → ℕ → LinkInMemory
new_link receives sends room =
    record { receives = receives; sends = sends; got = []; sent = []; room = room; counts = no_answers }

-- the answer to a send of a piece
abbrev pub send_step : LinkInMemory → List ℕ → SendStep
send_step link piece = within_room (wanted link.sends (length piece)) (link.room - length link.sent)

-- the link after that send, and after a receive into a room of so many bytes
abbrev pub link_after_send : LinkInMemory → List ℕ → LinkInMemory
link_after_send link piece = record link {
  sends = drop 1 link.sends;
  sent = link.sent ++ bytes_taken (send_step link piece) piece;
  counts = counts_after_send (send_step link piece) link.counts;
}

abbrev pub link_after_receive : LinkInMemory → ℕ → LinkInMemory
link_after_receive link size = record link {
  receives = left_after link.receives size;
  got = link.got ++ bytes_received link.receives size;
  counts = counts_after_receive (received link.receives size) link.counts;
}
