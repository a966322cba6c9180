-- A link in memory that holds its calls back while another did not do its part.
use Rattle.std.specs.Prelude.{◌≡◌, List, ℕ, length}
use Rattle.dt_ports.specs.declared.link.RecvStep.{RecvStep}
use Rattle.dt_ports.specs.declared.link.SendStep.{SendStep}
use Rattle.dt_ports.specs.Link.{counts_after_receive, counts_after_send}
use Rattle.dt_ports.specs.MemLink.{LinkInMemory, bytes_received, link_after_receive, link_after_send, received, send_step, with_front}

-- A receive did no step: this answer was counted, and the room is as it was.
pub record HoldsReceive (old new : LinkInMemory) (before after : List ℕ) (result step : RecvStep) : Type 0 where
  pub answer : result ≡ step
  pub link : new ≡ record old { counts = counts_after_receive step old.counts }
  pub room : after ≡ before

-- A receive did the next step of the link.
pub record DoesReceive (old new : LinkInMemory) (before after : List ℕ) (result : RecvStep) : Type 0 where
  pub answer : result ≡ received old.receives (length before)
  pub link : new ≡ link_after_receive old (length before)
  pub room : after ≡ with_front (bytes_received old.receives (length before)) before

-- A send did no step: this answer was counted.
pub record HoldsSend (old new : LinkInMemory) (result step : SendStep) : Type 0 where
  pub answer : result ≡ step
  pub link : new ≡ record old { counts = counts_after_send step old.counts }

-- A send did the next step of the link.
pub record DoesSend (old new : LinkInMemory) (piece : List ℕ) (result : SendStep) : Type 0 where
  pub answer : result ≡ send_step old piece
  pub link : new ≡ link_after_send old piece
