-- What is left of where a run ends, once clients have received what an exchange says.
use Rattle.std.specs.Prelude.{ℕ, ◌+◌, List, [], ◌∷◌, drop, length, map}
use Rattle.spec_model.specs.declared.config.Binding.{Binding}
use Rattle.spec_model.specs.declared.config.Config.{Config}
use Rattle.spec_model.specs.declared.config.Table.{Table}
use Rattle.spec_model.specs.declared.config.Task.{Task}
use Rattle.spec_model.specs.declared.event.ClientEvent.{ClientEvent}
use Rattle.spec_model.specs.World.{client_receipts}

-- For each connection, from this one on, the messages sent there and not received in the exchange.
abbrev pub unreceived : List ClientEvent → ℕ → List (List (List (List ℕ))) → List (List (List (List ℕ)))
unreceived exchange conn [] = []
unreceived exchange conn (sent ∷ others) = drop (length (client_receipts conn exchange)) sent ∷ unreceived exchange (conn + 1) others

-- What is still to do, and what names and tables stand for; for each connection how many messages were taken, and those that
-- were sent and not received, as their pieces.
pub record Remainder : Type 0 where
  pub todo : List Task
  pub registers : List Binding
  pub tables : List Table
  pub locals : List Binding
  pub taken : List ℕ
  pub pending : List (List (List (List ℕ)))

-- what is left of a configuration
abbrev pub remainder_of : List ClientEvent → Config → Remainder
remainder_of exchange c = record {
  todo = c.todo;
  registers = c.registers;
  tables = c.tables;
  locals = c.locals;
  taken = map length c.taken;
  pending = unreceived exchange 0 c.sent;
}
