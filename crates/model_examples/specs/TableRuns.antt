-- Runs of the store, and its configurations.
use Prim.Native.String.{String}
use Rattle.std.specs.Prelude.{ℕ, false, List, [], ◌∷◌, replicate, codes}
use Rattle.spec_model.specs.declared.config.Config.{Config}
use Rattle.spec_model.specs.declared.config.Pair.{Pair}
use Rattle.spec_model.specs.declared.config.Task.{Task}
use Rattle.spec_model.specs.declared.config.Task.TheVariants.{Do}
use Rattle.spec_model.specs.declared.event.ServerEvent.{ServerEvent}
use Rattle.model_examples.specs.Events.{send, take, test}
use Rattle.model_examples.specs.Writing.{put, text}

abbrev pub pair : String → String → Pair
pair key value = record { key = codes key; value = codes value }

-- The keys a and b come to the store, in this order. The second put compares its key with that of the one pair.
abbrev pub two_keys_put : List ServerEvent
two_keys_put = take 0 "SET a 1" ∷ send 0 "OK" ∷ take 0 "SET b 2" ∷ test false ∷ send 0 "OK" ∷ []

-- the store with this to do and these pairs in its table
abbrev pub store_with : List Task → List Pair → Config
store_with todo pairs = record {
  todo = todo;
  registers = [];
  tables = record { name = codes "kv"; pairs = pairs } ∷ [];
  locals = [];
  taken = replicate 4 [];
  sent = replicate 4 [];
}

-- a put of the value v under the key k, which has passed so many pairs
abbrev pub putting : ℕ → Task
putting passed = Do (put "kv" (text "k") (text "v")) passed
