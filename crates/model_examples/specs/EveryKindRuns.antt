-- How each run begins of the specification in which every kind of statement stands.
use Rattle.std.specs.Prelude.{ℕ, true, List, [], ◌∷◌, ◌++◌, replicate}
use Rattle.spec_model.specs.declared.event.ServerEvent.{ServerEvent}
use Rattle.spec_model.specs.declared.event.ServerEvent.TheVariants as servers
use Rattle.model_examples.specs.EveryKind.{greeting_bytes}
use Rattle.model_examples.specs.Events.{pick, test}

-- a text of 32 bytes, LF and 255 among them
abbrev pub key_picked : List ℕ
key_picked = replicate 30 120 ++ 10 ∷ 255 ∷ []

-- Its `start`: two texts are picked, two constants compared, and the greeting and the first text sent.
abbrev pub started : List ServerEvent
started = servers.Pick key_picked ∷ pick "Az09zZ" ∷ test true ∷ servers.Send 0 (greeting_bytes ++ key_picked) ∷ []
