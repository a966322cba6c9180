-- How the sends and awaits of a connection follow each other. Definition: own.
use Rattle.std.specs.Prelude.{◌≡◌, ℕ, ◌+◌, ◌<◌, ◌==◌, if◌then◌else◌, List, [], ◌∷◌, count_by}
use Rattle.exchange_text.specs.declared.action.Action.{Action}
use Rattle.exchange_text.specs.declared.action.Action.TheVariants.{Send, Await}
use Rattle.script_gen.specs.Generator.{is_send}

-- how many messages are sent in all
abbrev pub sends_in : List (ℕ × Action) → ℕ
sends_in actions = count_by (λ (action : ℕ × Action). is_send action.1) actions

-- the actions of a connection, in order
abbrev pub own_actions : ℕ → List (ℕ × Action) → List Action
own_actions conn [] = []
own_actions conn (action ∷ actions) = if action.0 == conn then action.1 ∷ own_actions conn actions else own_actions conn actions

-- Where so many messages are sent before, and so many of those sends stand together at the end: no more than two sends stand together,
-- an await stands behind the second of two, and each await stands behind a send and waits for as many messages as are sent before it.
abbrev pub IsPaced : ℕ → ℕ → List Action → Type 0
IsPaced sent together [] = together < 2
IsPaced sent together (Send parts ∷ actions) = (together < 2) × IsPaced (sent + 1) (together + 1) actions
IsPaced sent together (Await count ∷ actions) = (0 < together) × (count ≡ sent) × IsPaced sent 0 actions

-- So it is on each connection.
abbrev pub ArePaced : List (ℕ × Action) → Type 0
ArePaced actions = (conn : ℕ) → IsPaced 0 0 (own_actions conn actions)
