-- The generator of scripts. Definition: own.
use Rattle.std.specs.Prelude.{ℕ, zero, suc, ◌+◌, Bool, true, false, not, ◌&&◌, ◌||◌, ◌==◌, if◌then◌else◌, List, [], ◌∷◌, ◌++◌, length, fold, count_by, slice_index_or}
use Rattle.spec_model.specs.declared.tree.Spec.{Spec}
use Rattle.exchange_text.specs.declared.action.Action.{Action}
use Rattle.exchange_text.specs.declared.action.Action.TheVariants.{Send, Await}
use Rattle.exchange_text.specs.declared.action.Part.{Part}
use Rattle.exchange_text.specs.declared.script.Script.{Script}
use Rattle.script_gen.specs.declared.plan.Plan.{Plan}
use Rattle.script_gen.specs.declared.script.TheConstants.{SCRIPT_STREAM}
use Rattle.script_gen.specs.Parts.{one_at_least, parts_of, within}
use Rattle.script_gen.specs.Plan.{plan_of}
use Rattle.script_gen.specs.Words.{Drawing, draw, given, words_of, ◌>>=◌}

abbrev pub is_send : Action → Bool
is_send (Send parts) = true
is_send (Await count) = false

-- how many messages are sent on a connection
abbrev pub sends_on : ℕ → List (ℕ × Action) → ℕ
sends_on conn actions = count_by (λ (action : ℕ × Action). (action.0 == conn) && is_send action.1) actions

-- whether the last action of a connection is a send
abbrev pub ends_in_send : ℕ → List (ℕ × Action) → Bool
ends_in_send conn actions = fold (λ before (action : ℕ × Action). if action.0 == conn then is_send action.1 else before) false actions

-- What stands behind a send: an await of as many messages as are sent on the connection, unless 0 was drawn and no send stands
-- directly before this one.
abbrev pub await_behind : ℕ → ℕ → List (ℕ × Action) → List (ℕ × Action)
await_behind pause conn before =
    if not (pause == 0) || ends_in_send conn before then (conn, Await (sends_on conn before + 1)) ∷ [] else []

-- one send more, and what stands behind it
abbrev pub sent_behind : List (ℕ × Action) → ℕ → List Part → ℕ → List (ℕ × Action)
sent_behind before conn parts pause = before ++ (conn, Send parts) ∷ await_behind pause conn before

-- one step more: a send on a connection, by a template, and what stands behind it
unfoldable pub step : Plan → List (ℕ × Action) → Drawing (List (ℕ × Action))
step plan before = do
  conn ← draw plan.conns
  number ← draw (length plan.templates)
  parts ← parts_of plan (sends_on conn before) (slice_index_or plan.templates number [])
  pause ← draw 8
  given (sent_behind before conn (one_at_least (within plan.shape.limit parts)) pause)

-- so many steps more
unfoldable pub steps : Plan → ℕ → List (ℕ × Action) → Drawing (List (ℕ × Action))
steps plan zero before = given before
steps plan (suc count) before = do
  more ← step plan before
  steps plan count more

-- The script of a specification and a seed, of so many connections and so many steps.
abbrev pub script_of : Spec → ℕ → ℕ → ℕ → Script
script_of spec seed conns count = record { conns = conns; actions = (steps (plan_of spec conns) count [] (words_of seed SCRIPT_STREAM)).0 }
