-- What a server may do next.
use Rattle.std.specs.Prelude.{◌≡◌, ◌↔◌, ℕ, ◌<◌, min, Bool, true, not, ◌||◌, nat_lt, List, [], ◌∷◌, length, if◌then◌else◌, Option, Some, None, is_some, option_map}
use Rattle.std.specs.List.{concat}
use Rattle.server_run.specs.declared.options.Options.{Options}
use Rattle.server_run.specs.declared.options.Options.TheVariants as options
use Rattle.spec_model.specs.declared.config.Config.{Config}
use Rattle.spec_model.specs.declared.config.Task.{Task}
use Rattle.spec_model.specs.declared.config.Task.TheVariants.{Do}
use Rattle.spec_model.specs.declared.event.ServerEvent.{ServerEvent}
use Rattle.spec_model.specs.declared.event.ServerEvent.TheVariants as events
use Rattle.spec_model.specs.declared.tree.Chan.{Chan}
use Rattle.spec_model.specs.declared.tree.Chan.TheVariants.{Bind, From}
use Rattle.spec_model.specs.declared.tree.Expr.{Expr}
use Rattle.spec_model.specs.declared.tree.Kind.TheOpen.{Recv, Send, Pick, If, Either, Assume, Put, Lookup, Delete}
use Rattle.spec_model.specs.declared.tree.Spec.{Spec}
use Rattle.spec_model.specs.Config.{StmtKind, kind_of}
use Rattle.spec_model.specs.Message.{is_message, may_pass}
use Rattle.spec_model.specs.Step.{after_event, may_be_picked, parts_sent}
use Rattle.spec_model.specs.Table.{key_is_at}
use Rattle.spec_model.specs.Value.{◌>>=◌, only_if, number_of, text_of, truth_of}

-- the connection of a shape that a written value names
abbrev pub conn_named : Spec → Config → Expr → Option ℕ
conn_named spec c named = do
  number ← number_of c named
  only_if (nat_lt number spec.shape.conns) (Some number)

-- the message that a send sends
abbrev pub message_sent : Spec → Config → List Expr → Option (List ℕ)
message_sent spec c parts = do
  pieces ← parts_sent c parts
  only_if (is_message spec.shape (concat pieces)) (Some (concat pieces))

-- The one outcome that a test of a statement may have; None where there is no test, or it may have none.
abbrev pub forced_test : Config → ℕ → StmtKind → Option Bool
forced_test c passed (If cond holds fails) = truth_of c cond
forced_test c passed (Assume cond) = do
  truth ← truth_of c cond
  only_if truth (Some true)
forced_test c passed (Put table key value) = do
  equal ← key_is_at c table key passed
  only_if (not equal || is_some (text_of c value)) (Some equal)
forced_test c passed (Lookup table key name found missing) = key_is_at c table key passed
forced_test c passed (Delete table key) = key_is_at c table key passed
forced_test c passed _ = None

-- The one event that a statement may show, where that is a test or a send; None where it may show none, or a choice.
abbrev pub forced_by : Spec → Config → ℕ → StmtKind → Option ServerEvent
forced_by spec c passed (Send named parts) = do
  conn ← conn_named spec c named
  message ← message_sent spec c parts
  Some (events.Send conn message)
forced_by spec c passed kind = option_map (λ outcome. events.Test outcome) (forced_test c passed kind)

abbrev pub forced_at : Spec → Config → List Task → Option ServerEvent
forced_at spec c (Do stmt passed ∷ rest) = forced_by spec c passed (kind_of stmt)
forced_at spec c _ = None

-- The one event that may come next, where that is a test or a send.
abbrev pub forced_event : Spec → Config → Option ServerEvent
forced_event spec c = forced_at spec c c.todo

abbrev pub forced_or_stuck : Option ServerEvent → Options
forced_or_stuck (Some event) = options.Forced
forced_or_stuck None = options.Stuck

abbrev pub rest_or_stuck : Option ℕ → Options
rest_or_stuck (Some conn) = options.Rest (Some conn)
rest_or_stuck None = options.Stuck

abbrev pub options_at_recv : Spec → Config → Chan → Options
options_at_recv spec c (Bind name) = if nat_lt 0 spec.shape.conns then options.Rest None else options.Stuck
options_at_recv spec c (From named) = rest_or_stuck (conn_named spec c named)

-- The greatest length and the greatest number of arms that options tell; what is above them is told as them.
abbrev pub most_picked : ℕ
most_picked = 255

abbrev pub most_arms : ℕ
most_arms = 65535

abbrev pub options_by : Spec → Config → ℕ → StmtKind → Options
options_by spec c passed (Recv chan cases other block) = options_at_recv spec c chan
options_by spec c passed (Pick name len alphabet) = options.Pick (min len most_picked) alphabet
options_by spec c passed (Either []) = options.Stuck
options_by spec c passed (Either (arm ∷ arms)) = options.Arms (min (length (arm ∷ arms)) most_arms)
options_by spec c passed kind = forced_or_stuck (forced_by spec c passed kind)

abbrev pub options_at : Spec → Config → List Task → Options
options_at spec c (Do stmt passed ∷ rest) = options_by spec c passed (kind_of stmt)
options_at spec c _ = options.Stuck

-- What a server may do next, by the first thing that it has to do.
abbrev pub options_in : Spec → Config → Options
options_in spec c = options_at spec c c.todo

-- whether options tell the length or the number of arms of a statement
abbrev pub is_told : StmtKind → Bool
is_told (Pick name len alphabet) = nat_lt len 256
is_told (Either arms) = nat_lt (length arms) 65536
is_told _ = true

abbrev pub is_told_at : List Task → Bool
is_told_at (Do stmt passed ∷ rest) = is_told (kind_of stmt)
is_told_at _ = true

-- The pick that comes next, if one does, is of fewer than 256 bytes, and the `either` that does of fewer than 65,536 arms.
abbrev pub IsTold : Config → Type 0
IsTold c = is_told_at c.todo ≡ true

-- The server has a step with this event.
abbrev pub HasStep : Spec → Config → ServerEvent → Type 0
HasStep spec c event = (middle : Config) × (after_event spec c event ≡ Some middle)

-- whether an event is of those that options name
abbrev pub IsOffered : Spec → Options → ServerEvent → Type 0
IsOffered spec (options.Rest None) (events.Take conn message) = may_pass spec.shape conn message ≡ true
IsOffered spec (options.Rest (Some from)) (events.Take conn message) = (conn ≡ from) × (may_pass spec.shape conn message ≡ true)
IsOffered spec (options.Pick len alphabet) (events.Pick text) = may_be_picked spec.shape.framing len alphabet text ≡ true
IsOffered spec (options.Arms count) (events.Arm arm) = arm < count
IsOffered spec _ _ = ⊥

abbrev pub IsTestOrSend : ServerEvent → Type 0
IsTestOrSend (events.Test outcome) = Unit {0}
IsTestOrSend (events.Send conn message) = Unit {0}
IsTestOrSend _ = ⊥

-- A test or a send with which the server has a step, and it has one with no other event.
pub record IsForced (spec : Spec) (c : Config) (event : ServerEvent) : Type 0 where
  pub kind : IsTestOrSend event
  pub step : HasStep spec c event
  pub only : (other : ServerEvent) → HasStep spec c other → other ≡ event

-- Options tell with which events a server has a step: with none; with just one; or with those that they name, of which there are some.
abbrev pub Tells : Spec → Config → Options → Type 0
Tells spec c options.Stuck = (event : ServerEvent) → ¬ HasStep spec c event
Tells spec c options.Forced = (event : ServerEvent) × IsForced spec c event
Tells spec c told = ((event : ServerEvent) × HasStep spec c event) × ((event : ServerEvent) → HasStep spec c event ↔ IsOffered spec told event)
