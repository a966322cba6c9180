-- Which events may come next, and what they make of a hypothesis.
use Rattle.std.specs.Prelude.{◌≡◌, ℕ, ◌+◌, ◌<◌, List, [], ◌∷◌, ◌++◌, slice_get, slice_index_or, slice_set, Option, Some, None}
use Rattle.std.specs.List.{All, AllPairs, Contains}
use Rattle.std.specs.Option.{option_to_list}
use Rattle.spec_model.specs.declared.event.ServerEvent.{ServerEvent}
use Rattle.spec_model.specs.declared.event.ServerEvent.TheVariants as servers
use Rattle.spec_model.specs.Skeleton.{ComesBefore, mark_of}
use Rattle.itree_data.specs.Run.{TreeStep}
use Rattle.itree_data.specs.Step.{after_event}
use Rattle.dual_step.specs.declared.next.Next.{Next}
use Rattle.dual_step.specs.Next.{Allows}
use Rattle.dual_step.specs.State.{standing_of}
use Rattle.dual_tree.specs.Dual.{DualFields, tree_of}
use Rattle.hypothesis.specs.declared.hypothesis.Hypothesis.{Hypothesis}

-- the message that stands in the inbox behind those taken from the connection
abbrev pub next_sent : List (List (List ℕ)) → List ℕ → ℕ → Option (List ℕ)
next_sent inbox taken conn = slice_get (slice_index_or inbox conn []) (slice_index_or taken conn 0)

-- What is taken is the next message that was sent, and no pick is listed; of other events nothing is asked.
abbrev pub IsListable : List (List (List ℕ)) → List ℕ → ServerEvent → Type 0
IsListable inbox taken (servers.Take conn message) = next_sent inbox taken conn ≡ Some message
IsListable inbox taken (servers.Pick text) = ⊥
IsListable inbox taken _ = Unit {0}

-- A take is from one of so many connections, and the number of an arm is below 65,535: no more of them are listed.
abbrev pub IsNumbered : ℕ → ServerEvent → Type 0
IsNumbered conns (servers.Take conn message) = conn < conns
IsNumbered conns (servers.Arm arm) = arm < 65535
IsNumbered conns _ = Unit {0}

-- In skeletons the one event comes before the other.
abbrev pub IsEarlier : ServerEvent → ServerEvent → Type 0
IsEarlier event other = ComesBefore (mark_of event) (mark_of other)

-- In skeleton order these hold every event but a pick that may come next, where clients sent what the inbox holds. An event
-- among them that may not come is no step, and nothing comes of it.
pub record AreAllowed (next : Next) (conns : ℕ) (inbox : List (List (List ℕ))) (taken : List ℕ) (events : List ServerEvent) : Type 0 where
  pub listable : All (IsListable inbox taken) events
  pub all : (event : ServerEvent) → IsNumbered conns event → IsListable inbox taken event → Allows next event → Contains events event
  pub ordered : AllPairs IsEarlier events

-- the numbers of messages taken, after an event
abbrev pub counted : List ℕ → ServerEvent → List ℕ
counted taken (servers.Take conn message) = slice_set taken conn (slice_index_or taken conn 0 + 1)
counted taken _ = taken

-- By a step with this event a hypothesis goes on to the other.
pub record GoesOn (dual : DualFields) (h : Hypothesis) (event : ServerEvent) (new : Hypothesis) : Type 0 where
  pub step : TreeStep (tree_of dual) (standing_of h.state) event (standing_of new.state)
  pub taken : new.taken ≡ counted h.taken event
  pub facts : new.facts ≡ h.facts
  pub same_step : new.step ≡ h.step
  pub mark : new.mark ≡ Some (mark_of event)

-- what an event makes of a hypothesis: nothing where it is no step from there
abbrev pub Makes : DualFields → Hypothesis → ServerEvent → Option Hypothesis → Type 0
Makes dual h event None = after_event (tree_of dual) (standing_of h.state) event ≡ None
Makes dual h event (Some new) = GoesOn dual h event new

-- what these events make of a hypothesis, in their order
pub data MakeAll (dual : DualFields) (h : Hypothesis) : List ServerEvent → List Hypothesis → Type 0 where
  none_made : MakeAll dual h [] []
  one_more : (events : List ServerEvent) (hs : List Hypothesis) (event : ServerEvent) (made : Option Hypothesis) → MakeAll dual h events hs
      → Makes dual h event made → MakeAll dual h (events ++ event ∷ []) (hs ++ option_to_list made)
