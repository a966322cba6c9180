-- The verdict of an exchange.
use Rattle.std.specs.Prelude.{ℕ, ◌-◌, ◌<◌, ◌≤◌, List, length, take}
use Rattle.spec_model.specs.declared.event.ClientEvent.{ClientEvent}
use Rattle.spec_model.specs.declared.event.Verdict.{Verdict}
use Rattle.spec_model.specs.declared.event.Verdict.TheVariants.{Open, Reject, Inconclusive}
use Rattle.spec_model.specs.declared.tree.Spec.{Spec}
use Rattle.spec_model.specs.World.{IsExplained}

-- An exchange is rejected at an event, counted from 1, where the events before it are explained, and with it they are not.
pub record IsRejectedAt (spec : Spec) (exchange : List ClientEvent) (event : ℕ) : Type 0 where
  pub first : 0 < event
  pub within : event ≤ length exchange
  pub before : IsExplained spec (take (event - 1) exchange)
  pub unexplained : ¬ IsExplained spec (take event exchange)

-- what a verdict says of an exchange, where no budget of hypotheses is set
abbrev pub Says : Spec → List ClientEvent → Verdict → Type 0
Says spec exchange Open = IsExplained spec exchange
Says spec exchange (Reject event) = IsRejectedAt spec exchange event
Says spec exchange (Inconclusive event) = ⊥
