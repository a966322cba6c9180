-- What a pool keeps.
use Rattle.std.specs.Prelude.{◌≡◌, ℕ, ◌<◌, List, [], ◌∷◌, length, MatchOption, Option, Some, None}
use Rattle.spec_model.specs.declared.event.ClientEvent.{ClientEvent}
use Rattle.spec_model.specs.declared.event.ClientEvent.TheVariants.{Sends}
use Rattle.spec_model.specs.declared.event.Mark.{Mark}
use Rattle.spec_model.specs.Config.{with_item_at}
use Rattle.spec_model.specs.Verdict.{IsRejectedAt}
use Rattle.spec_model.specs.World.{IsExchange}
use Rattle.dual_tree.specs.Dual.{DualFields, IsDual}
use Rattle.hypothesis.specs.Expansions.{HoldsSends}
use Rattle.hypothesis.specs.declared.hypothesis.Hypothesis.{Hypothesis}
use Rattle.hypothesis.specs.Judged.{PicksNothing}
use Rattle.hypothesis_pool.specs.Standing.{StandForAll}

-- An event is rejected where it leaves no hypothesis.
abbrev pub rejection_of : ℕ → List Hypothesis → Option ℕ
rejection_of event [] = Some event
rejection_of event (h ∷ hs) = None

-- a client sends on one of so many connections alone
abbrev pub IsOnConn : ℕ → ClientEvent → Type 0
IsOnConn conns (Sends conn message) = conn < conns
IsOnConn conns _ = Unit {0}

-- an inbox with what the client sends, where it does
abbrev pub with_sent : List (List (List ℕ)) → ClientEvent → List (List (List ℕ))
with_sent inbox (Sends conn message) = with_item_at inbox conn message
with_sent inbox _ = inbox

-- An inbox has all that clients sent.
pub record Collects (dual : DualFields) (fed : List ClientEvent) (inbox : List (List (List ℕ))) : Type 0 where
  pub conns : length inbox ≡ dual.shape.conns
  pub holds : HoldsSends fed dual.shape.conns inbox

-- While nothing was rejected, a pool keeps at least one hypothesis, and they stand for all; afterwards the event.
pub record IsPool (dual : DualFields) (fed : List ClientEvent) (inbox : List (List (List ℕ))) (paths : List (List Mark)) (rejected_at : Option ℕ) (hs : List Hypothesis) : Type 0 where
  pub is_dual : IsDual dual
  pub picks_nothing : PicksNothing dual.spec
  pub of_shape : IsExchange dual.shape fed
  pub collects : Collects dual fed inbox
  pub verdict : MatchOption rejected_at (StandForAll dual fed paths hs × (0 < length hs)) (λ event. IsRejectedAt dual.spec fed event)
