-- What may come next.
use Rattle.std.specs.Prelude.{◌≡◌, ℕ, ◌<◌, nat_lt, List, length, slice_get, Option, Some, None}
use Rattle.std.specs.List.{concat}
use Rattle.spec_model.specs.declared.event.ServerEvent.{ServerEvent}
use Rattle.spec_model.specs.declared.event.ServerEvent.TheVariants as events
use Rattle.spec_model.specs.Value.{◌>>=◌, only_if}
use Rattle.itree_data.specs.declared.node.Node.{Node}
use Rattle.itree_data.specs.declared.node.Node.TheVariants as nodes
use Rattle.itree_data.specs.declared.node.Val.{Val}
use Rattle.itree_data.specs.Fields.{Fields}
use Rattle.itree_data.specs.Standing.{Standing}
use Rattle.itree_data.specs.Value.{number_at, pieces_at}
use Rattle.dual_step.specs.declared.next.Next.{Next}
use Rattle.dual_step.specs.declared.next.Next.TheVariants.{Offer, Expect, Fresh, Compare, Split, Nothing}

-- The event is one of those that may come next.
abbrev pub Allows : Next → ServerEvent → Type 0
Allows (Offer None) (events.Take conn message) = Unit {0}
Allows (Offer (Some named)) (events.Take conn message) = conn ≡ named
Allows (Expect named sent) (events.Send conn message) = (conn ≡ named) × (message ≡ sent)
Allows Fresh (events.Pick text) = Unit {0}
Allows Compare (events.Test outcome) = Unit {0}
Allows (Split count) (events.Arm arm) = arm < count
Allows _ _ = ⊥

-- the connection of a shape that a value names
abbrev pub conn_named : Fields → Standing → Val → Option ℕ
conn_named tree t named = do
  number ← number_at t named
  only_if (nat_lt number tree.shape.conns) (Some number)

abbrev pub offer_on : Option ℕ → Next
offer_on (Some conn) = Offer (Some conn)
offer_on None = Nothing

abbrev pub expect_on : Option ℕ → Option (List (List ℕ)) → Next
expect_on (Some conn) (Some pieces) = Expect conn (concat pieces)
expect_on _ _ = Nothing

-- What may come next at a node.
abbrev pub next_at : Fields → Standing → Node → Next
next_at tree t (nodes.Take None bound cases other next) = Offer None
next_at tree t (nodes.Take (Some named) bound cases other next) = offer_on (conn_named tree t named)
next_at tree t (nodes.Send named parts next) = expect_on (conn_named tree t named) (pieces_at t parts)
next_at tree t (nodes.Choose slot len alphabet next) = Fresh
next_at tree t (nodes.Branch test holds fails) = Compare
next_at tree t (nodes.Fork arms) = Split (length arms)
next_at tree t _ = Nothing

abbrev pub next_at_some : Fields → Standing → Option Node → Next
next_at_some tree t (Some node) = next_at tree t node
next_at_some tree t None = Nothing

-- What may come next where a server stands.
abbrev pub next_of : Fields → Standing → Next
next_of tree t = next_at_some tree t (slice_get tree.nodes t.node)
