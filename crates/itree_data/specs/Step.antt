-- The steps of a tree: visible events, and silent work between them.
use Rattle.std.specs.Prelude.{ℕ, ◌+◌, Bool, true, false, ◌&&◌, ◌==◌, List, [], ◌∷◌, length, map, slice_get, Option, Some, None, option_map, bytes_eq}
use Rattle.std.specs.Bool.{beq}
use Rattle.std.specs.List.{concat}
use Rattle.spec_model.specs.declared.config.Value.{Value}
use Rattle.spec_model.specs.declared.config.Value.TheVariants.{Text, Number}
use Rattle.spec_model.specs.declared.event.ServerEvent.{ServerEvent}
use Rattle.spec_model.specs.declared.event.ServerEvent.TheVariants as events
use Rattle.spec_model.specs.declared.tree.Item.{Item}
use Rattle.spec_model.specs.declared.tree.Item.TheVariants as items
use Rattle.spec_model.specs.Config.{with_item_at}
use Rattle.spec_model.specs.Message.{may_pass}
use Rattle.spec_model.specs.Pattern.{hole_value, pieces_of}
use Rattle.spec_model.specs.Step.{may_be_picked}
use Rattle.spec_model.specs.Value.{◌>>=◌, only_if}
use Rattle.itree_data.specs.declared.node.Check.TheVariants.{Cond, Scan}
use Rattle.itree_data.specs.declared.node.Change.TheVariants.{Add}
use Rattle.itree_data.specs.declared.node.Node.{Node}
use Rattle.itree_data.specs.declared.node.Node.TheVariants.{Take, Send, Choose, Branch, Fork, Store, Back}
use Rattle.itree_data.specs.declared.node.Slotted.{Slotted}
use Rattle.itree_data.specs.declared.node.Slotted.TheVariants.{Lit, Hole}
use Rattle.itree_data.specs.declared.node.TakeCase.{TakeCase}
use Rattle.itree_data.specs.declared.node.Val.{Val}
use Rattle.itree_data.specs.Change.{after_change, next_has_key}
use Rattle.itree_data.specs.Fields.{Fields}
use Rattle.itree_data.specs.Standing.{Standing, at_node, with_local}
use Rattle.itree_data.specs.Value.{number_at, pieces_at, truth_at}

-- whether a message may be taken from this connection: from any, or from the named one
abbrev pub takes_from : Standing → Option Val → ℕ → Option Bool
takes_from t None conn = Some true
takes_from t (Some named) conn = option_map (λ number. number == conn) (number_at t named)

-- an item as a specification writes it, but for the name of a hole, which plays no part in what it takes
abbrev pub item_of : Slotted → Item
item_of (Lit text) = items.Lit text
item_of (Hole slot kind) = items.Hole [] kind

-- the locals with the connection bound, where it is
abbrev pub with_conn : List Value → Option ℕ → ℕ → List Value
with_conn locals None conn = locals
with_conn locals (Some slot) conn = with_local locals slot (Number conn)

-- the locals with the holes of a pattern bound, in order, to what they take
abbrev pub with_holes : List Value → List Slotted → List (List ℕ) → List Value
with_holes locals (Lit text ∷ items) (piece ∷ pieces) = with_holes locals items pieces
with_holes locals (Hole slot kind ∷ items) (piece ∷ pieces) = with_holes (with_local locals slot (hole_value kind piece)) items pieces
with_holes locals _ _ = locals

-- where a tree goes on with a message, and the locals there
pub record Entry : Type 0 where
  pub next : ℕ
  pub locals : List Value

-- the case, where its pattern fits, or else what a later one gives
abbrev pub case_fit : List Value → TakeCase → Option (List (List ℕ)) → Entry → Entry
case_fit locals case (Some pieces) later = record { next = case.next; locals = with_holes locals case.items pieces }
case_fit locals case None later = later

-- The first case that fits the message, or else `other`.
abbrev pub case_taken : List Value → List TakeCase → ℕ → ℕ → List ℕ → Entry
case_taken locals [] other next message = record { next = next; locals = with_local locals other (Text message) }
case_taken locals (case ∷ cases) other next message =
    case_fit locals case (pieces_of (map item_of case.items) message) (case_taken locals cases other next message)

abbrev pub after_taking : Standing → ℕ → List ℕ → Entry → Standing
after_taking t conn message entry =
    record (at_node t entry.next) { locals = entry.locals; taken = with_item_at t.taken conn message }

abbrev pub after_sending : Standing → ℕ → List (List ℕ) → ℕ → Standing
after_sending t conn pieces next = record (at_node t next) { sent = with_item_at t.sent conn pieces }

-- the node at which a test that says so goes on
abbrev pub side_of : Bool → ℕ → Option ℕ → Option ℕ
side_of true holds fails = Some holds
side_of false holds fails = fails

-- what a change leaves: the next node
abbrev pub after_store : Standing → Node → Option Standing
after_store t (Store what next) = option_map (λ after. at_node after next) (after_change t what)
after_store t _ = None

-- A look-up ends at an equal pair, with the change that stands behind it, and otherwise passes the pair.
abbrev pub after_pair : Fields → Standing → ℕ → Bool → Option Standing
after_pair tree t holds true = slice_get tree.nodes holds >>= after_store t
after_pair tree t holds false = Some (record t { compared = t.compared + 1 })

-- What an event of a node leaves, before the silent work; None where the node has no such step.
abbrev pub after_node : Fields → Standing → Node → ServerEvent → Option Standing
after_node tree t (Take from bound cases other next) (events.Take conn message) = do
  allowed ← takes_from t from conn
  only_if (allowed && may_pass tree.shape conn message)
      (Some (after_taking t conn message (case_taken (with_conn t.locals bound conn) cases other next message)))
after_node tree t (Send named parts next) (events.Send conn message) = do
  number ← number_at t named
  pieces ← pieces_at t parts
  only_if ((number == conn) && bytes_eq message (concat pieces) && may_pass tree.shape conn message)
      (Some (after_sending t conn pieces next))
after_node tree t (Choose slot len alphabet next) (events.Pick text) =
    only_if (may_be_picked tree.shape.framing len alphabet text)
    (Some (record (at_node t next) { locals = with_local t.locals slot (Text text) }))
after_node tree t (Fork arms) (events.Arm arm) = option_map (at_node t) (slice_get arms arm)
after_node tree t (Branch (Cond left op right) holds fails) (events.Test outcome) = do
  truth ← truth_at t left op right
  only_if (beq truth outcome) (option_map (at_node t) (side_of outcome holds fails))
after_node tree t (Branch (Scan table key) holds fails) (events.Test outcome) = do
  equal ← next_has_key t table key
  only_if (beq equal outcome) (after_pair tree t holds outcome)
after_node tree t _ _ = None

-- The configuration that an event leaves, before the silent work; None where the tree has no such step.
abbrev pub after_event : Fields → Standing → ServerEvent → Option Standing
after_event tree t event = slice_get tree.nodes t.node >>= (λ node. after_node tree t node event)

-- Behind the last pair a new pair is added, where that is what is next.
abbrev pub after_last_pair : Standing → Node → Option Standing
after_last_pair t (Store (Add table key value) next) = after_store t (Store (Add table key value) next)
after_last_pair t _ = Some t

-- The silent work of a node: a change, the loop's return, or the end of a look-up that has passed all pairs.
abbrev pub after_silent_node : Fields → Standing → Node → Option Standing
after_silent_node tree t (Store what next) = after_store t (Store what next)
after_silent_node tree t (Back next) = Some (at_node t next)
after_silent_node tree t (Branch (Scan table key) holds fails) = do
  pairs ← slice_get t.tables table
  missing ← fails
  node ← slice_get tree.nodes missing
  only_if (t.compared == length pairs) (after_last_pair (at_node t missing) node)
after_silent_node tree t _ = None

-- One piece of the silent work; None where the tree waits for an event, or for ever.
abbrev pub after_silent_work : Fields → Standing → Option Standing
after_silent_work tree t = slice_get tree.nodes t.node >>= after_silent_node tree t
