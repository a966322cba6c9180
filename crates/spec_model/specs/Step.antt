-- The steps of a server: visible events, and silent work between them. After Xia and others, 2020, and Li, Pierce and
-- Zdancewic, 2021, in outline.
use Rattle.std.specs.Prelude.{ℕ, ◌+◌, Bool, true, false, ◌&&◌, ◌==◌, nat_le, ◌||◌, List, [], ◌∷◌, ◌++◌, length, take, slice_get, if◌then◌else◌, Option, Some, None, option_map, bytes_eq}
use Rattle.std.specs.Bool.{beq}
use Rattle.std.specs.List.{list_all, concat}
use Rattle.spec_model.specs.declared.event.Framing.{Framing}
use Rattle.spec_model.specs.declared.event.ServerEvent.{ServerEvent}
use Rattle.spec_model.specs.declared.event.ServerEvent.TheVariants as events
use Rattle.spec_model.specs.declared.config.Value.{Value}
use Rattle.spec_model.specs.declared.config.Value.TheVariants.{Text, Number}
use Rattle.spec_model.specs.declared.config.Binding.{Binding}
use Rattle.spec_model.specs.declared.config.Task.{Task}
use Rattle.spec_model.specs.declared.config.Task.TheVariants.{Do, Forget}
use Rattle.spec_model.specs.declared.config.Config.{Config}
use Rattle.spec_model.specs.declared.tree.Alphabet.{Alphabet}
use Rattle.spec_model.specs.declared.tree.Alphabet.TheVariants.{Hex, Alnum, Any}
use Rattle.spec_model.specs.declared.tree.Block.{Block}
use Rattle.spec_model.specs.declared.tree.Case.{Case, out-Case}
use Rattle.spec_model.specs.declared.tree.Chan.{Chan}
use Rattle.spec_model.specs.declared.tree.Chan.TheVariants.{Bind, From}
use Rattle.spec_model.specs.declared.tree.Expr.{Expr}
use Rattle.spec_model.specs.declared.tree.Kind.TheOpen.{Recv, Send, Pick, Assign, If, Either, Assume}
use Rattle.spec_model.specs.declared.tree.Sign.{Sign}
use Rattle.spec_model.specs.declared.tree.Spec.{Spec}
use Rattle.spec_model.specs.declared.tree.Stmt.{Stmt}
use Rattle.spec_model.specs.Config.{StmtKind, kind_of, after_entering, with_item_at, with_value}
use Rattle.spec_model.specs.Message.{may_stand_in_message, may_pass}
use Rattle.spec_model.specs.Pattern.{is_digit, pieces_of, bindings_of}
use Rattle.spec_model.specs.Table.{looked_up, pairs_in, key_is_at, after_hit, after_miss}
use Rattle.spec_model.specs.Value.{◌>>=◌, only_if, value_of, number_of, sent_as, sum_or_difference, truth_of}

-- the characters of an alphabet: 0-9 and a-f; 0-9, A-Z and a-z; every byte that a message may have
abbrev pub is_character : Framing → Alphabet → ℕ → Bool
is_character framing Hex byte = is_digit byte || (nat_le 97 byte && nat_le byte 102)
is_character framing Alnum byte = is_digit byte || (nat_le 65 byte && nat_le byte 90) || (nat_le 97 byte && nat_le byte 122)
is_character framing Any byte = may_stand_in_message framing byte

-- whether a pick of this length over this alphabet may be this text
abbrev pub may_be_picked : Framing → ℕ → Alphabet → List ℕ → Bool
may_be_picked framing len alphabet text = (length text == len) && list_all (is_character framing alphabet) text

-- whether a message may be taken from this connection: from any, or from the named one
abbrev pub may_take : Config → Chan → ℕ → Option Bool
may_take c (Bind name) conn = Some true
may_take c (From named) conn = option_map (λ number. number == conn) (number_of c named)

-- the name that a `recv` binds to the connection
abbrev pub bound_conn : Chan → ℕ → List Binding
bound_conn (Bind name) conn = record { name = name; value = Number conn } ∷ []
bound_conn (From named) conn = []

-- a block, and the names that are bound in it
pub record BlockEntry : Type 0 where
  pub block : Block
  pub bound : List Binding

-- the case, where its pattern fits, or else what a later one gives
abbrev pub first_fit : Case → Option (List (List ℕ)) → BlockEntry → BlockEntry
first_fit case (Some pieces) later = record { block = (out-Case case).block; bound = bindings_of (out-Case case).items pieces }
first_fit case None later = later

-- The first case that fits the message, or else `other`.
abbrev pub chosen_case : List Case → List ℕ → Block → List ℕ → BlockEntry
chosen_case [] other block message = record { block = block; bound = record { name = other; value = Text message } ∷ [] }
chosen_case (case ∷ cases) other block message =
    first_fit case (pieces_of (out-Case case).items message) (chosen_case cases other block message)

-- the texts of a send's parts, each as it is sent
abbrev pub parts_sent : Config → List Expr → Option (List (List ℕ))
parts_sent c [] = Some []
parts_sent c (part ∷ parts) = do
  value ← value_of c part
  pieces ← parts_sent c parts
  Some (sent_as value ∷ pieces)

-- the configuration after a message is taken
abbrev pub after_take : Config → List Task → Chan → ℕ → List ℕ → BlockEntry → Config
after_take c rest chan conn message entry =
    record (after_entering c rest entry.block (bound_conn chan conn ++ entry.bound)) { taken = with_item_at c.taken conn message }

-- the configuration after a message is sent, as the list of its pieces
abbrev pub after_send : Config → List Task → ℕ → List (List ℕ) → Config
after_send c rest conn pieces = record c { todo = rest; sent = with_item_at c.sent conn pieces }

-- the value that an assignment gives: one value, or a sum or difference of numbers
abbrev pub assigned_value : Config → Expr → Option (Sign × Expr) → Option Value
assigned_value c left None = value_of c left
assigned_value c left (Some tail) = do
  a ← number_of c left
  b ← number_of c tail.1
  Some (Number (sum_or_difference tail.0 a b))

-- A look-up that has passed so many pairs ends at the next one, where that has its key, and otherwise passes it too.
abbrev pub after_comparison : Config → List Task → Stmt → ℕ → StmtKind → Bool → Option Config
after_comparison c rest stmt passed kind true = after_hit c rest passed kind
after_comparison c rest stmt passed kind false = Some (record c { todo = Do stmt (passed + 1) ∷ rest })

-- The configuration that an event of a statement leaves, before the silent work; None where the statement has no such
-- step. The rest is what is to be done behind the statement, and a look-up has passed so many pairs.
abbrev pub after_stmt : Spec → Config → List Task → Stmt → ℕ → StmtKind → ServerEvent → Option Config
after_stmt spec c rest stmt passed (Recv chan cases other block) (events.Take conn message) = do
  allowed ← may_take c chan conn
  only_if (allowed && may_pass spec.shape conn message)
      (Some (after_take c rest chan conn message (chosen_case cases other block message)))
after_stmt spec c rest stmt passed (Send named parts) (events.Send conn message) = do
  number ← number_of c named
  pieces ← parts_sent c parts
  only_if ((number == conn) && bytes_eq message (concat pieces) && may_pass spec.shape conn message)
      (Some (after_send c rest conn pieces))
after_stmt spec c rest stmt passed (Pick name len alphabet) (events.Pick text) =
    only_if (may_be_picked spec.shape.framing len alphabet text)
    (Some (record c { todo = rest; locals = c.locals ++ record { name = name; value = Text text } ∷ [] }))
after_stmt spec c rest stmt passed (Either arms) (events.Arm arm) =
    option_map (λ block. after_entering c rest block []) (slice_get arms arm)
after_stmt spec c rest stmt passed (If cond holds fails) (events.Test outcome) = do
  truth ← truth_of c cond
  only_if (beq truth outcome) (Some (after_entering c rest (if outcome then holds else fails) []))
after_stmt spec c rest stmt passed (Assume cond) (events.Test outcome) = do
  truth ← truth_of c cond
  only_if (truth && outcome) (Some (record c { todo = rest }))
after_stmt spec c rest stmt passed kind (events.Test outcome) = do
  look_up ← looked_up kind
  equal ← key_is_at c look_up.0 look_up.1 passed
  only_if (beq equal outcome) (after_comparison c rest stmt passed kind outcome)
after_stmt spec c rest stmt passed _ _ = None

-- what an event leaves, by the first thing to do
abbrev pub after_event_at : Spec → Config → List Task → ServerEvent → Option Config
after_event_at spec c (Do stmt passed ∷ rest) event = after_stmt spec c rest stmt passed (kind_of stmt) event
after_event_at spec c _ event = None

-- The configuration that an event leaves, before the silent work; None where the server has no such step.
abbrev pub after_event : Spec → Config → ServerEvent → Option Config
after_event spec c event = after_event_at spec c c.todo event

-- The silent work of a statement: an assignment, or the end of a look-up that has passed all pairs.
abbrev pub after_silent_stmt : Config → List Task → ℕ → StmtKind → Option Config
after_silent_stmt c rest passed (Assign name left tail) =
    option_map (λ value. record c { todo = rest; registers = with_value c.registers name value }) (assigned_value c left tail)
after_silent_stmt c rest passed kind = do
  look_up ← looked_up kind
  pairs ← pairs_in c look_up.0
  only_if (passed == length pairs) (after_miss c rest kind)

-- One piece of the silent work: with nothing to do, the loop begins anew; at a block's end its names are forgotten.
abbrev pub after_silent_work_at : Spec → Config → List Task → Option Config
after_silent_work_at spec c [] = Some (after_entering c [] spec.body [])
after_silent_work_at spec c (Forget count ∷ rest) = Some (record c { todo = rest; locals = take count c.locals })
after_silent_work_at spec c (Do stmt passed ∷ rest) = after_silent_stmt c rest passed (kind_of stmt)

-- None where the server waits for an event, or for ever
abbrev pub after_silent_work : Spec → Config → Option Config
after_silent_work spec c = after_silent_work_at spec c c.todo
