-- What passes on the connections of a tree: its steps do not depend on it, and it is what the events say.
use Rattle.std.proofs.Common.{◌≡◌, ℕ, zero, suc, ◌<◌, ◌≤◌, Bool, true, false, ◌&&◌, ◌==◌, List, [], ◌∷◌, ◌++◌, length, map, replicate, take, drop, Option, Some, None, option_map, refl, sym, ◌∙◌, ap, subst, arith, nat_lt, bytes_eq, slice_set, length-set, length-append, length-drop, append-nil, inl, inr, append_assoc}
use Rattle.std.proofs.lemmas.Bool.{cases_eq, ltb-true}
use Rattle.std.proofs.lemmas.List.{length-replicate, length-take, get_or-set_same, get_or-set_other, map-append}
use Rattle.std.proofs.lemmas.Option.{same_Some}
use Rattle.std.proofs.lemmas.Slice.Eq.{bytes_eq-Decides}
use Rattle.std.specs.List.{AllByRecursion, concat, remove}
use Rattle.std.specs.Option.{IfSome}
use Rattle.std.specs.Bool.{beq}
use Rattle.std.specs.Prelude.{slice_get, slice_index_or}
use Rattle.spec_model.specs.declared.config.Pair.{Pair}
use Rattle.spec_model.specs.declared.event.ServerEvent.{ServerEvent}
use Rattle.spec_model.specs.declared.event.ServerEvent.TheVariants as events
use Rattle.spec_model.specs.declared.tree.Op.{Op}
use Rattle.spec_model.specs.declared.tree.Sign.{Sign}
use Rattle.spec_model.specs.Config.{with_item_at}
use Rattle.spec_model.specs.Message.{is_message, may_pass}
use Rattle.spec_model.specs.Step.{may_be_picked}
use Rattle.spec_model.specs.Table.{most_pairs}
use Rattle.spec_model.specs.Value.{◌>>=◌, as_number, as_text, only_if}
use Rattle.spec_model.specs.World.{sent_by_server, server_sends, server_takes, taken_by_server}
use Rattle.spec_model.proofs.Partial.{bind_gave, both_passed, only_if_gave}
use Rattle.spec_model.proofs.PassedMessages.{filter_map-push_none, server_sends-push_other, server_sends-push_same, server_takes-push_other, server_takes-push_same}
use Rattle.itree_data.specs.declared.node.Change.{Change}
use Rattle.itree_data.specs.declared.node.Change.TheVariants as changes
use Rattle.itree_data.specs.declared.node.Check.TheVariants as checks
use Rattle.itree_data.specs.declared.node.Node.{Node}
use Rattle.itree_data.specs.declared.node.Node.TheVariants as nodes
use Rattle.itree_data.specs.declared.node.Val.{Val}
use Rattle.itree_data.specs.declared.node.Val.TheVariants as vals
use Rattle.itree_data.specs.Change.{after_change, next_has_key}
use Rattle.itree_data.specs.Fields.{Fields}
use Rattle.itree_data.specs.Run.{TreeRunsTo, TreeSettles, TreeStep, TreeSteps, passes, settled}
use Rattle.itree_data.specs.Standing.{Standing, at_node, first_standing}
use Rattle.itree_data.specs.Step.{after_event, after_last_pair, after_node, after_pair, after_silent_node, after_silent_work, after_store, side_of, takes_from}
use Rattle.itree_data.specs.Value.{number_at, pieces_at, text_at, truth_at, value_assigned, value_at}

-- standing so with other messages passed
abbrev pub with_passed : Standing → List (List (List ℕ)) → List (List (List (List ℕ))) → Standing
with_passed t taken sent = record t { taken = taken; sent = sent }

-- the messages taken, after an event
abbrev pub taken_after : List (List (List ℕ)) → ServerEvent → List (List (List ℕ))
taken_after taken (events.Take conn message) = with_item_at taken conn message
taken_after taken _ = taken

-- the pieces that are sent at a node
abbrev pub pieces_sent : Fields → Standing → List (List ℕ)
pieces_sent tree t = or_none (slice_get tree.nodes t.node >>= sent_at)
  where
    sent_at : Node → Option (List (List ℕ))
    sent_at (nodes.Send conn parts next) = pieces_at t parts
    sent_at _ = None

    or_none : Option (List (List ℕ)) → List (List ℕ)
    or_none (Some pieces) = pieces
    or_none None = []

-- the messages sent, as pieces, after an event
abbrev pub sent_after : Fields → Standing → List (List (List (List ℕ))) → ServerEvent → List (List (List (List ℕ)))
sent_after tree t sent (events.Send conn message) = with_item_at sent conn (pieces_sent tree t)
sent_after tree t sent _ = sent

-- Where what follows maps to what follows, the whole maps to the whole.
bind_maps : {A B C : Type 0} (o : Option A) (f : A → Option B) (g : A → Option C) (h : B → C) → ((x : A) → o ≡ Some x → g x ≡ option_map h (f x))
    → (o >>= g) ≡ option_map h (o >>= f)
bind_maps None f g h follows = refl
bind_maps (Some x) f g h follows = follows x refl

-- so too where what goes first is equal
bind_equal_maps : {A B C : Type 0} (o p : Option A) (f : A → Option B) (g : A → Option C) (h : B → C) → p ≡ o
    → ((x : A) → o ≡ Some x → g x ≡ option_map h (f x)) → (p >>= g) ≡ option_map h (o >>= f)
bind_equal_maps o p f g h same follows = ap (λ o. o >>= g) same ∙ bind_maps o f g h follows

map_maps : {A B C : Type 0} (o p : Option A) (f : A → B) (g : A → C) (h : B → C) → p ≡ o → ((x : A) → g x ≡ h (f x))
    → option_map g p ≡ option_map h (option_map f o)
map_maps None p f g h same follows = ap (option_map g) same
map_maps (Some x) p f g h same follows = ap (option_map g) same ∙ ap Some (follows x)

test_maps : {A B : Type 0} (test : Bool) (o : Option A) (p : Option B) (h : A → B) → p ≡ option_map h o → only_if test p ≡ option_map h (only_if test o)
test_maps true o p h maps = maps
test_maps false o p h maps = refl

-- Values do not depend on what passed.
module _ (t : Standing) (taken : List (List (List ℕ))) (sent : List (List (List (List ℕ)))) where
  value_passed : (val : Val) → value_at (with_passed t taken sent) val ≡ value_at t val
  value_passed (vals.Text text) = refl
  value_passed (vals.Num number) = refl
  value_passed (vals.Conn number) = refl
  value_passed (vals.Register register) = refl
  value_passed (vals.Local slot) = refl

  text_passed : (val : Val) → text_at (with_passed t taken sent) val ≡ text_at t val
  text_passed val = ap (λ o. o >>= as_text) (value_passed val)

  number_passed : (val : Val) → number_at (with_passed t taken sent) val ≡ number_at t val
  number_passed val = ap (λ o. o >>= as_number) (value_passed val)

  truth_passed : (left : Val) (op : Op) (right : Val) → truth_at (with_passed t taken sent) left op right ≡ truth_at t left op right
  truth_passed left op right = rw (value_passed left, value_passed right) refl

  pieces_passed : (parts : List Val) → pieces_at (with_passed t taken sent) parts ≡ pieces_at t parts
  pieces_passed [] = refl
  pieces_passed (part ∷ parts) = rw (value_passed part, pieces_passed parts) refl

  assigned_passed : (left : Val) (tail : Option (Sign × Val)) → value_assigned (with_passed t taken sent) left tail ≡ value_assigned t left tail
  assigned_passed left None = value_passed left
  assigned_passed left (Some tail) = rw (number_passed left, number_passed tail.1) refl

  key_passed : (table : ℕ) (key : Val) → next_has_key (with_passed t taken sent) table key ≡ next_has_key t table key
  key_passed table key = rw (text_passed key) refl

  from_passed : (from : Option Val) (conn : ℕ) → takes_from (with_passed t taken sent) from conn ≡ takes_from t from conn
  from_passed None conn = refl
  from_passed (Some named) conn = ap (option_map (λ number. number == conn)) (number_passed named)

-- What changes and silent work leave does not depend on what passed.
module _ (taken : List (List (List ℕ))) (sent : List (List (List (List ℕ)))) where
  abbrev with_these : Standing → Standing
  with_these t = with_passed t taken sent

  change_passed : (t : Standing) (what : Change) → after_change (with_these t) what ≡ option_map with_these (after_change t what)
  change_passed t (changes.Assign register left tail) = map_maps _ _ _ _ with_these (assigned_passed t taken sent left tail) (λ value. refl)
  change_passed t (changes.Bind slot table) =
      bind_maps (slice_get t.tables table) _ _ with_these (λ pairs _. bind_maps (slice_get pairs t.compared) _ _ with_these (λ pair _. refl))
  change_passed t (changes.Renew table value) =
      bind_maps (slice_get t.tables table) _ _ with_these
      (λ pairs _. bind_maps (slice_get pairs t.compared) _ _ with_these
      (λ pair _. bind_equal_maps _ _ _ _ with_these (text_passed t taken sent value) (λ new _. refl)))
  change_passed t (changes.Add table key value) =
      bind_maps (slice_get t.tables table) _ _ with_these
      (λ pairs _. bind_equal_maps _ _ _ _ with_these (text_passed t taken sent key)
      (λ new_key _. bind_equal_maps _ _ _ _ with_these (text_passed t taken sent value) (λ new _. refl)))
  change_passed t (changes.Remove table) = map_maps (slice_get t.tables table) (slice_get t.tables table) _ _ with_these refl (λ pairs. refl)

  moved_passed : (o : Option Standing) (next : ℕ)
      → option_map (λ after. at_node after next) (option_map with_these o) ≡ option_map with_these (option_map (λ after. at_node after next) o)
  moved_passed None next = refl
  moved_passed (Some u) next = refl

  store_passed : (t : Standing) (node : Node) → after_store (with_these t) node ≡ option_map with_these (after_store t node)
  store_passed t (nodes.Store what next) = ap (option_map (λ after. at_node after next)) (change_passed t what) ∙ moved_passed (after_change t what) next
  store_passed t node = refl

  pair_passed : (tree : Fields) (t : Standing) (holds : ℕ) (equal : Bool)
      → after_pair tree (with_these t) holds equal ≡ option_map with_these (after_pair tree t holds equal)
  pair_passed tree t holds true = bind_maps (slice_get tree.nodes holds) _ _ with_these (λ node _. store_passed t node)
  pair_passed tree t holds false = refl

  last_pair_passed : (t : Standing) (node : Node) → after_last_pair (with_these t) node ≡ option_map with_these (after_last_pair t node)
  last_pair_passed t (nodes.Store (changes.Add table key value) next) = store_passed t (nodes.Store (changes.Add table key value) next)
  last_pair_passed t node = refl

  silent_node_passed : (tree : Fields) (t : Standing) (node : Node)
      → after_silent_node tree (with_these t) node ≡ option_map with_these (after_silent_node tree t node)
  silent_node_passed tree t (nodes.Store what next) = store_passed t (nodes.Store what next)
  silent_node_passed tree t (nodes.Branch (checks.Scan table key) holds fails) =
      bind_maps (slice_get t.tables table) _ _ with_these
      (λ pairs _. bind_maps fails _ _ with_these
      (λ missing _. bind_maps (slice_get tree.nodes missing) _ _ with_these
      (λ node _. test_maps (t.compared == length pairs) _ _ with_these (last_pair_passed (at_node t missing) node))))
  silent_node_passed tree t node = refl

  silent_passed : (tree : Fields) (t : Standing) → after_silent_work tree (with_these t) ≡ option_map with_these (after_silent_work tree t)
  silent_passed tree t = bind_maps (slice_get tree.nodes t.node) _ _ with_these (λ node _. silent_node_passed tree t node)

-- the pieces of a send node
pieces_of_send : (tree : Fields) (t : Standing) (named : Val) (parts : List Val) (next : ℕ) (pieces : List (List ℕ))
    → slice_get tree.nodes t.node ≡ Some (nodes.Send named parts next) → pieces_at t parts ≡ Some pieces → pieces_sent tree t ≡ pieces
pieces_of_send tree t named parts next pieces there gave = rw there (rw gave refl)

-- standing so with what passed before and the event's message
abbrev with_event : Fields → Standing → List (List (List ℕ)) → List (List (List (List ℕ))) → ServerEvent → Standing → Standing
with_event tree t taken sent event u = with_passed u (taken_after taken event) (sent_after tree t sent event)

node_passed : (tree : Fields) (t : Standing) (taken : List (List (List ℕ))) (sent : List (List (List (List ℕ)))) (node : Node) (event : ServerEvent)
    → slice_get tree.nodes t.node ≡ Some node
    → after_node tree (with_passed t taken sent) node event ≡ option_map (with_event tree t taken sent event) (after_node tree t node event)
node_passed tree t taken sent (nodes.Take from bound cases other next) (events.Take conn message) there =
    bind_equal_maps _ _ _ _ (with_event tree t taken sent (events.Take conn message)) (from_passed t taken sent from conn)
    (λ allowed _. test_maps (allowed && may_pass tree.shape conn message) _ _ (with_event tree t taken sent (events.Take conn message)) refl)
node_passed tree t taken sent (nodes.Send named parts next) (events.Send conn message) there =
    bind_equal_maps _ _ _ _ (with_event tree t taken sent (events.Send conn message)) (number_passed t taken sent named)
    (λ number _. bind_equal_maps _ _ _ _ (with_event tree t taken sent (events.Send conn message)) (pieces_passed t taken sent parts)
    (λ pieces gave. test_maps ((number == conn) && bytes_eq message (concat pieces) && may_pass tree.shape conn message) _ _
    (with_event tree t taken sent (events.Send conn message))
    (ap (λ pieces. Some (with_passed (at_node t next) taken (with_item_at sent conn pieces))) (sym (pieces_of_send tree t named parts next pieces there gave)))))
node_passed tree t taken sent (nodes.Choose slot len alphabet next) (events.Pick text) there =
    test_maps (may_be_picked tree.shape.framing len alphabet text) _ _ (with_these taken sent) refl
node_passed tree t taken sent (nodes.Fork arms) (events.Arm arm) there =
    map_maps (slice_get arms arm) (slice_get arms arm) _ _ (with_these taken sent) refl (λ next. refl)
node_passed tree t taken sent (nodes.Branch (checks.Cond left op right) holds fails) (events.Test outcome) there =
    bind_equal_maps _ _ _ _ (with_these taken sent) (truth_passed t taken sent left op right)
    (λ truth _. test_maps (beq truth outcome) _ _ (with_these taken sent)
    (map_maps (side_of outcome holds fails) (side_of outcome holds fails) _ _ (with_these taken sent) refl (λ next. refl)))
node_passed tree t taken sent (nodes.Branch (checks.Scan table key) holds fails) (events.Test outcome) there =
    bind_equal_maps _ _ _ _ (with_these taken sent) (key_passed t taken sent table key)
    (λ equal _. test_maps (beq equal outcome) _ _ (with_these taken sent) (pair_passed taken sent tree t holds outcome))
node_passed tree t taken sent node event there = refl

-- What an event leaves does not depend on what passed.
pub event_passed : (tree : Fields) (t : Standing) (event : ServerEvent) (taken : List (List (List ℕ))) (sent : List (List (List (List ℕ))))
    → after_event tree (with_passed t taken sent) event ≡ option_map (λ u. with_passed u (taken_after taken event) (sent_after tree t sent event)) (after_event tree t event)
event_passed tree t event taken sent =
    bind_maps (slice_get tree.nodes t.node) _ _ (with_event tree t taken sent event) (λ node there. node_passed tree t taken sent node event there)

pub settles_passed : (tree : Fields) (t u : Standing) (taken : List (List (List ℕ))) (sent : List (List (List (List ℕ))))
    → TreeSettles tree t u → TreeSettles tree (with_passed t taken sent) (with_passed u taken sent)
settles_passed tree t _ taken sent (settled none) = settled (silent_passed taken sent tree t ∙ ap (option_map (with_these taken sent)) none)
settles_passed tree t v taken sent (passes {u = u} gave more) =
    passes (silent_passed taken sent tree t ∙ ap (option_map (with_these taken sent)) gave) (settles_passed tree u v taken sent more)

pub step_passed : (tree : Fields) (t u : Standing) (event : ServerEvent) (taken : List (List (List ℕ))) (sent : List (List (List (List ℕ))))
    → TreeStep tree t event u → TreeStep tree (with_passed t taken sent) event (with_passed u (taken_after taken event) (sent_after tree t sent event))
step_passed tree t u event taken sent (middle, gave, settles) = (
  with_event tree t taken sent event middle,
  event_passed tree t event taken sent ∙ ap (option_map (with_event tree t taken sent event)) gave,
  settles_passed tree middle u (taken_after taken event) (sent_after tree t sent event) settles,
)

-- Silent work lets nothing pass.
pub settles_keeps : (tree : Fields) (t u : Standing) → TreeSettles tree t u → (u.taken ≡ t.taken) × (u.sent ≡ t.sent)
settles_keeps tree t _ (settled none) = (refl, refl)
settles_keeps tree t v (passes {u = u} gave more) =
    let left = sym gave ∙ silent_passed t.taken t.sent tree t ∙ ap (option_map (with_these t.taken t.sent)) gave in
    let same : u ≡ with_passed u t.taken t.sent = same_Some u (with_passed u t.taken t.sent) left in
    let rest = settles_keeps tree u v more in
    (rest.0 ∙ ap (λ (u : Standing). u.taken) same, rest.1 ∙ ap (λ (u : Standing). u.sent) same)

-- What is left of an event has what passed before and the event's message.
event_adds : (tree : Fields) (t middle : Standing) (event : ServerEvent) → after_event tree t event ≡ Some middle
    → middle ≡ with_event tree t t.taken t.sent event middle
event_adds tree t middle event gave =
    same_Some middle (with_event tree t t.taken t.sent event middle)
    (sym gave ∙ event_passed tree t event t.taken t.sent ∙ ap (option_map (with_event tree t t.taken t.sent event)) gave)

-- What passed after a step.
pub step_taken : (tree : Fields) (t u : Standing) (event : ServerEvent) → TreeStep tree t event u → u.taken ≡ taken_after t.taken event
step_taken tree t u event (middle, gave, settles) = (settles_keeps tree middle u settles).0 ∙ ap (λ (u : Standing). u.taken) (event_adds tree t middle event gave)

pub step_sent : (tree : Fields) (t u : Standing) (event : ServerEvent) → TreeStep tree t event u → u.sent ≡ sent_after tree t t.sent event
step_sent tree t u event (middle, gave, settles) = (settles_keeps tree middle u settles).1 ∙ ap (λ (u : Standing). u.sent) (event_adds tree t middle event gave)

-- a message that may pass does so on a connection of the shape
within_shape : (tree : Fields) (conn : ℕ) (message : List ℕ) → may_pass tree.shape conn message ≡ true → conn < tree.shape.conns
within_shape tree conn message may = ltb-true conn tree.shape.conns (both_passed (nat_lt conn tree.shape.conns) (is_message tree.shape message) may).0

node_sends : (tree : Fields) (t u : Standing) (node : Node) (conn : ℕ) (message : List ℕ) → slice_get tree.nodes t.node ≡ Some node
    → after_node tree t node (events.Send conn message) ≡ Some u → (message ≡ concat (pieces_sent tree t)) × (conn < tree.shape.conns)
node_sends tree t u (nodes.Send named parts next) conn message there gave =
    let number = bind_gave (number_at t named) _ u gave in
    let pieces = bind_gave (pieces_at t parts) _ u number.2 in
    let tests = only_if_gave ((number.0 == conn) && bytes_eq message (concat pieces.0) && may_pass tree.shape conn message) _ u pieces.2 in
    let outer = both_passed ((number.0 == conn) && bytes_eq message (concat pieces.0)) (may_pass tree.shape conn message) tests.0 in
    let inner = both_passed (number.0 == conn) (bytes_eq message (concat pieces.0)) outer.0 in
    let sent : pieces_sent tree t ≡ pieces.0 = pieces_of_send tree t named parts next pieces.0 there pieces.1 in
    ((bytes_eq-Decides message (concat pieces.0)).0 inner.1 ∙ ap concat (sym sent), within_shape tree conn message outer.1)
node_sends tree t u (nodes.Branch (checks.Cond left op right) holds fails) conn message there gave = absurd (cc)
node_sends tree t u node conn message there gave = absurd (cc)

-- A send is of the pieces that are sent at the node, joined, on a connection of the tree; a take is from a connection of the tree.
pub step_sends : (tree : Fields) (t u : Standing) (conn : ℕ) (message : List ℕ) → TreeStep tree t (events.Send conn message) u
    → (message ≡ concat (pieces_sent tree t)) × (conn < tree.shape.conns)
step_sends tree t u conn message (middle, gave, settles) =
    let node = bind_gave (slice_get tree.nodes t.node) _ middle gave in node_sends tree t middle node.0 conn message node.1 node.2

node_takes : (tree : Fields) (t u : Standing) (node : Node) (conn : ℕ) (message : List ℕ) → after_node tree t node (events.Take conn message) ≡ Some u
    → conn < tree.shape.conns
node_takes tree t u (nodes.Take from bound cases other next) conn message gave =
    let allowed = bind_gave (takes_from t from conn) _ u gave in
    let tests = only_if_gave (allowed.0 && may_pass tree.shape conn message) _ u allowed.2 in
    within_shape tree conn message (both_passed allowed.0 (may_pass tree.shape conn message) tests.0).1
node_takes tree t u (nodes.Branch (checks.Cond left op right) holds fails) conn message gave = absurd (cc)
node_takes tree t u node conn message gave = absurd (cc)

pub step_takes : (tree : Fields) (t u : Standing) (conn : ℕ) (message : List ℕ) → TreeStep tree t (events.Take conn message) u → conn < tree.shape.conns
step_takes tree t u conn message (middle, gave, settles) =
    let node = bind_gave (slice_get tree.nodes t.node) _ middle gave in node_takes tree t middle node.0 conn message node.2

-- Runs that are joined and split; a tree ends a run in one way.
pub tree_steps_split : (tree : Fields) (t : Standing) (events more : List ServerEvent) (u : Standing) → TreeSteps tree t (events ++ more) u
    → (middle : Standing) × TreeSteps tree t events middle × TreeSteps tree middle more u
tree_steps_split tree t [] more u steps = (t, refl, steps)
tree_steps_split tree t (event ∷ events) more u (next, step, steps) =
    let later = tree_steps_split tree next events more u steps in (later.0, (next, step, later.1), later.2)

pub tree_steps_join : (tree : Fields) (t : Standing) (events : List ServerEvent) (middle : Standing) (more : List ServerEvent) (u : Standing)
    → TreeSteps tree t events middle → TreeSteps tree middle more u → TreeSteps tree t (events ++ more) u
tree_steps_join tree t [] middle more u first then = subst (λ from. TreeSteps tree from more u) (sym first) then
tree_steps_join tree t (event ∷ events) middle more u (next, step, steps) then = (next, step, tree_steps_join tree next events middle more u steps then)

pub tree_runs_join : (tree : Fields) (events : List ServerEvent) (middle : Standing) (more : List ServerEvent) (u : Standing)
    → TreeRunsTo tree events middle → TreeSteps tree middle more u → TreeRunsTo tree (events ++ more) u
tree_runs_join tree events middle more u (opening, opens, steps) then = (opening, opens, tree_steps_join tree opening events middle more u steps then)

pub tree_runs_split : (tree : Fields) (events more : List ServerEvent) (u : Standing) → TreeRunsTo tree (events ++ more) u
    → (middle : Standing) × TreeRunsTo tree events middle × TreeSteps tree middle more u
tree_runs_split tree events more u (opening, opens, steps) =
    let split = tree_steps_split tree opening events more u steps in (split.0, (opening, opens, split.1), split.2)

tree_settles_once : (tree : Fields) (t u v : Standing) → TreeSettles tree t u → TreeSettles tree t v → u ≡ v
tree_settles_once tree t _ _ (settled none) (settled other) = refl
tree_settles_once tree t _ v (settled none) (passes gave more) = absurd (let wrong = sym none ∙ gave in cc)
tree_settles_once tree t u _ (passes gave more) (settled none) = absurd (let wrong = sym none ∙ gave in cc)
tree_settles_once tree t u v (passes {u = w} gave more) (passes {u = x} other other_more) =
    let same : x ≡ w = same_Some x w (sym other ∙ gave) in tree_settles_once tree w u v more (subst (λ from. TreeSettles tree from v) same other_more)

pub tree_step_once : (tree : Fields) (t : Standing) (event : ServerEvent) (u v : Standing) → TreeStep tree t event u → TreeStep tree t event v → u ≡ v
tree_step_once tree t event u v (middle, gave, settles) (other, other_gave, other_settles) =
    let same : other ≡ middle = same_Some other middle (sym other_gave ∙ gave) in
    tree_settles_once tree middle u v settles (subst (λ from. TreeSettles tree from v) same other_settles)

tree_steps_once : (tree : Fields) (t : Standing) (events : List ServerEvent) (u v : Standing) → TreeSteps tree t events u → TreeSteps tree t events v → u ≡ v
tree_steps_once tree t [] u v first second = sym first ∙ second
tree_steps_once tree t (event ∷ events) u v (middle, step, steps) (other, other_step, other_steps) =
    let same = tree_step_once tree t event other middle other_step step in
    tree_steps_once tree middle events u v steps (subst (λ from. TreeSteps tree from events v) same other_steps)

pub tree_runs_once : (tree : Fields) (events : List ServerEvent) (u v : Standing) → TreeRunsTo tree events u → TreeRunsTo tree events v → u ≡ v
tree_runs_once tree events u v (opening, opens, steps) (other, other_opens, other_steps) =
    let same = tree_settles_once tree (first_standing tree) other opening other_opens opens in
    tree_steps_once tree opening events u v steps (subst (λ from. TreeSteps tree from events v) same other_steps)

-- no table is longer than it may be
abbrev AreShort : List (List Pair) → Type 0
AreShort tables = AllByRecursion (λ (pairs : List Pair). length pairs ≤ most_pairs) tables

abbrev HasShortTables : Standing → Type 0
HasShortTables t = AreShort t.tables

-- What holds of all that what follows gives holds of all that the whole gives.
bind_gives : {A B : Type 0} (o : Option A) (f : A → Option B) (P : B → Type 0) → ((x : A) → o ≡ Some x → IfSome (f x) P) → IfSome (o >>= f) P
bind_gives None f P follows = tt
bind_gives (Some x) f P follows = follows x refl

map_gives : {A B : Type 0} (o : Option A) (f : A → B) (P : B → Type 0) → ((x : A) → o ≡ Some x → P (f x)) → IfSome (option_map f o) P
map_gives None f P follows = tt
map_gives (Some x) f P follows = follows x refl

test_gives : {A : Type 0} (test : Bool) (o : Option A) (P : A → Type 0) → IfSome o P → IfSome (only_if test o) P
test_gives true o P gives = gives
test_gives false o P gives = tt

given : {A : Type 0} (o : Option A) (P : A → Type 0) (x : A) → IfSome o P → o ≡ Some x → P x
given None P x gives is = absurd (cc)
given (Some y) P x gives is = subst P (same_Some y x is) gives

-- A table that is short, and those with a short one put in.
few_there : (tables : List (List Pair)) (table : ℕ) (pairs : List Pair) → AreShort tables → slice_get tables table ≡ Some pairs → length pairs ≤ most_pairs
few_there [] table pairs few is = absurd (cc)
few_there (first ∷ tables) zero pairs few is = subst (λ (pairs : List Pair). length pairs ≤ most_pairs) (same_Some first pairs is) few.0
few_there (first ∷ tables) (suc table) pairs few is = few_there tables table pairs few.1 is

few_set : (tables : List (List Pair)) (table : ℕ) (pairs : List Pair) → AreShort tables → length pairs ≤ most_pairs → AreShort (slice_set tables table pairs)
few_set [] table pairs few within = tt
few_set (first ∷ tables) zero pairs few within = (within, few.1)
few_set (first ∷ tables) (suc table) pairs few within = (few.0, few_set tables table pairs few.1 within)

few_none : (count : ℕ) → AreShort (replicate count [])
few_none zero = tt
few_none (suc count) = (omega arith, few_none count)

-- Pairs stay few where one is renewed, added or removed.
few_renewed : (pairs : List Pair) (place : ℕ) (pair : Pair) → length pairs ≤ most_pairs → length (slice_set pairs place pair) ≤ most_pairs
few_renewed pairs place pair within = rw (length-set pairs place pair) within

few_added : (pairs : List Pair) → length (take most_pairs pairs) ≤ most_pairs
few_added pairs = let cut = length-take most_pairs pairs in omega (arith, cut)

few_removed : (pairs : List Pair) (place : ℕ) → length pairs ≤ most_pairs → length (remove pairs place) ≤ most_pairs
few_removed pairs place within = omega (arith, within, length-append (take place pairs) (drop (suc place) pairs), length-take place pairs, length-drop (suc place) pairs)

-- Changes, events and silent work keep tables short.
change_few : (t : Standing) (what : Change) → HasShortTables t → IfSome (after_change t what) HasShortTables
change_few t (changes.Assign register left tail) few = map_gives (value_assigned t left tail) _ HasShortTables (λ value _. few)
change_few t (changes.Bind slot table) few =
    bind_gives (slice_get t.tables table) _ HasShortTables (λ pairs _. bind_gives (slice_get pairs t.compared) _ HasShortTables (λ pair _. few))
change_few t (changes.Renew table value) few =
    bind_gives (slice_get t.tables table) _ HasShortTables
    (λ pairs there. bind_gives (slice_get pairs t.compared) _ HasShortTables
    (λ pair _. bind_gives (text_at t value) _ HasShortTables (λ new _. few_set t.tables table _ few (few_renewed pairs t.compared _ (few_there t.tables table pairs few there)))))
change_few t (changes.Add table key value) few =
    bind_gives (slice_get t.tables table) _ HasShortTables
    (λ pairs _. bind_gives (text_at t key) _ HasShortTables
    (λ new_key _. bind_gives (text_at t value) _ HasShortTables (λ new _. few_set t.tables table _ few (few_added (record { key = new_key; value = new } ∷ pairs)))))
change_few t (changes.Remove table) few =
    map_gives (slice_get t.tables table) _ HasShortTables
    (λ pairs there. few_set t.tables table (remove pairs t.compared) few (few_removed pairs t.compared (few_there t.tables table pairs few there)))

store_few : (t : Standing) (node : Node) → HasShortTables t → IfSome (after_store t node) HasShortTables
store_few t (nodes.Store what next) few = map_gives (after_change t what) _ HasShortTables (λ u gave. given (after_change t what) HasShortTables u (change_few t what few) gave)
store_few t (nodes.Take from bound cases other next) few = tt
store_few t (nodes.Send named parts next) few = tt
store_few t (nodes.Choose slot len alphabet next) few = tt
store_few t (nodes.Branch test holds fails) few = tt
store_few t (nodes.Fork arms) few = tt
store_few t (nodes.Back next) few = tt

pair_few : (tree : Fields) (t : Standing) (holds : ℕ) (equal : Bool) → HasShortTables t → IfSome (after_pair tree t holds equal) HasShortTables
pair_few tree t holds true few = bind_gives (slice_get tree.nodes holds) _ HasShortTables (λ node _. store_few t node few)
pair_few tree t holds false few = few

last_pair_few : (t : Standing) (node : Node) → HasShortTables t → IfSome (after_last_pair t node) HasShortTables
last_pair_few t (nodes.Store (changes.Add table key value) next) few = store_few t (nodes.Store (changes.Add table key value) next) few
last_pair_few t node few = few

silent_node_few : (tree : Fields) (t : Standing) (node : Node) → HasShortTables t → IfSome (after_silent_node tree t node) HasShortTables
silent_node_few tree t (nodes.Store what next) few = store_few t (nodes.Store what next) few
silent_node_few tree t (nodes.Back next) few = few
silent_node_few tree t (nodes.Branch (checks.Scan table key) holds fails) few =
    bind_gives (slice_get t.tables table) _ HasShortTables
    (λ pairs _. bind_gives fails _ HasShortTables
    (λ missing _. bind_gives (slice_get tree.nodes missing) _ HasShortTables
    (λ node _. test_gives (t.compared == length pairs) _ HasShortTables (last_pair_few (at_node t missing) node few))))
silent_node_few tree t node few = tt

node_few : (tree : Fields) (t : Standing) (node : Node) (event : ServerEvent) → HasShortTables t → IfSome (after_node tree t node event) HasShortTables
node_few tree t (nodes.Take from bound cases other next) (events.Take conn message) few =
    bind_gives (takes_from t from conn) _ HasShortTables (λ allowed _. test_gives (allowed && may_pass tree.shape conn message) _ HasShortTables few)
node_few tree t (nodes.Send named parts next) (events.Send conn message) few =
    bind_gives (number_at t named) _ HasShortTables
    (λ number _. bind_gives (pieces_at t parts) _ HasShortTables
    (λ pieces _. test_gives ((number == conn) && bytes_eq message (concat pieces) && may_pass tree.shape conn message) _ HasShortTables few))
node_few tree t (nodes.Choose slot len alphabet next) (events.Pick text) few = test_gives (may_be_picked tree.shape.framing len alphabet text) _ HasShortTables few
node_few tree t (nodes.Fork arms) (events.Arm arm) few = map_gives (slice_get arms arm) _ HasShortTables (λ next _. few)
node_few tree t (nodes.Branch (checks.Cond left op right) holds fails) (events.Test outcome) few =
    bind_gives (truth_at t left op right) _ HasShortTables
    (λ truth _. test_gives (beq truth outcome) _ HasShortTables (map_gives (side_of outcome holds fails) _ HasShortTables (λ next _. few)))
node_few tree t (nodes.Branch (checks.Scan table key) holds fails) (events.Test outcome) few =
    bind_gives (next_has_key t table key) _ HasShortTables (λ equal _. test_gives (beq equal outcome) _ HasShortTables (pair_few tree t holds outcome few))
node_few tree t node event few = tt

event_few : (tree : Fields) (t u : Standing) (event : ServerEvent) → HasShortTables t → after_event tree t event ≡ Some u → HasShortTables u
event_few tree t u event few gave =
    given (after_event tree t event) HasShortTables u (bind_gives (slice_get tree.nodes t.node) _ HasShortTables (λ node _. node_few tree t node event few)) gave

settles_few : (tree : Fields) (t u : Standing) → HasShortTables t → TreeSettles tree t u → HasShortTables u
settles_few tree t _ few (settled none) = few
settles_few tree t v few (passes {u = u} gave more) =
    let after = bind_gives (slice_get tree.nodes t.node) _ HasShortTables (λ node _. silent_node_few tree t node few) in
    settles_few tree u v (given (after_silent_work tree t) HasShortTables u after gave) more

-- What passed on each connection is what the events of the run say; and no table is longer than it may be.
pub record Passed (tree : Fields) (events : List ServerEvent) (t : Standing) : Type 0 where
  pub conns_taken : length t.taken ≡ tree.shape.conns
  pub conns_sent : length t.sent ≡ tree.shape.conns
  pub takes : (conn : ℕ) → slice_index_or t.taken conn [] ≡ server_takes conn events
  pub sends : (conn : ℕ) → map concat (slice_index_or t.sent conn []) ≡ server_sends conn events
  pub few_pairs : AllByRecursion (λ (pairs : List Pair). length pairs ≤ most_pairs) t.tables

-- Silent work keeps what passed.
settles_passes : (tree : Fields) (events : List ServerEvent) (t u : Standing) → Passed tree events t → TreeSettles tree t u → Passed tree events u
settles_passes tree events t u passed settles =
    let (taken, sent) = settles_keeps tree t u settles in
    record {
      conns_taken = ap length taken ∙ passed.conns_taken;
      conns_sent = ap length sent ∙ passed.conns_sent;
      takes = λ conn. ap (λ lists. slice_index_or lists conn []) taken ∙ passed.takes conn;
      sends = λ conn. ap (λ lists. map concat (slice_index_or lists conn [])) sent ∙ passed.sends conn;
      few_pairs = settles_few tree t u passed.few_pairs settles;
    }

-- At the opening nothing has passed on any connection.
nothing_on : {A : Type 0} (conns conn : ℕ) → slice_index_or (replicate {A = List A} conns []) conn [] ≡ []
nothing_on zero conn = refl
nothing_on (suc conns) zero = refl
nothing_on (suc conns) (suc conn) = nothing_on conns conn

opening_passes : (tree : Fields) → Passed tree [] (first_standing tree)
opening_passes tree = record {
  conns_taken = length-replicate tree.shape.conns [];
  conns_sent = length-replicate tree.shape.conns [];
  takes = λ conn. nothing_on tree.shape.conns conn;
  sends = λ conn. ap (map concat) (nothing_on tree.shape.conns conn);
  few_pairs = few_none tree.tables;
}

-- With a message more on one connection, what passed on each connection is still what the events say.
takes_go_on : (conn other : ℕ) (before : List ServerEvent) (message : List ℕ) (taken : List (List (List ℕ))) → other < length taken
    → slice_index_or taken conn [] ≡ server_takes conn before
    → slice_index_or (with_item_at taken other message) conn [] ≡ server_takes conn (before ++ events.Take other message ∷ [])
takes_go_on conn other before message taken within is = elim (cases_eq other conn) [
  | inl same ↦ subst (λ other. slice_index_or (with_item_at taken other message) conn [] ≡ server_takes conn (before ++ events.Take other message ∷ [])) (sym same)
      (get_or-set_same taken conn (slice_index_or taken conn [] ++ message ∷ []) [] (subst (λ place. place < length taken) same within)
      ∙ ap (λ messages. messages ++ message ∷ []) is ∙ sym (server_takes-push_same conn before message))
  | inr apart ↦ get_or-set_other taken other conn (slice_index_or taken other [] ++ message ∷ []) [] (λ same. apart (sym same)) ∙ is
      ∙ sym (server_takes-push_other conn other before message apart)
]

sends_go_on : (conn other : ℕ) (before : List ServerEvent) (message : List ℕ) (pieces : List (List ℕ)) (sent : List (List (List (List ℕ))))
    → message ≡ concat pieces → other < length sent → map concat (slice_index_or sent conn []) ≡ server_sends conn before
    → map concat (slice_index_or (with_item_at sent other pieces) conn []) ≡ server_sends conn (before ++ events.Send other message ∷ [])
sends_go_on conn other before message pieces sent joined within is = elim (cases_eq other conn) [
  | inl same ↦ subst (λ other. map concat (slice_index_or (with_item_at sent other pieces) conn []) ≡ server_sends conn (before ++ events.Send other message ∷ [])) (sym same)
      (ap (map concat) (get_or-set_same sent conn (slice_index_or sent conn [] ++ pieces ∷ []) [] (subst (λ place. place < length sent) same within))
      ∙ map-append concat (slice_index_or sent conn []) (pieces ∷ []) ∙ ap (λ messages. messages ++ concat pieces ∷ []) is
      ∙ ap (λ last. server_sends conn before ++ last ∷ []) (sym joined) ∙ sym (server_sends-push_same conn before message))
  | inr apart ↦ ap (map concat) (get_or-set_other sent other conn (slice_index_or sent other [] ++ pieces ∷ []) [] (λ same. apart (sym same))) ∙ is
      ∙ sym (server_sends-push_other conn other before message apart)
]

-- What passed after a step is what the events say with this one.
record StepPasses (tree : Fields) (before : List ServerEvent) (event : ServerEvent) (taken : List (List (List ℕ)))
    (sent : List (List (List (List ℕ)))) : Type 0 where
  conns_taken : length taken ≡ tree.shape.conns
  conns_sent : length sent ≡ tree.shape.conns
  takes : (conn : ℕ) → slice_index_or taken conn [] ≡ server_takes conn (before ++ event ∷ [])
  sends : (conn : ℕ) → map concat (slice_index_or sent conn []) ≡ server_sends conn (before ++ event ∷ [])

event_passes : (tree : Fields) (before : List ServerEvent) (event : ServerEvent) (t u : Standing) → Passed tree before t → TreeStep tree t event u
    → StepPasses tree before event (taken_after t.taken event) (sent_after tree t t.sent event)
event_passes tree before (events.Take other message) t u passed step = record {
  conns_taken = length-set t.taken other (slice_index_or t.taken other [] ++ message ∷ []) ∙ passed.conns_taken;
  conns_sent = passed.conns_sent;
  takes = λ conn. takes_go_on conn other before message t.taken (rw passed.conns_taken (step_takes tree t u other message step)) (passed.takes conn);
  sends = λ conn. passed.sends conn ∙ sym (filter_map-push_none (sent_by_server conn) before (events.Take other message) refl);
}
event_passes tree before (events.Send other message) t u passed step = record {
  conns_taken = passed.conns_taken;
  conns_sent = length-set t.sent other (slice_index_or t.sent other [] ++ pieces_sent tree t ∷ []) ∙ passed.conns_sent;
  takes = λ conn. passed.takes conn ∙ sym (filter_map-push_none (taken_by_server conn) before (events.Send other message) refl);
  sends = λ conn. sends_go_on conn other before message (pieces_sent tree t) t.sent (step_sends tree t u other message step).0
      (rw passed.conns_sent (step_sends tree t u other message step).1) (passed.sends conn);
}
event_passes tree before event t u passed step = record {
  conns_taken = passed.conns_taken;
  conns_sent = passed.conns_sent;
  takes = λ conn. passed.takes conn ∙ sym (filter_map-push_none (taken_by_server conn) before event refl);
  sends = λ conn. passed.sends conn ∙ sym (filter_map-push_none (sent_by_server conn) before event refl);
}

step_passes : (tree : Fields) (before : List ServerEvent) (event : ServerEvent) (t u : Standing)
    → Passed tree before t → TreeStep tree t event u → Passed tree (before ++ event ∷ []) u
step_passes tree before event t u passed step =
    let after = event_passes tree before event t u passed step in
    let taken = step_taken tree t u event step in
    let sent = step_sent tree t u event step in
    record {
      conns_taken = ap length taken ∙ after.conns_taken;
      conns_sent = ap length sent ∙ after.conns_sent;
      takes = λ conn. ap (λ lists. slice_index_or lists conn []) taken ∙ after.takes conn;
      sends = λ conn. ap (λ lists. map concat (slice_index_or lists conn [])) sent ∙ after.sends conn;
      few_pairs = settles_few tree step.0 u (event_few tree t step.0 event passed.few_pairs step.1) step.2;
    }

steps_pass : (tree : Fields) (before events : List ServerEvent) (t u : Standing)
    → Passed tree before t → TreeSteps tree t events u → Passed tree (before ++ events) u
steps_pass tree before [] t u passed same = subst (λ u. Passed tree (before ++ []) u) same (subst (λ events. Passed tree events t) (sym (append-nil before)) passed)
steps_pass tree before (event ∷ events) t u passed (middle, step, steps) =
    subst (λ events. Passed tree events u) (append_assoc before (event ∷ []) events)
    (steps_pass tree (before ++ event ∷ []) events middle u (step_passes tree before event t middle passed step) steps)

pub run_passed : (tree : Fields) (events : List ServerEvent) (t : Standing) → TreeRunsTo tree events t → Passed tree events t
run_passed tree events t (opening, opens, steps) =
    steps_pass tree [] events opening t (settles_passes tree [] (first_standing tree) opening (opening_passes tree) opens) steps
