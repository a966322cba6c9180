-- How much a server may do before it waits for a message, and that each of its steps leaves less.
use Rattle.std.proofs.Common.{◌≡◌, ℕ, zero, suc, ◌+◌, ◌-◌, ◌*◌, ◌<◌, ◌≤◌, Bool, true, false, ◌&&◌, ◌==◌, List, [], ◌∷◌, length, map, Option, Some, None, bytes_eq, refl, sym, ◌∙◌, ap, subst, arith}
use Rattle.std.proofs.lemmas.Option.{same_Some, slice_get_within}
use Rattle.std.specs.Bool.{beq}
use Rattle.std.specs.List.{AllByRecursion, concat}
use Rattle.std.specs.Prelude.{slice_get}
use Rattle.spec_model.specs.declared.config.Pair.{Pair}
use Rattle.spec_model.specs.declared.config.Value.{Value}
use Rattle.spec_model.specs.declared.event.ServerEvent.{ServerEvent}
use Rattle.spec_model.specs.declared.event.ServerEvent.TheVariants as events
use Rattle.spec_model.specs.Message.{may_pass}
use Rattle.spec_model.specs.Pattern.{pieces_of}
use Rattle.spec_model.specs.Run.{BeginsWithRecv}
use Rattle.spec_model.specs.Step.{may_be_picked}
use Rattle.spec_model.specs.Table.{most_pairs}
use Rattle.spec_model.proofs.Partial.{bind_gave, map_gave, only_if_gave}
use Rattle.itree_data.specs.declared.node.Check.{Check}
use Rattle.itree_data.specs.declared.node.Check.TheVariants as checks
use Rattle.itree_data.specs.declared.node.Node.{Node}
use Rattle.itree_data.specs.declared.node.Node.TheVariants as nodes
use Rattle.itree_data.specs.declared.node.TakeCase.{TakeCase}
use Rattle.itree_data.specs.declared.node.Val.{Val}
use Rattle.itree_data.specs.Change.{after_change, next_has_key}
use Rattle.itree_data.specs.Fields.{Fields}
use Rattle.itree_data.specs.Marks.{GoesDown, IsCompiled}
use Rattle.itree_data.specs.Run.{TreeSettles, TreeStep, passes, settled}
use Rattle.itree_data.specs.Standing.{Standing, at_node}
use Rattle.itree_data.specs.Step.{Entry, after_node, after_pair, after_store, case_fit, case_taken, item_of, side_of, takes_from, with_conn}
use Rattle.itree_data.specs.Value.{number_at, pieces_at, truth_at}
use Rattle.dual_step.specs.Left.{left_at}
use Rattle.dual_step.proofs.SilentWork.{work_falls}

-- What may be done at the node of this number, where so many pairs were compared; nothing where a message is taken. A node counts for
-- more than all pairs that may be compared at it, and for more than any node of a lower number.
abbrev pub work_at : ℕ → ℕ → Option Node → ℕ
work_at number compared (Some (nodes.Take from conn cases other next)) = 0
work_at number compared _ = number * (most_pairs + 2) + (most_pairs + 1 - compared)

abbrev pub place_work : Fields → ℕ → ℕ → ℕ
place_work tree number compared = work_at number compared (slice_get tree.nodes number)

abbrev pub work : Fields → Standing → ℕ
work tree t = place_work tree t.node t.compared

abbrev pub most_work : Fields → ℕ
most_work tree = length tree.nodes * (most_pairs + 2)

work_at-le : (number compared : ℕ) (node : Option Node) → work_at number compared node ≤ number * (most_pairs + 2) + (most_pairs + 1)
work_at-le number compared (Some (nodes.Take from conn cases other next)) = omega arith
work_at-le number compared _ = omega arith

-- what holds of each holds of one
holds_at : {A : Type 0} (P : A → Type 0) (xs : List A) (place : ℕ) (x : A) → AllByRecursion P xs → slice_get xs place ≡ Some x → P x
holds_at P [] place x all is = absurd (cc)
holds_at P (first ∷ xs) zero x all is = subst P (same_Some first x is) all.0
holds_at P (first ∷ xs) (suc place) x all is = holds_at P xs place x all.1 is

-- Where silent work has less left, there is no more to do.
work_by_left : (number compared other other_compared : ℕ) (found other_found : Option Node) → left_at other other_found < left_at number found
    → work_at other other_compared other_found ≤ work_at number compared found
work_by_left number compared other other_compared (Some (nodes.Take from conn cases last next)) other_found less = absurd (omega (arith, less))
work_by_left number compared other other_compared found (Some (nodes.Take from conn cases last next)) less = omega arith
work_by_left number compared other other_compared found other_found less = omega (arith, less)

settles_leaves : (tree : Fields) → IsCompiled tree → BeginsWithRecv tree.spec → (t u : Standing) → TreeSettles tree t u → work tree u ≤ work tree t
settles_leaves tree compiled begins t _ (settled none) = omega arith
settles_leaves tree compiled begins t v (passes {u = u} gave more) =
    let piece = work_by_left t.node t.compared u.node u.compared (slice_get tree.nodes t.node) (slice_get tree.nodes u.node) (work_falls tree compiled begins t u gave) in
    let rest = settles_leaves tree compiled begins u v more in
    omega (arith, piece, rest)

-- A message is taken to a node of a lower number.
fit_below : (locals : List Value) (case : TakeCase) (fit : Option (List (List ℕ))) (later : Entry) (number : ℕ) → case.next < number → later.next < number
    → (case_fit locals case fit later).next < number
fit_below locals case (Some pieces) later number below later_below = below
fit_below locals case None later number below later_below = later_below

entry_below : (locals : List Value) (cases : List TakeCase) (other next : ℕ) (message : List ℕ) (number : ℕ)
    → AllByRecursion (λ (case : TakeCase). case.next < number) cases → next < number → (case_taken locals cases other next message).next < number
entry_below locals [] other next message number all below = below
entry_below locals (case ∷ cases) other next message number all below =
    fit_below locals case (pieces_of (map item_of case.items) message) (case_taken locals cases other next message) number all.0
    (entry_below locals cases other next message number all.1 below)

-- A test goes on at a node of a lower number, and so does a change.
side_below : (number : ℕ) (test : Check) (outcome : Bool) (holds : ℕ) (fails : Option ℕ) (next : ℕ) → GoesDown number (nodes.Branch test holds fails)
    → side_of outcome holds fails ≡ Some next → next < number
side_below number test true holds None next down is = subst (λ n. n < number) (same_Some holds next is) down
side_below number test true holds (Some fails) next down is = subst (λ n. n < number) (same_Some holds next is) down.0
side_below number test false holds None next down is = absurd (cc)
side_below number test false holds (Some fails) next down is = subst (λ n. n < number) (same_Some fails next is) down.1

stored_below : (t u : Standing) (node : Node) (number : ℕ) → GoesDown number node → after_store t node ≡ Some u → u.node < number
stored_below t u (nodes.Store what next) number down gave =
    let after = map_gave (λ after. at_node after next) (after_change t what) u gave in
    subst (λ n. n < number) (ap (λ (u : Standing). u.node) after.2) down
stored_below t u _ number down gave = absurd (cc)

module _ (tree : Fields) (compiled : IsCompiled tree) where
  -- A step takes a message, and afterwards there is no more to do than there may be; or it leaves less to do.
  pub data Progress (t : Standing) (event : ServerEvent) (u : Standing) : Type 0 where
    takes : (conn : ℕ) (message : List ℕ) → event ≡ events.Take conn message → work tree u ≤ most_work tree → Progress t event u
    works : work tree u < work tree t → Progress t event u

  -- At a node where no message is taken, a step to a lower one leaves less to do.
  goes_below : (t u : Standing) (event : ServerEvent) (node : Node) → slice_get tree.nodes t.node ≡ Some node
      → work_at t.node t.compared (Some node) ≡ t.node * (most_pairs + 2) + (most_pairs + 1 - t.compared) → u.node < t.node → Progress t event u
  goes_below t u event node there counts below =
      let most = work_at-le u.node u.compared (slice_get tree.nodes u.node) in
      let here : work tree t ≡ t.node * (most_pairs + 2) + (most_pairs + 1 - t.compared) = ap (work_at t.node t.compared) there ∙ counts in
      works (omega (arith, most, here, below))

  -- A look-up goes on behind a pair that is equal, and otherwise to the next pair.
  pair_progress : (t u : Standing) (event : ServerEvent) (table : ℕ) (key : Val) (holds : ℕ) (fails : Option ℕ) (equal outcome : Bool)
      → AllByRecursion (λ (pairs : List Pair). length pairs ≤ most_pairs) t.tables → slice_get tree.nodes t.node ≡ Some (nodes.Branch (checks.Scan table key) holds fails)
      → next_has_key t table key ≡ Some equal → after_pair tree t holds outcome ≡ Some u → Progress t event u
  pair_progress t u event table key holds fails equal true few there compares gave =
      let change = bind_gave (slice_get tree.nodes holds) (after_store t) u gave in
      let behind = stored_below t u change.0 holds (compiled.down holds change.0 change.1) change.2 in
      let lower : holds < t.node = side_below t.node (checks.Scan table key) true holds fails holds (compiled.down t.node _ there) refl in
      goes_below t u event (nodes.Branch (checks.Scan table key) holds fails) there refl (omega (arith, behind, lower))
  pair_progress t u event table key holds fails equal false few there compares gave =
      let pairs = bind_gave (slice_get t.tables table) _ equal compares in
      let pair = bind_gave (slice_get pairs.0 t.compared) _ equal pairs.2 in
      let within : t.compared < length pairs.0 = slice_get_within pairs.0 t.compared pair.0 pair.1 in
      let most : length pairs.0 ≤ most_pairs = holds_at (λ (pairs : List Pair). length pairs ≤ most_pairs) t.tables table pairs.0 few pairs.1 in
      let passed : t.node * (most_pairs + 2) + (most_pairs + 1 - (t.compared + 1)) < t.node * (most_pairs + 2) + (most_pairs + 1 - t.compared) = omega (arith, within, most) in
      let less : work_at t.node (t.compared + 1) (slice_get tree.nodes t.node) < work_at t.node t.compared (slice_get tree.nodes t.node)
      = subst (λ node. work_at t.node (t.compared + 1) node < work_at t.node t.compared node) (sym there) passed in
      works (subst (λ u. work tree u < work tree t) (same_Some (record t { compared = t.compared + 1 }) u gave) less)

  node_progress : (t u : Standing) (node : Node) (event : ServerEvent) → AllByRecursion (λ (pairs : List Pair). length pairs ≤ most_pairs) t.tables
      → slice_get tree.nodes t.node ≡ Some node → after_node tree t node event ≡ Some u → Progress t event u
  node_progress t u (nodes.Take from bound cases other next) (events.Take conn message) few there gave =
      let allowed = bind_gave (takes_from t from conn) _ u gave in
      let taken = (only_if_gave (allowed.0 && may_pass tree.shape conn message) _ u allowed.2).1 in
      let down = compiled.down t.node _ there in
      let entry = case_taken (with_conn t.locals bound conn) cases other next message in
      let lower : entry.next < t.node = entry_below (with_conn t.locals bound conn) cases other next message t.node down.0 down.1 in
      let goes : entry.next ≡ u.node = ap (λ (u : Standing). u.node) (same_Some _ u taken) in
      let within = slice_get_within tree.nodes t.node _ there in
      let most = work_at-le u.node u.compared (slice_get tree.nodes u.node) in
      takes conn message refl (omega (arith, lower, goes, within, most))
  node_progress t u (nodes.Send named parts next) (events.Send conn message) few there gave =
      let number = bind_gave (number_at t named) _ u gave in
      let pieces = bind_gave (pieces_at t parts) _ u number.2 in
      let sent = (only_if_gave ((number.0 == conn) && bytes_eq message (concat pieces.0) && may_pass tree.shape conn message) _ u pieces.2).1 in
      let goes : next ≡ u.node = ap (λ (u : Standing). u.node) (same_Some _ u sent) in
      goes_below t u _ _ there refl (subst (λ n. n < t.node) goes (compiled.down t.node _ there))
  node_progress t u (nodes.Choose slot len alphabet next) (events.Pick text) few there gave =
      let picked = (only_if_gave (may_be_picked tree.shape.framing len alphabet text) _ u gave).1 in
      let goes : next ≡ u.node = ap (λ (u : Standing). u.node) (same_Some _ u picked) in
      goes_below t u _ _ there refl (subst (λ n. n < t.node) goes (compiled.down t.node _ there))
  node_progress t u (nodes.Fork arms) (events.Arm arm) few there gave =
      let chosen = map_gave (at_node t) (slice_get arms arm) u gave in
      let lower : chosen.0 < t.node = holds_at (λ arm. arm < t.node) arms arm chosen.0 (compiled.down t.node _ there) chosen.1 in
      goes_below t u _ _ there refl (subst (λ n. n < t.node) (ap (λ (u : Standing). u.node) chosen.2) lower)
  node_progress t u (nodes.Branch (checks.Cond left op right) holds fails) (events.Test outcome) few there gave =
      let truth = bind_gave (truth_at t left op right) _ u gave in
      let tested = (only_if_gave (beq truth.0 outcome) _ u truth.2).1 in
      let side = map_gave (at_node t) (side_of outcome holds fails) u tested in
      let lower : side.0 < t.node = side_below t.node (checks.Cond left op right) outcome holds fails side.0 (compiled.down t.node _ there) side.1 in
      goes_below t u _ _ there refl (subst (λ n. n < t.node) (ap (λ (u : Standing). u.node) side.2) lower)
  node_progress t u (nodes.Branch (checks.Scan table key) holds fails) (events.Test outcome) few there gave =
      let equal = bind_gave (next_has_key t table key) _ u gave in
      let tested = (only_if_gave (beq equal.0 outcome) _ u equal.2).1 in
      pair_progress t u (events.Test outcome) table key holds fails equal.0 outcome few there equal.1 tested
  node_progress t u node event few there gave = absurd (cc)

  -- Silent work leaves no more to do.
  settled_progress : (t middle u : Standing) (event : ServerEvent) → work tree u ≤ work tree middle → Progress t event middle → Progress t event u
  settled_progress t middle u event no_more (takes conn message is most) = takes conn message is (omega (arith, no_more, most))
  settled_progress t middle u event no_more (works less) = works (omega (arith, no_more, less))

  pub step_progress : BeginsWithRecv tree.spec → (t u : Standing) (event : ServerEvent) → AllByRecursion (λ (pairs : List Pair). length pairs ≤ most_pairs) t.tables
      → TreeStep tree t event u → Progress t event u
  step_progress begins t u event few (middle, gave, settles) =
      let node = bind_gave (slice_get tree.nodes t.node) _ middle gave in
      settled_progress t middle u event (settles_leaves tree compiled begins middle u settles) (node_progress t middle node.0 event few node.1 node.2)
