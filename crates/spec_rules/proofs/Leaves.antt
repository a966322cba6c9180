-- What a statement leaves to be done.
use Rattle.std.proofs.Common.{◌≡◌, ℕ, suc, ◌+◌, List, [], ◌∷◌, ◌++◌, map, length, Option, Some, None, option_map, Bool, true, false, ◌&&◌, ◌==◌, refl, ◌∙◌, ap, subst, take}
use Rattle.std.specs.Prelude.{slice_get, slice_set, remove, if◌then◌else◌}
use Rattle.std.specs.Bool.{beq}
use Rattle.std.proofs.lemmas.Option.{slice_get-map}
use Rattle.spec_model.specs.declared.config.Config.{Config}
use Rattle.spec_model.specs.declared.config.Value.TheVariants as values
use Rattle.spec_model.specs.declared.config.Task.{Task}
use Rattle.spec_model.specs.declared.config.Task.TheVariants.{Do, Forget}
use Rattle.spec_model.specs.declared.event.ServerEvent.{ServerEvent}
use Rattle.spec_model.specs.declared.event.ServerEvent.TheVariants as events
use Rattle.spec_model.specs.declared.tree.Block.{Block}
use Rattle.spec_model.specs.declared.tree.Case.{Case, out-Case}
use Rattle.spec_model.specs.declared.tree.Chan.{Chan}
use Rattle.spec_model.specs.declared.tree.Expr.{Expr}
use Rattle.spec_model.specs.declared.tree.Kind.TheOpen.{Recv, Send, Pick, Assign, If, Either, Assume, Put, Lookup, Delete}
use Rattle.spec_model.specs.declared.tree.Spec.{Spec}
use Rattle.spec_model.specs.declared.tree.Stmt.{Stmt}
use Rattle.spec_model.specs.Config.{StmtKind, stmts_of, begin, after_entering, with_value}
use Rattle.spec_model.specs.Message.{may_pass}
use Rattle.spec_model.specs.Pattern.{pieces_of}
use Rattle.spec_model.specs.Step.{after_comparison, after_send, after_silent_stmt, after_stmt, after_take, assigned_value, chosen_case, first_fit, may_take, parts_sent}
use Rattle.spec_model.specs.Table.{after_hit, after_miss, key_is_at, looked_up, most_pairs, pairs_in, with_pairs}
use Rattle.spec_model.specs.Value.{◌>>=◌, number_of, only_if, text_of, truth_of}
use Rattle.spec_model.proofs.Partial.{bind_gave, map_gave, only_if_gave}
use Rattle.spec_rules.specs.declared.names.ValueType.TheVariants.{Text}
use Rattle.spec_rules.specs.Names.{local, names_of_chan, names_of_pattern}
use Rattle.spec_rules.specs.Path.{is_recv, ways_on}
use Rattle.spec_rules.specs.Place.{Inner, blocks_of, without_names}

-- one of these blocks
pub record IsBlockIn (inners : List Inner) (block : Block) : Type 0 where
  pub number : ℕ
  pub inner : Inner
  pub is : slice_get inners number ≡ Some inner
  pub same : inner.block ≡ block

-- What is to do behind an event or silent work of a statement, if it has passed so many pairs and the rest stands behind it: the
-- rest alone, where it has no blocks; or the statement with one pair more, where it looks a key up; or one of its blocks, with the names bound in it forgotten at its end.
pub data Leaves (stmt : Stmt) (passed : ℕ) (kind : StmtKind) (rest : List Task) : List Task → Type 0 where
  goes_on : is_recv kind ≡ false → ways_on kind ≡ [] ∷ [] → Leaves stmt passed kind rest rest
  compares_on : (asked : List ℕ × Expr) → looked_up kind ≡ Some asked → Leaves stmt passed kind rest (Do stmt (passed + 1) ∷ rest)
  enters : (block : Block) (count : ℕ) → IsBlockIn (blocks_of kind) block
      → Leaves stmt passed kind rest (map begin (stmts_of block) ++ Forget count ∷ rest)

first_block : (inner : Inner) (inners : List Inner) → IsBlockIn (inner ∷ inners) inner.block
first_block inner inners = record { number = 0; inner = inner; is = refl; same = refl }

later_block : (first : Inner) (inners : List Inner) (block : Block) → IsBlockIn inners block → IsBlockIn (first ∷ inners) block
later_block first inners block stands = record { number = suc stands.number; inner = stands.inner; is = stands.is; same = stands.same }

arm_block : (arms : List Block) (number : ℕ) (arm : Block) → slice_get arms number ≡ Some arm → IsBlockIn (map without_names arms) arm
arm_block arms number arm is =
    record { number = number; inner = without_names arm; is = slice_get-map without_names arms number ∙ ap (option_map without_names) is; same = refl }

abbrev case_inner : Chan → Case → Inner
case_inner chan case = record { bound = names_of_chan chan ++ names_of_pattern (out-Case case).items; block = (out-Case case).block }

abbrev other_inner : Chan → List ℕ → Block → Inner
other_inner chan other block = record { bound = names_of_chan chan ++ local other Text ∷ []; block = block }

chosen_block : (chan : Chan) (cases : List Case) (other : List ℕ) (block : Block) (message : List ℕ)
    → IsBlockIn (map (case_inner chan) cases ++ other_inner chan other block ∷ []) (chosen_case cases other block message).block
chosen_block chan [] other block message = first_block (other_inner chan other block) []
chosen_block chan (case ∷ cases) other block message =
    by_fit (pieces_of (out-Case case).items message) (chosen_block chan cases other block message)
  where
    by_fit : (pieces : Option (List (List ℕ))) → IsBlockIn (map (case_inner chan) cases ++ other_inner chan other block ∷ []) (chosen_case cases other block message).block
        → IsBlockIn (map (case_inner chan) (case ∷ cases) ++ other_inner chan other block ∷ []) (first_fit case pieces (chosen_case cases other block message)).block
    by_fit (Some pieces) later = first_block (case_inner chan case) _
    by_fit None later = later_block (case_inner chan case) _ _ later

abbrev LeavesIn : Stmt → ℕ → StmtKind → List Task → Config → Type 0
LeavesIn stmt passed kind rest d = Leaves stmt passed kind rest d.todo

-- where the configuration is one with this to do
leaves_as : (stmt : Stmt) (passed : ℕ) (kind : StmtKind) (rest : List Task) (e d : Config) → e ≡ d → LeavesIn stmt passed kind rest e → LeavesIn stmt passed kind rest d
leaves_as stmt passed kind rest e d same leaves = subst (LeavesIn stmt passed kind rest) same leaves

hit_leaves : (c : Config) (stmt : Stmt) (passed : ℕ) (rest : List Task) (kind : StmtKind) (d : Config) → after_hit c rest passed kind ≡ Some d → LeavesIn stmt passed kind rest d
hit_leaves c stmt passed rest (Put table key value) d gave =
    let pairs = bind_gave (pairs_in c table) _ d gave in
    let pair = bind_gave (slice_get pairs.0 passed) _ d pairs.2 in
    let new = bind_gave (text_of c value) _ d pair.2 in
    let same : with_pairs (record c { todo = rest }) table (slice_set pairs.0 passed (record pair.0 { value = new.0 })) ≡ d = cc (new.2) in
    leaves_as stmt passed (Put table key value) rest _ d same (goes_on refl refl)
hit_leaves c stmt passed rest (Lookup table key name found missing) d gave =
    let pairs = bind_gave (pairs_in c table) _ d gave in
    let pair = bind_gave (slice_get pairs.0 passed) _ d pairs.2 in
    let same : after_entering c rest found (record { name = name; value = values.Text pair.0.value } ∷ []) ≡ d = cc (pair.2) in
    leaves_as stmt passed (Lookup table key name found missing) rest _ d same (enters found (length c.locals) (first_block _ _))
hit_leaves c stmt passed rest (Delete table key) d gave =
    let pairs = bind_gave (pairs_in c table) _ d gave in
    let same : with_pairs (record c { todo = rest }) table (remove pairs.0 passed) ≡ d = cc (pairs.2) in
    leaves_as stmt passed (Delete table key) rest _ d same (goes_on refl refl)
hit_leaves c stmt passed rest _ d gave = absurd (cc)

miss_leaves : (c : Config) (stmt : Stmt) (passed : ℕ) (rest : List Task) (kind : StmtKind) (d : Config) → after_miss c rest kind ≡ Some d → LeavesIn stmt passed kind rest d
miss_leaves c stmt passed rest (Put table key value) d gave =
    let pairs = bind_gave (pairs_in c table) _ d gave in
    let wanted = bind_gave (text_of c key) _ d pairs.2 in
    let new = bind_gave (text_of c value) _ d wanted.2 in
    let same : with_pairs (record c { todo = rest }) table (take most_pairs (record { key = wanted.0; value = new.0 } ∷ pairs.0)) ≡ d = cc (new.2) in
    leaves_as stmt passed (Put table key value) rest _ d same (goes_on refl refl)
miss_leaves c stmt passed rest (Lookup table key name found missing) d gave =
    let same : after_entering c rest missing [] ≡ d = cc in
    leaves_as stmt passed (Lookup table key name found missing) rest _ d same
    (enters missing (length c.locals) (later_block _ _ missing (first_block (without_names missing) [])))
miss_leaves c stmt passed rest (Delete table key) d gave =
    let same : record c { todo = rest } ≡ d = cc in leaves_as stmt passed (Delete table key) rest _ d same (goes_on refl refl)
miss_leaves c stmt passed rest _ d gave = absurd (cc)

-- the comparison of a look-up
compared_leaves : (c : Config) (stmt : Stmt) (passed : ℕ) (rest : List Task) (kind : StmtKind) (outcome : Bool) (d : Config)
    → (looked_up kind >>= (λ look_up. key_is_at c look_up.0 look_up.1 passed >>= (λ equal. only_if (beq equal outcome) (after_comparison c rest stmt passed kind outcome)))) ≡ Some d
    → LeavesIn stmt passed kind rest d
compared_leaves c stmt passed rest kind outcome d gave =
    let look_up = bind_gave (looked_up kind) _ d gave in
    let equal = bind_gave (key_is_at c look_up.0.0 look_up.0.1 passed) _ d look_up.2 in
    by_outcome outcome look_up.0 look_up.1 (only_if_gave (beq equal.0 outcome) _ d equal.2).1
  where
    by_outcome : (outcome : Bool) (asked : List ℕ × Expr) → looked_up kind ≡ Some asked → after_comparison c rest stmt passed kind outcome ≡ Some d
        → LeavesIn stmt passed kind rest d
    by_outcome true asked looks_up hit = hit_leaves c stmt passed rest kind d hit
    by_outcome false asked looks_up missed =
        leaves_as stmt passed kind rest (record c { todo = Do stmt (passed + 1) ∷ rest }) d (cc) (compares_on asked looks_up)

test_leaves : (spec : Spec) (c : Config) (stmt : Stmt) (passed : ℕ) (rest : List Task) (kind : StmtKind) (outcome : Bool) (d : Config)
    → after_stmt spec c rest stmt passed kind (events.Test outcome) ≡ Some d → LeavesIn stmt passed kind rest d
test_leaves spec c stmt passed rest (If cond holds fails) outcome d gave =
    let truth = bind_gave (truth_of c cond) _ d gave in by_outcome outcome (only_if_gave _ _ d truth.2).1
  where
    by_outcome : (outcome : Bool) → Some (after_entering c rest (if outcome then holds else fails) []) ≡ Some d
        → LeavesIn stmt passed (If cond holds fails) rest d
    by_outcome true is = leaves_as stmt passed (If cond holds fails) rest (after_entering c rest holds []) d (cc) (enters holds (length c.locals) (first_block (without_names holds) _))
    by_outcome false is = leaves_as stmt passed (If cond holds fails) rest (after_entering c rest fails []) d (cc)
        (enters fails (length c.locals) (later_block (without_names holds) _ fails (first_block (without_names fails) [])))
test_leaves spec c stmt passed rest (Assume cond) outcome d gave =
    let truth = bind_gave (truth_of c cond) _ d gave in
    let holds = only_if_gave (truth.0 && outcome) (Some (record c { todo = rest })) d truth.2 in
    let same : record c { todo = rest } ≡ d = cc (holds.1) in
    leaves_as stmt passed (Assume cond) rest _ d same (goes_on refl refl)
test_leaves spec c stmt passed rest (Recv chan cases other block) outcome d gave = absurd (cc)
test_leaves spec c stmt passed rest (Send conn parts) outcome d gave = absurd (cc)
test_leaves spec c stmt passed rest (Pick name len alphabet) outcome d gave = absurd (cc)
test_leaves spec c stmt passed rest (Assign name left tail) outcome d gave = absurd (cc)
test_leaves spec c stmt passed rest (Either arms) outcome d gave = absurd (cc)
test_leaves spec c stmt passed rest (Put table key value) outcome d gave = compared_leaves c stmt passed rest (Put table key value) outcome d gave
test_leaves spec c stmt passed rest (Lookup table key name found missing) outcome d gave = compared_leaves c stmt passed rest (Lookup table key name found missing) outcome d gave
test_leaves spec c stmt passed rest (Delete table key) outcome d gave = compared_leaves c stmt passed rest (Delete table key) outcome d gave

-- what an event leaves
pub event_leaves : (spec : Spec) (c : Config) (stmt : Stmt) (passed : ℕ) (rest : List Task) (kind : StmtKind) (event : ServerEvent) (d : Config)
    → after_stmt spec c rest stmt passed kind event ≡ Some d → LeavesIn stmt passed kind rest d
event_leaves spec c stmt passed rest (Recv chan cases other block) (events.Take conn message) d gave =
    let allowed = bind_gave (may_take c chan conn) _ d gave in
    let entry = chosen_case cases other block message in
    let took = only_if_gave (allowed.0 && may_pass spec.shape conn message) (Some (after_take c rest chan conn message entry)) d allowed.2 in
    let same : after_take c rest chan conn message entry ≡ d = cc (took.1) in
    leaves_as stmt passed (Recv chan cases other block) rest _ d same (enters entry.block (length c.locals) (chosen_block chan cases other block message))
event_leaves spec c stmt passed rest (Send named parts) (events.Send conn message) d gave =
    let number = bind_gave (number_of c named) _ d gave in
    let pieces = bind_gave (parts_sent c parts) _ d number.2 in
    let sent = only_if_gave _ (Some (after_send c rest conn pieces.0)) d pieces.2 in
    let same : after_send c rest conn pieces.0 ≡ d = cc (sent.1) in
    leaves_as stmt passed (Send named parts) rest _ d same (goes_on refl refl)
event_leaves spec c stmt passed rest (Pick name len alphabet) (events.Pick text) d gave =
    let bound = record c { todo = rest; locals = c.locals ++ record { name = name; value = values.Text text } ∷ [] } in
    let picked = only_if_gave _ (Some bound) d gave in
    let same : bound ≡ d = cc (picked.1) in
    leaves_as stmt passed (Pick name len alphabet) rest _ d same (goes_on refl refl)
event_leaves spec c stmt passed rest (Either arms) (events.Arm arm) d gave =
    let chosen = map_gave (λ block. after_entering c rest block []) (slice_get arms arm) d gave in
    leaves_as stmt passed (Either arms) rest _ d chosen.2 (enters chosen.0 (length c.locals) (arm_block arms arm chosen.0 chosen.1))
event_leaves spec c stmt passed rest kind (events.Test outcome) d gave = test_leaves spec c stmt passed rest kind outcome d gave
event_leaves spec c stmt passed rest _ _ d gave = absurd (cc)

-- a look-up that has passed all pairs
looked : (c : Config) (stmt : Stmt) (passed : ℕ) (rest : List Task) (kind : StmtKind) (d : Config) (table : List ℕ)
    → (pairs_in c table >>= (λ pairs. only_if (passed == length pairs) (after_miss c rest kind))) ≡ Some d → LeavesIn stmt passed kind rest d
looked c stmt passed rest kind d table gave =
    let pairs = bind_gave (pairs_in c table) _ d gave in miss_leaves c stmt passed rest kind d (only_if_gave _ _ d pairs.2).1

-- what silent work leaves
pub silent_leaves : (c : Config) (stmt : Stmt) (passed : ℕ) (rest : List Task) (kind : StmtKind) (d : Config)
    → after_silent_stmt c rest passed kind ≡ Some d → LeavesIn stmt passed kind rest d
silent_leaves c stmt passed rest (Assign name left tail) d gave =
    let given = map_gave (λ value. record c { todo = rest; registers = with_value c.registers name value }) (assigned_value c left tail) d gave in
    leaves_as stmt passed (Assign name left tail) rest _ d given.2 (goes_on refl refl)
silent_leaves c stmt passed rest (Put table key value) d gave = looked c stmt passed rest (Put table key value) d table gave
silent_leaves c stmt passed rest (Lookup table key name found missing) d gave = looked c stmt passed rest (Lookup table key name found missing) d table gave
silent_leaves c stmt passed rest (Delete table key) d gave = looked c stmt passed rest (Delete table key) d table gave
silent_leaves c stmt passed rest _ d gave = absurd (cc)
