-- Tables stay small: none has more than 256 pairs.
use Rattle.std.proofs.Common.{◌≡◌, ℕ, ◌+◌, ◌<◌, ◌≤◌, Bool, true, false, ◌&&◌, ◌==◌, List, [], ◌∷◌, ◌++◌, map, length, take, Some, None, option_map, refl, subst, arith, length-append}
use Rattle.std.specs.Prelude.{bytes_eq, filter_map, find, if◌then◌else◌, remove, slice_get, slice_set}
use Rattle.std.specs.Bool.{beq}
use Rattle.std.specs.List.{AllByRecursion, cons_option}
use Rattle.std.proofs.lemmas.List.{length-drop, length-set, length-take}
use Rattle.std.proofs.lemmas.Option.{slice_get_within}
use Rattle.spec_model.specs.declared.config.Config.{Config}
use Rattle.spec_model.specs.declared.config.Pair.{Pair}
use Rattle.spec_model.specs.declared.config.Table.{Table}
use Rattle.spec_model.specs.declared.config.Task.{Task}
use Rattle.spec_model.specs.declared.config.Task.TheVariants.{Do}
use Rattle.spec_model.specs.declared.config.Value.TheVariants as values
use Rattle.spec_model.specs.declared.event.ServerEvent.{ServerEvent}
use Rattle.spec_model.specs.declared.event.ServerEvent.TheVariants as events
use Rattle.spec_model.specs.declared.tree.Decl.{Decl}
use Rattle.spec_model.specs.declared.tree.Expr.{Expr}
use Rattle.spec_model.specs.declared.tree.First.{First}
use Rattle.spec_model.specs.declared.tree.First.TheVariants as firsts
use Rattle.spec_model.specs.declared.tree.Kind.TheOpen.{Recv, Send, Pick, Assign, If, Either, Assume, Put, Lookup, Delete}
use Rattle.spec_model.specs.declared.tree.Spec.{Spec}
use Rattle.spec_model.specs.declared.tree.Stmt.{Stmt}
use Rattle.spec_model.specs.Config.{StmtKind, after_entering, first_pairs, table_of, with_value}
use Rattle.spec_model.specs.Message.{may_pass}
use Rattle.spec_model.specs.Step.{after_comparison, after_send, after_silent_stmt, after_stmt, after_take, assigned_value, chosen_case, may_take, parts_sent}
use Rattle.spec_model.specs.Table.{after_hit, after_miss, key_is_at, looked_up, most_pairs, pairs_in, with_pairs}
use Rattle.spec_model.specs.Value.{◌>>=◌, number_of, only_if, text_of, truth_of}
use Rattle.spec_rules.specs.Path.{compares, is_recv}
use Rattle.spec_paths.specs.Tests.{is_take, is_test}
use Rattle.spec_model.proofs.Partial.{bind_gave, map_gave, only_if_gave}

abbrev pub IsSmall : Table → Type 0
IsSmall table = length table.pairs ≤ most_pairs

abbrev pub AreSmall : List Table → Type 0
AreSmall tables = AllByRecursion IsSmall tables

-- the pairs of one of the tables are few
pub few_pairs : (tables : List Table) (name : List ℕ) (pairs : List Pair) → AreSmall tables
    → option_map (λ (t : Table). t.pairs) (find (λ (t : Table). bytes_eq t.name name) tables) ≡ Some pairs → length pairs ≤ most_pairs
few_pairs [] name pairs small is = absurd (cc)
few_pairs (table ∷ tables) name pairs small is = by_test (bytes_eq table.name name) is (few_pairs tables name pairs small.1)
  where
    by_test : (test : Bool) → option_map (λ (t : Table). t.pairs) (if test then Some table else find (λ (t : Table). bytes_eq t.name name) tables) ≡ Some pairs
        → (option_map (λ (t : Table). t.pairs) (find (λ (t : Table). bytes_eq t.name name) tables) ≡ Some pairs → length pairs ≤ most_pairs) → length pairs ≤ most_pairs
    by_test true gave later = let here : table.pairs ≡ pairs = cc in subst (λ these. length these ≤ most_pairs) here small.0
    by_test false gave later = later gave

length-remove_at_most : {A : Type 0} (items : List A) (number : ℕ) → length (remove items number) ≤ length items
length-remove_at_most items number = simp (length-append, length-take, length-drop) (omega arith)

-- a table of few pairs in the place of another
pub small_with : (tables : List Table) (name : List ℕ) (pairs : List Pair) → AreSmall tables → length pairs ≤ most_pairs
    → AreSmall (map (λ (t : Table). if bytes_eq t.name name then record t { pairs = pairs } else t) tables)
small_with [] name pairs small few = tt
small_with (table ∷ tables) name pairs small few = (by_test (bytes_eq table.name name), small_with tables name pairs small.1 few)
  where
    by_test : (test : Bool) → IsSmall (if test then record table { pairs = pairs } else table)
    by_test true = few
    by_test false = small.0

abbrev SmallIn : Config → Type 0
SmallIn c = AreSmall c.tables

hit_small : (c : Config) (rest : List Task) (passed : ℕ) (kind : StmtKind) (d : Config) → SmallIn c → after_hit c rest passed kind ≡ Some d → SmallIn d
hit_small c rest passed (Put table key value) d small gave =
    let pairs = bind_gave (pairs_in c table) _ d gave in
    let pair = bind_gave (slice_get pairs.0 passed) _ d pairs.2 in
    let new = bind_gave (text_of c value) _ d pair.2 in
    let same : with_pairs (record c { todo = rest }) table (slice_set pairs.0 passed (record pair.0 { value = new.0 })) ≡ d = cc (new.2) in
    let few = few_pairs c.tables table pairs.0 small pairs.1 in
    subst SmallIn same (small_with c.tables table _ small (omega (arith, few, length-set pairs.0 passed (record pair.0 { value = new.0 }))))
hit_small c rest passed (Lookup table key name found missing) d small gave =
    let pairs = bind_gave (pairs_in c table) _ d gave in
    let pair = bind_gave (slice_get pairs.0 passed) _ d pairs.2 in
    let same : after_entering c rest found (record { name = name; value = values.Text pair.0.value } ∷ []) ≡ d = cc (pair.2) in
    subst SmallIn same small
hit_small c rest passed (Delete table key) d small gave =
    let pairs = bind_gave (pairs_in c table) _ d gave in
    let same : with_pairs (record c { todo = rest }) table (remove pairs.0 passed) ≡ d = cc (pairs.2) in
    let few = few_pairs c.tables table pairs.0 small pairs.1 in
    subst SmallIn same (small_with c.tables table _ small (omega (arith, few, length-remove_at_most pairs.0 passed)))
hit_small c rest passed _ d small gave = absurd (cc)

miss_small : (c : Config) (rest : List Task) (kind : StmtKind) (d : Config) → SmallIn c → after_miss c rest kind ≡ Some d → SmallIn d
miss_small c rest (Put table key value) d small gave =
    let pairs = bind_gave (pairs_in c table) _ d gave in
    let wanted = bind_gave (text_of c key) _ d pairs.2 in
    let new = bind_gave (text_of c value) _ d wanted.2 in
    let kept = take most_pairs (record { key = wanted.0; value = new.0 } ∷ pairs.0) in
    let same : with_pairs (record c { todo = rest }) table kept ≡ d = cc (new.2) in
    subst SmallIn same (small_with c.tables table kept small (omega (arith, length-take most_pairs (record { key = wanted.0; value = new.0 } ∷ pairs.0))))
miss_small c rest (Lookup table key name found missing) d small gave =
    let same : after_entering c rest missing [] ≡ d = cc in subst SmallIn same small
miss_small c rest (Delete table key) d small gave = let same : record c { todo = rest } ≡ d = cc in subst SmallIn same small
miss_small c rest _ d small gave = absurd (cc)

-- A comparison of a look-up: so many pairs are few, and the tables stay small.
compared_small : (c : Config) (rest : List Task) (stmt : Stmt) (passed : ℕ) (kind : StmtKind) (outcome : Bool) (d : Config) → SmallIn c
    → (looked_up kind >>= (λ look_up. key_is_at c look_up.0 look_up.1 passed >>= (λ equal. only_if (beq equal outcome) (after_comparison c rest stmt passed kind outcome)))) ≡ Some d
    → (passed < most_pairs) × SmallIn d
compared_small c rest stmt passed kind outcome d small gave =
    let look_up = bind_gave (looked_up kind) _ d gave in
    let equal = bind_gave (key_is_at c look_up.0.0 look_up.0.1 passed) _ d look_up.2 in
    let pairs = bind_gave (pairs_in c look_up.0.0) _ equal.0 equal.1 in
    let pair = bind_gave (slice_get pairs.0 passed) _ equal.0 pairs.2 in
    let few = few_pairs c.tables look_up.0.0 pairs.0 small pairs.1 in
    let within = slice_get_within pairs.0 passed pair.0 pair.1 in
    (omega (arith, few, within), by_outcome outcome (only_if_gave (beq equal.0 outcome) _ d equal.2).1)
  where
    by_outcome : (outcome : Bool) → after_comparison c rest stmt passed kind outcome ≡ Some d → SmallIn d
    by_outcome true hit = hit_small c rest passed kind d small hit
    by_outcome false missed = let same : record c { todo = Do stmt (passed + 1) ∷ rest } ≡ d = cc in subst SmallIn same small

looked_small : (c : Config) (rest : List Task) (passed : ℕ) (kind : StmtKind) (d : Config) (table : List ℕ) → SmallIn c
    → (pairs_in c table >>= (λ pairs. only_if (passed == length pairs) (after_miss c rest kind))) ≡ Some d → SmallIn d
looked_small c rest passed kind d table small gave =
    let pairs = bind_gave (pairs_in c table) _ d gave in miss_small c rest kind d small (only_if_gave _ _ d pairs.2).1

pub silent_small : (c : Config) (rest : List Task) (passed : ℕ) (kind : StmtKind) (d : Config) → SmallIn c → after_silent_stmt c rest passed kind ≡ Some d → SmallIn d
silent_small c rest passed (Assign name left tail) d small gave =
    let given = map_gave (λ value. record c { todo = rest; registers = with_value c.registers name value }) (assigned_value c left tail) d gave in
    subst SmallIn given.2 small
silent_small c rest passed (Put table key value) d small gave = looked_small c rest passed (Put table key value) d table small gave
silent_small c rest passed (Lookup table key name found missing) d small gave = looked_small c rest passed (Lookup table key name found missing) d table small gave
silent_small c rest passed (Delete table key) d small gave = looked_small c rest passed (Delete table key) d table small gave
silent_small c rest passed _ d small gave = absurd (cc)

-- What an event says of its statement: a take is that of a `recv`; a comparison that of a statement that compares, which has passed few
-- pairs if it looks a key up; and every other event that of a statement that looks none up.
pub record Says (kind : StmtKind) (passed : ℕ) (event : ServerEvent) : Type 0 where
  pub take : is_take event ≡ true → is_recv kind ≡ true
  pub no_take : is_take event ≡ false → is_recv kind ≡ false
  pub test : is_test event ≡ true → compares kind ≡ true
  pub few : (asked : List ℕ × Expr) → is_test event ≡ true → looked_up kind ≡ Some asked → passed < most_pairs
  pub no_test : (asked : List ℕ × Expr) → is_test event ≡ false → looked_up kind ≡ Some asked → ⊥

abbrev SaysAnd : StmtKind → ℕ → ServerEvent → Config → Type 0
SaysAnd kind passed event d = Says kind passed event × SmallIn d

-- an event that is neither a take nor a comparison, of a statement that is no `recv` and looks nothing up
other_event : (kind : StmtKind) (passed : ℕ) (event : ServerEvent) → is_recv kind ≡ false → is_take event ≡ false → is_test event ≡ false → looked_up kind ≡ None → Says kind passed event
other_event kind passed event no_recv no_take no_test looks_none = record {
  take = λ took. absurd (cc);
  no_take = λ none. no_recv;
  test = λ tested. absurd (cc);
  few = λ asked tested asks. absurd (cc);
  no_test = λ asked none asks. absurd (cc);
}

-- a comparison of a statement that is no `recv`
test_event : (kind : StmtKind) (passed : ℕ) (outcome : Bool) → is_recv kind ≡ false → compares kind ≡ true
    → ((asked : List ℕ × Expr) → looked_up kind ≡ Some asked → passed < most_pairs) → Says kind passed (events.Test outcome)
test_event kind passed outcome no_recv comparing few = record {
  take = λ took. absurd (cc);
  no_take = λ none. no_recv;
  test = λ tested. comparing;
  few = λ asked tested. few asked;
  no_test = λ asked none asks. absurd (cc);
}

pub event_says : (spec : Spec) (c : Config) (rest : List Task) (stmt : Stmt) (passed : ℕ) (kind : StmtKind) (event : ServerEvent) (d : Config) → SmallIn c
    → after_stmt spec c rest stmt passed kind event ≡ Some d → SaysAnd kind passed event d
event_says spec c rest stmt passed (Recv chan cases other block) (events.Take conn message) d small gave =
    let allowed = bind_gave (may_take c chan conn) _ d gave in
    let entry = chosen_case cases other block message in
    let took = only_if_gave (allowed.0 && may_pass spec.shape conn message) (Some (after_take c rest chan conn message entry)) d allowed.2 in
    let same : after_take c rest chan conn message entry ≡ d = cc (took.1) in (
      record {
        take = λ took. refl;
        no_take = λ none. absurd (cc);
        test = λ tested. absurd (cc);
        few = λ asked tested asks. absurd (cc);
        no_test = λ asked none asks. absurd (cc);
      },
      subst SmallIn same small,
    )
event_says spec c rest stmt passed (Send named parts) (events.Send conn message) d small gave =
    let number = bind_gave (number_of c named) _ d gave in
    let pieces = bind_gave (parts_sent c parts) _ d number.2 in
    let sent = only_if_gave _ (Some (after_send c rest conn pieces.0)) d pieces.2 in
    let same : after_send c rest conn pieces.0 ≡ d = cc (sent.1) in
    (other_event _ passed _ refl refl refl refl, subst SmallIn same small)
event_says spec c rest stmt passed (Pick name len alphabet) (events.Pick text) d small gave =
    let bound = record c { todo = rest; locals = c.locals ++ record { name = name; value = values.Text text } ∷ [] } in
    let picked = only_if_gave _ (Some bound) d gave in
    let same : bound ≡ d = cc (picked.1) in
    (other_event _ passed _ refl refl refl refl, subst SmallIn same small)
event_says spec c rest stmt passed (Either arms) (events.Arm arm) d small gave =
    let chosen = map_gave (λ block. after_entering c rest block []) (slice_get arms arm) d gave in
    (other_event _ passed _ refl refl refl refl, subst SmallIn chosen.2 small)
event_says spec c rest stmt passed (If cond holds fails) (events.Test outcome) d small gave =
    let truth = bind_gave (truth_of c cond) _ d gave in
    let entered = only_if_gave (beq truth.0 outcome) (Some (after_entering c rest (if outcome then holds else fails) [])) d truth.2 in
    let same : after_entering c rest (if outcome then holds else fails) [] ≡ d = cc (entered.1) in
    (test_event _ passed outcome refl refl (λ asked asks. absurd (cc)), subst SmallIn same small)
event_says spec c rest stmt passed (Assume cond) (events.Test outcome) d small gave =
    let truth = bind_gave (truth_of c cond) _ d gave in
    let holds = only_if_gave (truth.0 && outcome) (Some (record c { todo = rest })) d truth.2 in
    let same : record c { todo = rest } ≡ d = cc (holds.1) in
    (test_event _ passed outcome refl refl (λ asked asks. absurd (cc)), subst SmallIn same small)
event_says spec c rest stmt passed (Put table key value) (events.Test outcome) d small gave =
    let compared = compared_small c rest stmt passed (Put table key value) outcome d small gave in
    (test_event _ passed outcome refl refl (λ asked asks. compared.0), compared.1)
event_says spec c rest stmt passed (Lookup table key name found missing) (events.Test outcome) d small gave =
    let compared = compared_small c rest stmt passed (Lookup table key name found missing) outcome d small gave in
    (test_event _ passed outcome refl refl (λ asked asks. compared.0), compared.1)
event_says spec c rest stmt passed (Delete table key) (events.Test outcome) d small gave =
    let compared = compared_small c rest stmt passed (Delete table key) outcome d small gave in
    (test_event _ passed outcome refl refl (λ asked asks. compared.0), compared.1)
event_says spec c rest stmt passed (Recv chan cases other block) (events.Test outcome) d small gave = absurd (cc)
event_says spec c rest stmt passed (Send conn parts) (events.Test outcome) d small gave = absurd (cc)
event_says spec c rest stmt passed (Pick name len alphabet) (events.Test outcome) d small gave = absurd (cc)
event_says spec c rest stmt passed (Assign name left tail) (events.Test outcome) d small gave = absurd (cc)
event_says spec c rest stmt passed (Either arms) (events.Test outcome) d small gave = absurd (cc)
event_says spec c rest stmt passed _ _ d small gave = absurd (cc)

-- the tables begin without pairs
pub tables_begin_small : (decls : List Decl) → AreSmall (filter_map table_of decls)
tables_begin_small [] = tt
tables_begin_small (decl ∷ decls) = by_first decl.first (tables_begin_small decls)
  where
    by_first : (first : First) → AreSmall (filter_map table_of decls)
        → AreSmall (cons_option (option_map (λ pairs. record { name = decl.name; pairs = pairs }) (first_pairs first)) (filter_map table_of decls))
    by_first (firsts.Text text) others = others
    by_first (firsts.Num number) others = others
    by_first (firsts.Conn conn) others = others
    by_first firsts.Table others = (omega arith, others)
