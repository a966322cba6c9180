-- A statement that may show a test or a send may show it with one event alone.
use Rattle.std.proofs.Common.{◌≡◌, ℕ, Bool, true, false, not, ◌&&◌, ◌||◌, ◌==◌, nat_lt, List, [], ◌∷◌, Option, Some, None, Result, Ok, Err, IfOk, IfSome, is_some, slice_get, bytes_eq, refl, sym, ◌∙◌, ap, subst, eq-eqb}
use Rattle.std.specs.Bool.{beq}
use Rattle.std.specs.List.{concat}
use Rattle.std.proofs.lemmas.Bool.{eqb-true}
use Rattle.std.proofs.lemmas.Slice.Eq.{bytes_eq-Decides}
use Rattle.spec_model.specs.declared.config.Config.{Config}
use Rattle.spec_model.specs.declared.config.Pair.{Pair}
use Rattle.spec_model.specs.declared.config.Task.{Task}
use Rattle.spec_model.specs.declared.config.Task.TheVariants.{Do, Forget}
use Rattle.spec_model.specs.declared.event.ServerEvent.{ServerEvent}
use Rattle.spec_model.specs.declared.event.ServerEvent.TheVariants as events
use Rattle.spec_model.specs.declared.tree.Block.{Block}
use Rattle.spec_model.specs.declared.tree.Cond.{Cond}
use Rattle.spec_model.specs.declared.tree.Expr.{Expr}
use Rattle.spec_model.specs.declared.tree.Kind.TheOpen.{Recv, Send, Pick, Assign, If, Either, Assume, Put, Lookup, Delete}
use Rattle.spec_model.specs.declared.tree.Spec.{Spec}
use Rattle.spec_model.specs.declared.tree.Stmt.{Stmt}
use Rattle.spec_model.specs.Config.{StmtKind, kind_of}
use Rattle.spec_model.specs.Message.{is_message, may_pass}
use Rattle.spec_model.specs.Step.{after_comparison, after_event_at, after_stmt, parts_sent}
use Rattle.spec_model.specs.Table.{after_hit, key_is_at, pairs_in}
use Rattle.spec_model.specs.Value.{◌>>=◌, only_if, number_of, text_of, truth_of}
use Rattle.spec_model.proofs.Partial.{bind_gave, both_passed, map_gave, only_if_gave}
use Rattle.server_run.specs.Options.{IsForced, IsTestOrSend, conn_named, forced_at, forced_by, forced_event, forced_test, message_sent}

-- whether a statement makes no choice
abbrev pub is_plain : StmtKind → Bool
is_plain (Recv chan cases other block) = false
is_plain (Pick name len alphabet) = false
is_plain (Either arms) = false
is_plain _ = true

same_bool : (a b : Bool) → beq a b ≡ true → a ≡ b
same_bool true true e = refl
same_bool true false e = absurd (cc)
same_bool false true e = absurd (cc)
same_bool false false e = refl

beq_self : (a : Bool) → beq a a ≡ true
beq_self true = refl
beq_self false = refl

-- A comparison of the key with a pair's, which lets only the outcome pass that it has.
compared : (equal : Option Bool) (outcome : Bool) (after : Option Config) (d : Config)
    → (equal >>= (λ equal. only_if (beq equal outcome) after)) ≡ Some d → (equal ≡ Some outcome) × (after ≡ Some d)
compared equal outcome after d e =
    let found = bind_gave equal (λ equal. only_if (beq equal outcome) after) d e in
    let same = only_if_gave (beq found.0 outcome) after d found.2 in
    (found.1 ∙ ap Some (same_bool found.0 outcome same.0), same.1)

put_goes_on : (c : Config) (table : List ℕ) (place : ℕ) (rest : List Task) (key value : Expr) (d : Config)
    → after_hit c rest place (Put table key value) ≡ Some d → is_some (text_of c value) ≡ true
put_goes_on c table place rest key value d e =
    let pairs = bind_gave (pairs_in c table) _ d e in
    let pair = bind_gave (slice_get pairs.0 place) _ d pairs.2 in
    let text = bind_gave (text_of c value) _ d pair.2 in
    ap is_some text.1

put_allowed : (c : Config) (table : List ℕ) (place : ℕ) (rest : List Task) (stmt : Stmt) (key value : Expr) (outcome : Bool) (d : Config)
    → after_comparison c rest stmt place (Put table key value) outcome ≡ Some d → (not outcome || is_some (text_of c value)) ≡ true
put_allowed c table place rest stmt key value true d e = put_goes_on c table place rest key value d e
put_allowed c table place rest stmt key value false d e = refl

-- The event of a step of such a statement is the one that it may show.
pub step_is_forced : (spec : Spec) (c : Config) (rest : List Task) (stmt : Stmt) (passed : ℕ) (kind : StmtKind) (event : ServerEvent) (d : Config)
    → is_plain kind ≡ true → after_stmt spec c rest stmt passed kind event ≡ Some d → forced_by spec c passed kind ≡ Some event
step_is_forced spec c rest stmt passed (Send named parts) (events.Send conn message) d plain e =
    let number = bind_gave (number_of c named) _ d e in
    let pieces = bind_gave (parts_sent c parts) _ d number.2 in
    let tests = (only_if_gave ((number.0 == conn) && bytes_eq message (concat pieces.0) && may_pass spec.shape conn message) _ d pieces.2).0 in
    let first = both_passed ((number.0 == conn) && bytes_eq message (concat pieces.0)) (may_pass spec.shape conn message) tests in
    let second = both_passed (number.0 == conn) (bytes_eq message (concat pieces.0)) first.0 in
    let passes = both_passed (nat_lt conn spec.shape.conns) (is_message spec.shape message) first.1 in
    let same_conn : number.0 ≡ conn = eqb-true number.0 conn second.0 in
    let same_text : message ≡ concat pieces.0 = (bytes_eq-Decides message (concat pieces.0)).0 second.1 in
    rw (number.1, same_conn, passes.0, pieces.1, ← same_text, passes.1) refl
step_is_forced spec c rest stmt passed (If cond holds fails) (events.Test outcome) d plain e =
    let truth = bind_gave (truth_of c cond) _ d e in
    let same = only_if_gave (beq truth.0 outcome) _ d truth.2 in
    rw (truth.1, same_bool truth.0 outcome same.0) refl
step_is_forced spec c rest stmt passed (Assume cond) (events.Test outcome) d plain e =
    let truth = bind_gave (truth_of c cond) _ d e in
    let tests = both_passed truth.0 outcome (only_if_gave (truth.0 && outcome) _ d truth.2).0 in
    rw (truth.1, tests.0, tests.1) refl
step_is_forced spec c rest stmt passed (Put table key value) (events.Test outcome) d plain e =
    let found = compared (key_is_at c table key passed) outcome _ d e in
    rw (found.0, put_allowed c table passed rest stmt key value outcome d found.1) refl
step_is_forced spec c rest stmt passed (Lookup table key name holds fails) (events.Test outcome) d plain e =
    rw ((compared (key_is_at c table key passed) outcome _ d e).0) refl
step_is_forced spec c rest stmt passed (Delete table key) (events.Test outcome) d plain e =
    rw ((compared (key_is_at c table key passed) outcome _ d e).0) refl
step_is_forced spec c rest stmt passed (Assign name left tail) (events.Take conn message) d plain e = absurd (cc)
step_is_forced spec c rest stmt passed (Assign name left tail) (events.Arm arm) d plain e = absurd (cc)
step_is_forced spec c rest stmt passed (Assign name left tail) (events.Test outcome) d plain e = absurd (cc)
step_is_forced spec c rest stmt passed (Assign name left tail) (events.Pick text) d plain e = absurd (cc)
step_is_forced spec c rest stmt passed (Assign name left tail) (events.Send conn message) d plain e = absurd (cc)
step_is_forced spec c rest stmt passed _ _ d plain e = absurd (cc)

-- where a key was compared with that of a pair, there is that pair
pair_there : (c : Config) (table : List ℕ) (key : Expr) (place : ℕ) (equal : Bool) → key_is_at c table key place ≡ Some equal
    → (pairs : _) × (pair : _) × (pairs_in c table ≡ Some pairs) × (slice_get pairs place ≡ Some pair)
pair_there c table key place equal e =
    let pairs = bind_gave (pairs_in c table) _ equal e in
    let pair = bind_gave (slice_get pairs.0 place) _ equal pairs.2 in
    (pairs.0, pair.0, pairs.1, pair.1)

there : {A : Type 0} (o : Option A) → is_some o ≡ true → (x : A) × (o ≡ Some x)
there None e = absurd (cc)
there (Some x) e = (x, refl)

put_renews : (c : Config) (rest : List Task) (stmt : Stmt) (table : List ℕ) (key value : Expr) (place : ℕ) (pairs : List Pair) (pair : Pair) (text : List ℕ)
    → pairs_in c table ≡ Some pairs → slice_get pairs place ≡ Some pair → text_of c value ≡ Some text
    → is_some (after_comparison c rest stmt place (Put table key value) true) ≡ true
put_renews c rest stmt table key value place pairs pair text in_table at_place is_text = rw (in_table, at_place, is_text) refl

put_steps : (c : Config) (rest : List Task) (stmt : Stmt) (table : List ℕ) (key value : Expr) (place : ℕ) (equal : Bool) → key_is_at c table key place ≡ Some equal
    → (not equal || is_some (text_of c value)) ≡ true → is_some (after_comparison c rest stmt place (Put table key value) equal) ≡ true
put_steps c rest stmt table key value place false is allowed = refl
put_steps c rest stmt table key value place true is allowed =
    let pair = pair_there c table key place true is in
    let text = there (text_of c value) allowed in
    put_renews c rest stmt table key value place pair.0 pair.1 text.0 pair.2 pair.3 text.1

lookup_finds : (c : Config) (rest : List Task) (stmt : Stmt) (table : List ℕ) (key : Expr) (name : List ℕ) (holds fails : Block) (place : ℕ) (pairs : List Pair) (pair : Pair)
    → pairs_in c table ≡ Some pairs → slice_get pairs place ≡ Some pair → is_some (after_comparison c rest stmt place (Lookup table key name holds fails) true) ≡ true
lookup_finds c rest stmt table key name holds fails place pairs pair in_table at_place = rw (in_table, at_place) refl

lookup_steps : (c : Config) (rest : List Task) (stmt : Stmt) (table : List ℕ) (key : Expr) (name : List ℕ) (holds fails : Block) (place : ℕ) (equal : Bool)
    → key_is_at c table key place ≡ Some equal → is_some (after_comparison c rest stmt place (Lookup table key name holds fails) equal) ≡ true
lookup_steps c rest stmt table key name holds fails place false is = refl
lookup_steps c rest stmt table key name holds fails place true is =
    let pair = pair_there c table key place true is in lookup_finds c rest stmt table key name holds fails place pair.0 pair.1 pair.2 pair.3

delete_finds : (c : Config) (rest : List Task) (stmt : Stmt) (table : List ℕ) (key : Expr) (place : ℕ) (pairs : List Pair)
    → pairs_in c table ≡ Some pairs → is_some (after_comparison c rest stmt place (Delete table key) true) ≡ true
delete_finds c rest stmt table key place pairs in_table = rw in_table refl

delete_steps : (c : Config) (rest : List Task) (stmt : Stmt) (table : List ℕ) (key : Expr) (place : ℕ) (equal : Bool)
    → key_is_at c table key place ≡ Some equal → is_some (after_comparison c rest stmt place (Delete table key) equal) ≡ true
delete_steps c rest stmt table key place false is = refl
delete_steps c rest stmt table key place true is =
    let pair = pair_there c table key place true is in delete_finds c rest stmt table key place pair.0 pair.2

send_steps : (spec : Spec) (c : Config) (rest : List Task) (stmt : Stmt) (passed : ℕ) (named : Expr) (parts : List Expr) (conn : ℕ) (pieces : List (List ℕ))
    → number_of c named ≡ Some conn → nat_lt conn spec.shape.conns ≡ true → parts_sent c parts ≡ Some pieces → is_message spec.shape (concat pieces) ≡ true
    → is_some (after_stmt spec c rest stmt passed (Send named parts) (events.Send conn (concat pieces))) ≡ true
send_steps spec c rest stmt passed named parts conn pieces is_conn within are_pieces short =
    let equal : bytes_eq (concat pieces) (concat pieces) ≡ true = (bytes_eq-Decides (concat pieces) (concat pieces)).1 refl in
    let self : (conn == conn) ≡ true = eq-eqb conn conn refl in
    rw (is_conn, are_pieces, self, equal, within, short) refl

if_steps : (spec : Spec) (c : Config) (rest : List Task) (stmt : Stmt) (passed : ℕ) (cond : Cond) (holds fails : Block) (truth : Bool)
    → truth_of c cond ≡ Some truth → is_some (after_stmt spec c rest stmt passed (If cond holds fails) (events.Test truth)) ≡ true
if_steps spec c rest stmt passed cond holds fails truth is = rw (is, beq_self truth) refl

where_steps : (spec : Spec) (c : Config) (rest : List Task) (stmt : Stmt) (passed : ℕ) (cond : Cond)
    → truth_of c cond ≡ Some true → is_some (after_stmt spec c rest stmt passed (Assume cond) (events.Test true)) ≡ true
where_steps spec c rest stmt passed cond is = rw is refl

compares : (equal : Option Bool) (outcome : Bool) (after : Option Config) → equal ≡ Some outcome → is_some after ≡ true
    → is_some (equal >>= (λ equal. only_if (beq equal outcome) after)) ≡ true
compares equal outcome after is gave = rw (is, beq_self outcome) gave

-- what a test or a send that may come next is
abbrev pub StepsBy : Spec → Config → List Task → Stmt → ℕ → StmtKind → ServerEvent → Type 0
StepsBy spec c rest stmt passed kind event = IsTestOrSend event × (is_some (after_stmt spec c rest stmt passed kind event) ≡ true)

-- The event that a statement may show is a test or a send, and one of a step.
forced_steps : (spec : Spec) (c : Config) (rest : List Task) (stmt : Stmt) (passed : ℕ) (kind : StmtKind) (event : ServerEvent)
    → forced_by spec c passed kind ≡ Some event → StepsBy spec c rest stmt passed kind event
forced_steps spec c rest stmt passed (Send named parts) event e =
    let conn = bind_gave (conn_named spec c named) _ event e in
    let number = bind_gave (number_of c named) _ conn.0 conn.1 in
    let within = only_if_gave (nat_lt number.0 spec.shape.conns) (Some number.0) conn.0 number.2 in
    let message = bind_gave (message_sent spec c parts) _ event conn.2 in
    let pieces = bind_gave (parts_sent c parts) _ message.0 message.1 in
    let short = only_if_gave (is_message spec.shape (concat pieces.0)) (Some (concat pieces.0)) message.0 pieces.2 in
    let is : events.Send number.0 (concat pieces.0) ≡ event = cc in
    subst (StepsBy spec c rest stmt passed (Send named parts)) is
    (tt, send_steps spec c rest stmt passed named parts number.0 pieces.0 number.1 within.0 pieces.1 short.0)
forced_steps spec c rest stmt passed (If cond holds fails) event e =
    let truth = map_gave (λ outcome. events.Test outcome) (truth_of c cond) event e in
    subst (StepsBy spec c rest stmt passed (If cond holds fails)) truth.2 (tt, if_steps spec c rest stmt passed cond holds fails truth.0 truth.1)
forced_steps spec c rest stmt passed (Assume cond) event e =
    let outcome = map_gave (λ outcome. events.Test outcome) (forced_test c passed (Assume cond)) event e in
    let truth = bind_gave (truth_of c cond) _ outcome.0 outcome.1 in
    let holds = only_if_gave truth.0 (Some true) outcome.0 truth.2 in
    let is : events.Test true ≡ event = cc in
    subst (StepsBy spec c rest stmt passed (Assume cond)) is (tt, where_steps spec c rest stmt passed cond (truth.1 ∙ ap Some holds.0))
forced_steps spec c rest stmt passed (Put table key value) event e =
    let outcome = map_gave (λ outcome. events.Test outcome) (forced_test c passed (Put table key value)) event e in
    let equal = bind_gave (key_is_at c table key passed) _ outcome.0 outcome.1 in
    let allowed = only_if_gave (not equal.0 || is_some (text_of c value)) (Some equal.0) outcome.0 equal.2 in
    let is : events.Test equal.0 ≡ event = cc in
    let steps = put_steps c rest stmt table key value passed equal.0 equal.1 allowed.0 in
    subst (StepsBy spec c rest stmt passed (Put table key value)) is (tt, compares (key_is_at c table key passed) equal.0 _ equal.1 steps)
forced_steps spec c rest stmt passed (Lookup table key name holds fails) event e =
    let equal = map_gave (λ outcome. events.Test outcome) (key_is_at c table key passed) event e in
    let steps = lookup_steps c rest stmt table key name holds fails passed equal.0 equal.1 in
    subst (StepsBy spec c rest stmt passed (Lookup table key name holds fails)) equal.2 (tt, compares (key_is_at c table key passed) equal.0 _ equal.1 steps)
forced_steps spec c rest stmt passed (Delete table key) event e =
    let equal = map_gave (λ outcome. events.Test outcome) (key_is_at c table key passed) event e in
    let steps = delete_steps c rest stmt table key passed equal.0 equal.1 in
    subst (StepsBy spec c rest stmt passed (Delete table key)) equal.2 (tt, compares (key_is_at c table key passed) equal.0 _ equal.1 steps)
forced_steps spec c rest stmt passed _ event e = absurd (cc)

-- only a statement that makes no choice may show a forced event
forced_is_plain : (spec : Spec) (c : Config) (passed : ℕ) (kind : StmtKind) (event : ServerEvent) → forced_by spec c passed kind ≡ Some event → is_plain kind ≡ true
forced_is_plain spec c passed (Recv chan cases other block) event e = absurd (cc)
forced_is_plain spec c passed (Pick name len alphabet) event e = absurd (cc)
forced_is_plain spec c passed (Either arms) event e = absurd (cc)
forced_is_plain spec c passed (Send named parts) event e = refl
forced_is_plain spec c passed (Assign name left tail) event e = refl
forced_is_plain spec c passed (If cond holds fails) event e = refl
forced_is_plain spec c passed (Assume cond) event e = refl
forced_is_plain spec c passed (Put table key value) event e = refl
forced_is_plain spec c passed (Lookup table key name holds fails) event e = refl
forced_is_plain spec c passed (Delete table key) event e = refl

same_some : {A : Type 0} (a b : A) → Some a ≡ Some b → a ≡ b
same_some a b e = cc

-- an event that is a test or a send, and the only one after which these steps leave something
abbrev pub ForcedOf : (ServerEvent → Option Config) → ServerEvent → Type 0
ForcedOf step event = IsTestOrSend event × ((middle : Config) × (step event ≡ Some middle))
    × ((other : ServerEvent) (middle : Config) → step other ≡ Some middle → other ≡ event)

pub forced_of_kind : (spec : Spec) (c : Config) (rest : List Task) (stmt : Stmt) (passed : ℕ) (kind : StmtKind) (event : ServerEvent)
    → forced_by spec c passed kind ≡ Some event → ForcedOf (after_stmt spec c rest stmt passed kind) event
forced_of_kind spec c rest stmt passed kind event e =
    let steps = forced_steps spec c rest stmt passed kind event e in
    let plain = forced_is_plain spec c passed kind event e in (
      steps.0,
      there (after_stmt spec c rest stmt passed kind event) steps.1,
      λ other middle gave. same_some other event (sym (step_is_forced spec c rest stmt passed kind other middle plain gave) ∙ e),
    )

forced_at_todo : (spec : Spec) (c : Config) (todo : List Task) (event : ServerEvent) → forced_at spec c todo ≡ Some event → ForcedOf (after_event_at spec c todo) event
forced_at_todo spec c [] event e = absurd (cc)
forced_at_todo spec c (Forget count ∷ rest) event e = absurd (cc)
forced_at_todo spec c (Do stmt passed ∷ rest) event e = forced_of_kind spec c rest stmt passed (kind_of stmt) event e

-- The event that may come next, where that is a test or a send, is forced.
pub forced_event_is_forced : (spec : Spec) (c : Config) (event : ServerEvent) → forced_event spec c ≡ Some event → IsForced spec c event
forced_event_is_forced spec c event e =
    let forced = forced_at_todo spec c c.todo event e in
    record { kind = forced.0; step = forced.1; only = λ other step. forced.2 other step.0 step.1 }

forced_if_some : (spec : Spec) (c : Config) (answer : Option ServerEvent) → answer ≡ forced_event spec c → IfSome answer (λ event. IsForced spec c event)
forced_if_some spec c None is = tt
forced_if_some spec c (Some event) is = forced_event_is_forced spec c event (sym is)

pub forced_event_if_some : {E : Type 0} (spec : Spec) (c : Config) (answer : Result (Option ServerEvent) E)
    → IfOk answer (λ answer. answer ≡ forced_event spec c) → IfOk answer (λ answer. IfSome answer (λ event. IsForced spec c event))
forced_event_if_some spec c (Ok answer) is = forced_if_some spec c answer is
forced_event_if_some spec c (Err error) is = tt
