-- Options tell which steps there are.
use Rattle.std.proofs.Common.{◌≡◌, ◌↔◌, ℕ, zero, suc, ◌<◌, min, Bool, true, false, ◌&&◌, ◌==◌, nat_lt, nat_le, List, [], ◌∷◌, ◌++◌, length, replicate, get_or, if◌then◌else◌, Option, Some, None, option_map, slice_get, refl, sym, ◌∙◌, ap, eq-eqb, arith}
use Rattle.std.specs.List.{list_all}
use Rattle.std.proofs.Math.Nat.{min-eq_left}
use Rattle.std.proofs.lemmas.Bool.{eqb-true, le-leb, ltb-false, ltb-true}
use Rattle.std.proofs.lemmas.List.{length-replicate}
use Rattle.std.proofs.lemmas.Option.{slice_get-get_or, slice_get_within}
use Rattle.spec_model.specs.declared.config.Config.{Config}
use Rattle.spec_model.specs.declared.config.Task.{Task}
use Rattle.spec_model.specs.declared.config.Task.TheVariants.{Do, Forget}
use Rattle.spec_model.specs.declared.config.Value.TheVariants.{Text}
use Rattle.spec_model.specs.declared.event.Framing.{Framing}
use Rattle.spec_model.specs.declared.event.Framing.TheVariants.{Line, Len16}
use Rattle.spec_model.specs.declared.event.ServerEvent.{ServerEvent}
use Rattle.spec_model.specs.declared.event.ServerEvent.TheVariants as events
use Rattle.spec_model.specs.declared.tree.Alphabet.{Alphabet}
use Rattle.spec_model.specs.declared.tree.Alphabet.TheVariants.{Hex, Alnum, Any}
use Rattle.spec_model.specs.declared.tree.Block.{Block}
use Rattle.spec_model.specs.declared.tree.Case.{Case}
use Rattle.spec_model.specs.declared.tree.Chan.TheVariants.{Bind, From}
use Rattle.spec_model.specs.declared.tree.Expr.{Expr}
use Rattle.spec_model.specs.declared.tree.Kind.TheOpen.{Recv, Send, Pick, Assign, If, Either, Assume, Put, Lookup, Delete}
use Rattle.spec_model.specs.declared.tree.Spec.{Spec}
use Rattle.spec_model.specs.declared.tree.Stmt.{Stmt}
use Rattle.spec_model.specs.Config.{StmtKind, after_entering, kind_of}
use Rattle.spec_model.specs.Message.{is_message, may_pass}
use Rattle.spec_model.specs.Step.{after_event_at, after_stmt, after_take, chosen_case, is_character, may_be_picked}
use Rattle.spec_model.specs.Value.{number_of}
use Rattle.spec_model.proofs.Partial.{bind_gave, both_passed, map_gave, only_if_gave}
use Rattle.server_run.specs.declared.options.Options.{Options}
use Rattle.server_run.specs.declared.options.Options.TheVariants as options
use Rattle.server_run.specs.Options.{IsOffered, IsTold, Tells, conn_named, forced_by, forced_or_stuck, is_told, is_told_at, options_at, options_by, options_in, rest_or_stuck}
use Rattle.server_run.proofs.ForcedEvents.{ForcedOf, forced_of_kind, is_plain, step_is_forced}

-- what options tell of events after which these steps leave something
abbrev StepsOf : (ServerEvent → Option Config) → ServerEvent → Type 0
StepsOf step event = (middle : Config) × (step event ≡ Some middle)

abbrev TellsOf : Spec → (ServerEvent → Option Config) → Options → Type 0
TellsOf spec step options.Stuck = (event : ServerEvent) → ¬ StepsOf step event
TellsOf spec step options.Forced = (event : ServerEvent) × ForcedOf step event
TellsOf spec step told = ((event : ServerEvent) × StepsOf step event) × ((event : ServerEvent) → StepsOf step event ↔ IsOffered spec told event)

same_some : {A : Type 0} (a b : A) → Some a ≡ Some b → a ≡ b
same_some a b e = cc

none_some : {A : Type 0} (x : A) → None ≡ Some x → ⊥
none_some x e = absurd (cc)

-- the empty message may pass on each connection
empty_passes : (spec : Spec) (conn : ℕ) → nat_lt conn spec.shape.conns ≡ true → may_pass spec.shape conn [] ≡ true
empty_passes spec conn within = let short : nat_le 0 spec.shape.limit ≡ true = le-leb 0 spec.shape.limit (omega arith) in rw (within, short) refl

conn_within : (spec : Spec) (conn : ℕ) (message : List ℕ) → may_pass spec.shape conn message ≡ true → nat_lt conn spec.shape.conns ≡ true
conn_within spec conn message passes = (both_passed (nat_lt conn spec.shape.conns) (is_message spec.shape message) passes).0

no_conn : (spec : Spec) (conn : ℕ) (message : List ℕ) → nat_lt 0 spec.shape.conns ≡ false → may_pass spec.shape conn message ≡ true → ⊥
no_conn spec conn message none passes =
    let within = ltb-true conn spec.shape.conns (conn_within spec conn message passes) in
    let past = ltb-false 0 spec.shape.conns none in omega (arith, within, past)

any_iff : (spec : Spec) (c : Config) (rest : List Task) (stmt : Stmt) (passed : ℕ) (name : List ℕ) (cases : List Case) (other : List ℕ) (block : Block) (event : ServerEvent)
    → StepsOf (after_stmt spec c rest stmt passed (Recv (Bind name) cases other block)) event ↔ IsOffered spec (options.Rest None) event
any_iff spec c rest stmt passed name cases other block (events.Take conn message) = (
  λ step. (only_if_gave (may_pass spec.shape conn message) _ step.0 step.1).0,
  λ passes. (after_take c rest (Bind name) conn message (chosen_case cases other block message), rw passes refl),
)
any_iff spec c rest stmt passed name cases other block (events.Arm arm) = (λ step. none_some step.0 step.1, λ wrong. absurd wrong)
any_iff spec c rest stmt passed name cases other block (events.Test outcome) = (λ step. none_some step.0 step.1, λ wrong. absurd wrong)
any_iff spec c rest stmt passed name cases other block (events.Pick text) = (λ step. none_some step.0 step.1, λ wrong. absurd wrong)
any_iff spec c rest stmt passed name cases other block (events.Send conn message) = (λ step. none_some step.0 step.1, λ wrong. absurd wrong)

any_stuck : (spec : Spec) (event : ServerEvent) → nat_lt 0 spec.shape.conns ≡ false → IsOffered spec (options.Rest None) event → ⊥
any_stuck spec (events.Take conn message) none passes = no_conn spec conn message none passes
any_stuck spec (events.Arm arm) none wrong = wrong
any_stuck spec (events.Test outcome) none wrong = wrong
any_stuck spec (events.Pick text) none wrong = wrong
any_stuck spec (events.Send conn message) none wrong = wrong

tells_any : (spec : Spec) (c : Config) (rest : List Task) (stmt : Stmt) (passed : ℕ) (name : List ℕ) (cases : List Case) (other : List ℕ) (block : Block) (some : Bool)
    → nat_lt 0 spec.shape.conns ≡ some
    → TellsOf spec (after_stmt spec c rest stmt passed (Recv (Bind name) cases other block)) (if some then options.Rest None else options.Stuck)
tells_any spec c rest stmt passed name cases other block true some = (
  (events.Take 0 [], (any_iff spec c rest stmt passed name cases other block (events.Take 0 [])).1 (empty_passes spec 0 some)),
  any_iff spec c rest stmt passed name cases other block,
)
tells_any spec c rest stmt passed name cases other block false none =
    λ event step. any_stuck spec event none ((any_iff spec c rest stmt passed name cases other block event).0 step)

-- a `recv` from a named connection takes from that one alone
from_takes : (spec : Spec) (c : Config) (rest : List Task) (stmt : Stmt) (passed : ℕ) (named : Expr) (cases : List Case) (other : List ℕ) (block : Block) (conn : ℕ) (message : List ℕ)
    → StepsOf (after_stmt spec c rest stmt passed (Recv (From named) cases other block)) (events.Take conn message)
    → (number_of c named ≡ Some conn) × (may_pass spec.shape conn message ≡ true)
from_takes spec c rest stmt passed named cases other block conn message step =
    let allowed = bind_gave (option_map (λ number. number == conn) (number_of c named)) _ step.0 step.1 in
    let number = map_gave (λ number. number == conn) (number_of c named) allowed.0 allowed.1 in
    let tests = both_passed allowed.0 (may_pass spec.shape conn message) (only_if_gave (allowed.0 && may_pass spec.shape conn message) _ step.0 allowed.2).0 in
    (number.1 ∙ ap Some (eqb-true number.0 conn (number.2 ∙ tests.0)), tests.1)

from_may : (spec : Spec) (c : Config) (rest : List Task) (stmt : Stmt) (passed : ℕ) (named : Expr) (cases : List Case) (other : List ℕ) (block : Block) (conn : ℕ) (message : List ℕ)
    → number_of c named ≡ Some conn → may_pass spec.shape conn message ≡ true
    → StepsOf (after_stmt spec c rest stmt passed (Recv (From named) cases other block)) (events.Take conn message)
from_may spec c rest stmt passed named cases other block conn message is passes =
    let self : (conn == conn) ≡ true = eq-eqb conn conn refl in
    (after_take c rest (From named) conn message (chosen_case cases other block message), rw (is, self, passes) refl)

conn_named-gave : (spec : Spec) (c : Config) (named : Expr) (conn : ℕ) → conn_named spec c named ≡ Some conn
    → (number_of c named ≡ Some conn) × (nat_lt conn spec.shape.conns ≡ true)
conn_named-gave spec c named conn e =
    let number = bind_gave (number_of c named) _ conn e in
    let within = only_if_gave (nat_lt number.0 spec.shape.conns) (Some number.0) conn number.2 in
    let same : number.0 ≡ conn = cc in
    (number.1 ∙ ap Some same, sym (ap (λ n. nat_lt n spec.shape.conns) same) ∙ within.0)

conn_named-is : (spec : Spec) (c : Config) (named : Expr) (conn : ℕ) → number_of c named ≡ Some conn → nat_lt conn spec.shape.conns ≡ true
    → conn_named spec c named ≡ Some conn
conn_named-is spec c named conn is within = rw (is, within) refl

from_iff : (spec : Spec) (c : Config) (rest : List Task) (stmt : Stmt) (passed : ℕ) (named : Expr) (cases : List Case) (other : List ℕ) (block : Block) (from : ℕ)
    → number_of c named ≡ Some from → (event : ServerEvent)
    → StepsOf (after_stmt spec c rest stmt passed (Recv (From named) cases other block)) event ↔ IsOffered spec (options.Rest (Some from)) event
from_iff spec c rest stmt passed named cases other block from is (events.Take conn message) = (
  λ step. let takes = from_takes spec c rest stmt passed named cases other block conn message step in
      let same : conn ≡ from = same_some conn from (sym takes.0 ∙ is) in (same, takes.1),
  λ offered. from_may spec c rest stmt passed named cases other block conn message (is ∙ ap Some (sym offered.0)) offered.1,
)
from_iff spec c rest stmt passed named cases other block from is (events.Arm arm) = (λ step. none_some step.0 step.1, λ wrong. absurd wrong)
from_iff spec c rest stmt passed named cases other block from is (events.Test outcome) = (λ step. none_some step.0 step.1, λ wrong. absurd wrong)
from_iff spec c rest stmt passed named cases other block from is (events.Pick text) = (λ step. none_some step.0 step.1, λ wrong. absurd wrong)
from_iff spec c rest stmt passed named cases other block from is (events.Send conn message) = (λ step. none_some step.0 step.1, λ wrong. absurd wrong)

from_stuck : (spec : Spec) (c : Config) (rest : List Task) (stmt : Stmt) (passed : ℕ) (named : Expr) (cases : List Case) (other : List ℕ) (block : Block)
    → conn_named spec c named ≡ None → (event : ServerEvent) → StepsOf (after_stmt spec c rest stmt passed (Recv (From named) cases other block)) event → ⊥
from_stuck spec c rest stmt passed named cases other block none (events.Take conn message) step =
    let takes = from_takes spec c rest stmt passed named cases other block conn message step in
    none_some conn (sym none ∙ conn_named-is spec c named conn takes.0 (conn_within spec conn message takes.1))
from_stuck spec c rest stmt passed named cases other block none (events.Arm arm) step = none_some step.0 step.1
from_stuck spec c rest stmt passed named cases other block none (events.Test outcome) step = none_some step.0 step.1
from_stuck spec c rest stmt passed named cases other block none (events.Pick text) step = none_some step.0 step.1
from_stuck spec c rest stmt passed named cases other block none (events.Send conn message) step = none_some step.0 step.1

tells_from : (spec : Spec) (c : Config) (rest : List Task) (stmt : Stmt) (passed : ℕ) (named : Expr) (cases : List Case) (other : List ℕ) (block : Block) (conn : Option ℕ)
    → conn_named spec c named ≡ conn → TellsOf spec (after_stmt spec c rest stmt passed (Recv (From named) cases other block)) (rest_or_stuck conn)
tells_from spec c rest stmt passed named cases other block None none = from_stuck spec c rest stmt passed named cases other block none
tells_from spec c rest stmt passed named cases other block (Some conn) e =
    let there = conn_named-gave spec c named conn e in (
      (events.Take conn [], from_may spec c rest stmt passed named cases other block conn [] there.0 (empty_passes spec conn there.1)),
      from_iff spec c rest stmt passed named cases other block conn there.0,
    )

-- each alphabet has the character 0
abbrev zero_character : ℕ
zero_character = 48

abbrev zeros : ℕ → List ℕ
zeros len = replicate len zero_character

has_zero : (framing : Framing) (alphabet : Alphabet) → is_character framing alphabet 48 ≡ true
has_zero framing Hex = refl
has_zero framing Alnum = refl
has_zero Line Any = refl
has_zero Len16 Any = refl

all_zero : (framing : Framing) (alphabet : Alphabet) (len : ℕ) → list_all (is_character framing alphabet) (zeros len) ≡ true
all_zero framing alphabet zero = refl
all_zero framing alphabet (suc len) = rw (has_zero framing alphabet) (all_zero framing alphabet len)

zeros_picked : (framing : Framing) (alphabet : Alphabet) (len : ℕ) → may_be_picked framing len alphabet (zeros len) ≡ true
zeros_picked framing alphabet len =
    let long : (length (zeros len) == len) ≡ true = eq-eqb (length (zeros len)) len (length-replicate len zero_character) in
    rw (long, all_zero framing alphabet len) refl

pick_iff : (spec : Spec) (c : Config) (rest : List Task) (stmt : Stmt) (passed : ℕ) (name : List ℕ) (len : ℕ) (alphabet : Alphabet) (event : ServerEvent)
    → StepsOf (after_stmt spec c rest stmt passed (Pick name len alphabet)) event ↔ IsOffered spec (options.Pick len alphabet) event
pick_iff spec c rest stmt passed name len alphabet (events.Pick text) = (
  λ step. (only_if_gave (may_be_picked spec.shape.framing len alphabet text) _ step.0 step.1).0,
  λ may. (record c { todo = rest; locals = c.locals ++ record { name = name; value = Text text } ∷ [] }, rw may refl),
)
pick_iff spec c rest stmt passed name len alphabet (events.Take conn message) = (λ step. none_some step.0 step.1, λ wrong. absurd wrong)
pick_iff spec c rest stmt passed name len alphabet (events.Arm arm) = (λ step. none_some step.0 step.1, λ wrong. absurd wrong)
pick_iff spec c rest stmt passed name len alphabet (events.Test outcome) = (λ step. none_some step.0 step.1, λ wrong. absurd wrong)
pick_iff spec c rest stmt passed name len alphabet (events.Send conn message) = (λ step. none_some step.0 step.1, λ wrong. absurd wrong)

tells_pick : (spec : Spec) (c : Config) (rest : List Task) (stmt : Stmt) (passed : ℕ) (name : List ℕ) (len : ℕ) (alphabet : Alphabet)
    → nat_lt len 256 ≡ true → TellsOf spec (after_stmt spec c rest stmt passed (Pick name len alphabet)) (options.Pick (min len 255) alphabet)
tells_pick spec c rest stmt passed name len alphabet small =
    let short = ltb-true len 256 small in
    let same : min len 255 ≡ len = min-eq_left (omega (arith, short)) in
    rw same (
      (events.Pick (zeros len), (pick_iff spec c rest stmt passed name len alphabet (events.Pick (zeros len))).1 (zeros_picked spec.shape.framing alphabet len)),
      pick_iff spec c rest stmt passed name len alphabet,
    )

arm_there : (arms : List Block) (arm : ℕ) → arm < length arms → (block : Block) × (slice_get arms arm ≡ Some block)
arm_there [] arm within = absurd (omega arith)
arm_there (first ∷ arms) arm within = (get_or (first ∷ arms) arm first, slice_get-get_or (first ∷ arms) arm first within)

no_arm : (spec : Spec) (event : ServerEvent) → IsOffered spec (options.Arms 0) event → ⊥
no_arm spec (events.Arm arm) within = omega arith
no_arm spec (events.Take conn message) wrong = wrong
no_arm spec (events.Test outcome) wrong = wrong
no_arm spec (events.Pick text) wrong = wrong
no_arm spec (events.Send conn message) wrong = wrong

arm_iff : (spec : Spec) (c : Config) (rest : List Task) (stmt : Stmt) (passed : ℕ) (arms : List Block) (event : ServerEvent)
    → StepsOf (after_stmt spec c rest stmt passed (Either arms)) event ↔ IsOffered spec (options.Arms (length arms)) event
arm_iff spec c rest stmt passed arms (events.Arm arm) = (
  λ step. let block = map_gave (λ block. after_entering c rest block []) (slice_get arms arm) step.0 step.1 in slice_get_within arms arm block.0 block.1,
  λ within. let block = arm_there arms arm within in (after_entering c rest block.0 [], ap (option_map (λ block. after_entering c rest block [])) block.1),
)
arm_iff spec c rest stmt passed arms (events.Take conn message) = (λ step. none_some step.0 step.1, λ wrong. absurd wrong)
arm_iff spec c rest stmt passed arms (events.Test outcome) = (λ step. none_some step.0 step.1, λ wrong. absurd wrong)
arm_iff spec c rest stmt passed arms (events.Pick text) = (λ step. none_some step.0 step.1, λ wrong. absurd wrong)
arm_iff spec c rest stmt passed arms (events.Send conn message) = (λ step. none_some step.0 step.1, λ wrong. absurd wrong)

tells_arms : (spec : Spec) (c : Config) (rest : List Task) (stmt : Stmt) (passed : ℕ) (arms : List Block)
    → is_told (Either arms) ≡ true → TellsOf spec (after_stmt spec c rest stmt passed (Either arms)) (options_by spec c passed (Either arms))
tells_arms spec c rest stmt passed [] small = λ event step. no_arm spec event ((arm_iff spec c rest stmt passed [] event).0 step)
tells_arms spec c rest stmt passed (arm ∷ arms) small =
    let few = ltb-true (length (arm ∷ arms)) 65536 small in
    let same : min (length (arm ∷ arms)) 65535 ≡ length (arm ∷ arms) = min-eq_left (omega (arith, few)) in
    let first : 0 < length (arm ∷ arms) = omega arith in
    rw same ((events.Arm 0, (arm_iff spec c rest stmt passed (arm ∷ arms) (events.Arm 0)).1 first), arm_iff spec c rest stmt passed (arm ∷ arms))

-- a statement that makes no choice
tells_plain : (spec : Spec) (c : Config) (rest : List Task) (stmt : Stmt) (passed : ℕ) (kind : StmtKind) (event : Option ServerEvent) → is_plain kind ≡ true
    → forced_by spec c passed kind ≡ event → TellsOf spec (after_stmt spec c rest stmt passed kind) (forced_or_stuck event)
tells_plain spec c rest stmt passed kind None plain none =
    λ event step. none_some event (sym none ∙ step_is_forced spec c rest stmt passed kind event step.0 plain step.1)
tells_plain spec c rest stmt passed kind (Some event) plain e = (event, forced_of_kind spec c rest stmt passed kind event e)

tells_by : (spec : Spec) (c : Config) (rest : List Task) (stmt : Stmt) (passed : ℕ) (kind : StmtKind) → is_told kind ≡ true
    → TellsOf spec (after_stmt spec c rest stmt passed kind) (options_by spec c passed kind)
tells_by spec c rest stmt passed (Recv (Bind name) cases other block) told =
    tells_any spec c rest stmt passed name cases other block (nat_lt 0 spec.shape.conns) refl
tells_by spec c rest stmt passed (Recv (From named) cases other block) told =
    tells_from spec c rest stmt passed named cases other block (conn_named spec c named) refl
tells_by spec c rest stmt passed (Pick name len alphabet) told = tells_pick spec c rest stmt passed name len alphabet told
tells_by spec c rest stmt passed (Either arms) told = tells_arms spec c rest stmt passed arms told
tells_by spec c rest stmt passed (Send named parts) told = tells_plain spec c rest stmt passed (Send named parts) _ refl refl
tells_by spec c rest stmt passed (Assign name left tail) told = tells_plain spec c rest stmt passed (Assign name left tail) _ refl refl
tells_by spec c rest stmt passed (If cond holds fails) told = tells_plain spec c rest stmt passed (If cond holds fails) _ refl refl
tells_by spec c rest stmt passed (Assume cond) told = tells_plain spec c rest stmt passed (Assume cond) _ refl refl
tells_by spec c rest stmt passed (Put table key value) told = tells_plain spec c rest stmt passed (Put table key value) _ refl refl
tells_by spec c rest stmt passed (Lookup table key name holds fails) told = tells_plain spec c rest stmt passed (Lookup table key name holds fails) _ refl refl
tells_by spec c rest stmt passed (Delete table key) told = tells_plain spec c rest stmt passed (Delete table key) _ refl refl

tells_at : (spec : Spec) (c : Config) (todo : List Task) → is_told_at todo ≡ true → TellsOf spec (after_event_at spec c todo) (options_at spec c todo)
tells_at spec c [] told = λ event step. none_some step.0 step.1
tells_at spec c (Forget count ∷ rest) told = λ event step. none_some step.0 step.1
tells_at spec c (Do stmt passed ∷ rest) told = tells_by spec c rest stmt passed (kind_of stmt) told

tells_of : (spec : Spec) (c : Config) (told : Options) → TellsOf spec (after_event_at spec c c.todo) told → Tells spec c told
tells_of spec c options.Stuck tells = tells
tells_of spec c options.Forced (event, forced) = (event, record { kind = forced.0; step = forced.1; only = λ other step. forced.2 other step.0 step.1 })
tells_of spec c (options.Rest from) tells = tells
tells_of spec c (options.Pick len alphabet) tells = tells
tells_of spec c (options.Arms count) tells = tells

-- Options tell which steps there are.
pub options_tell : (spec : Spec) (c : Config) → IsTold c → Tells spec c (options_in spec c)
options_tell spec c told = tells_of spec c (options_in spec c) (tells_at spec c c.todo told)
